use Rattle.std.proofs.Common.{◌≡◌, ◌-◌, arith, refl, sym, ap, subst, ◌∙◌, Some}
use Rattle.std.specs.Prelude.{slice_get}
use Rattle.bz_ascent.specs.declared.ascent.Ascent.{Ascent}
use Rattle.bz_task.specs.declared.path.Path.{Path}
use Rattle.bz_ascent.proofs.Proved.{ascents_begin}
use Rattle.bz_any_task.specs.Duties.{ascent_of, view_of}
use Rattle.bz_any_task.specs.Kinds.{kind_of}
use Rattle.bz_any_task.specs.MadeFor.{IsMadeFor}
use Rattle.bz_any_task.proofs.Ascending.{same-ascent, lower-link, upper-link}
use Rattle.bz_any_task.proofs.running.AnyTask.split_below.Goals as goal

pub returns-clause-ends : goal.returns-clause-ends
unfolding view_of ascent_of
returns-clause-ends c way = record {
  path = λ path s means. absurd (c.new-task.ensures.no_path path s means);
  view = λ view s means. absurd (c.new-task.ensures.no_view view s means);
  leads = λ path is view s means. absurd (c.new-task.ensures.no_view view s means);
  found = λ view s means. absurd (means);
  leads_found = λ path is view s means. absurd (means);
  ascent = λ a is. ap (λ (z : Ascent). z.key) (sym (same-ascent c.from_leaf.result a is)) ∙ c.from_leaf.ensures.key_is;
}

pub returns-clause-facts : goal.returns-clause-facts
unfolding view_of
returns-clause-facts c s same good path view = (
  c.new-task.ensures.facts c.args.key s same good path view,
  (
    ascents_begin c.from_leaf.result c.args.key c.args.path c.args.view s c.from_leaf.ensures good path view c.requires.frozen c.requires.leads,
    record {
      lacks = λ next s one means. (
          let p = c.new-task.ensures.no_room next.node c.from_leaf.result.node s (upper-link c.from_leaf.result next c.args.key c.args.path c.from_leaf.ensures one) (lower-link c.from_leaf.result next c.args.key c.args.path c.from_leaf.ensures one) means in
          record { sep = p.sep; lacked = p.lacked });
      high = λ s means. absurd means;
    },
  ),
)

pub returns-clause-made_for : goal.returns-clause-made_for
unfolding IsMadeFor
returns-clause-made_for c words p is =
    let at = c.from_leaf.ensures in
    let place : c.from_leaf.result.place ≡ c.from_leaf.result.path.depth - 1 = omega (arith, at.last, ap (λ (z : Path). z.depth) at.path_is) in
    let last : slice_get c.from_leaf.result.path.links (c.from_leaf.result.path.depth - 1) ≡ Some c.from_leaf.result.node = subst (λ i. slice_get c.from_leaf.result.path.links i ≡ Some c.from_leaf.result.node) place (subst (λ z. slice_get z.links c.from_leaf.result.place ≡ Some c.from_leaf.result.node) (sym at.path_is) at.node) in
    let depth : c.from_leaf.result.path.depth ≡ c.args.path.depth = ap (λ (z : Path). z.depth) at.path_is in
    record {
      halves = record {
        view = c.args.view;
        leaf = record { is = is; frozen = c.requires.frozen; many = c.requires.many };
        at = sym c.new-task.ensures.slot;
        halves = c.new-task.ensures.halves.halves;
      };
      foot = record { key_is = at.key_is; below = omega (arith, at.last, c.requires.deep); last = at.last ∙ sym depth; foot = record { last = c.from_leaf.result.node; is = last } };
    }

pub returns-clause-kind : goal.returns-clause-kind
unfolding kind_of
returns-clause-kind c = record { from = c.from_leaf.result; is = refl; leaf = c.from_leaf.ensures }
