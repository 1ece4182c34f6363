use Rattle.std.proofs.Common.{◌≡◌, ◌+◌, ◌-◌, arith, refl, sym, ap, subst, Some, inl}
use Rattle.std.specs.Prelude.{slice_get}
use Rattle.bz_ascent.specs.declared.ascent.Ascent.{Ascent}
use Rattle.bz_any_task.specs.Duties.{wants_of, ascent_of, makes_no_change, view_of}
use Rattle.bz_any_task.specs.Kinds.{kind_of}
use Rattle.bz_any_task.specs.MadeFor.{IsMadeFor}
use Rattle.bz_any_task.proofs.Ascending.{same-ascent}
use Rattle.bz_any_task.proofs.above.split_inner.Goals as goal

pub returns-clause-split : goal.returns-clause-split
unfolding view_of wants_of ascent_of makes_no_change IsMadeFor kind_of
returns-clause-split c = record {
  config = c.new-task.ensures.begun.config;
  kind = inl (refl, c.requires.below);
  asks = c.new-task.ensures.begun.asks;
  left = omega (arith, c.new-task.ensures.begun.left);
  swaps = c.new-task.ensures.begun.swaps;
  made = c.new-task.ensures.begun.made;
  wants = refl;
  silent = refl;
  facts = λ s same good a. (
    c.new-task.ensures.facts c.args.ascent.key s same good a.path,
    (
      a,
      record {
        lacks = λ next s one means. (
            let up : next.place ≡ c.args.ascent.place - 1 = omega (arith, one.before) in
            let down : c.args.ascent.place ≡ c.args.ascent.place - 1 + 1 = omega (arith, c.requires.below) in
            let p = c.new-task.ensures.no_room next.node c.args.ascent.node s
            (subst (λ z. slice_get c.args.ascent.path.links z ≡ Some next.node) up one.node)
            (subst (λ z. slice_get c.args.ascent.path.links z ≡ Some c.args.ascent.node) down c.requires.node) means in
            record { sep = p.sep; lacked = p.lacked });
        high = λ s means. absurd means;
      },
    ),
  );
  made_for = λ view words p foot w. (
      let down : c.args.ascent.place ≡ c.args.ascent.place - 1 + 1 = omega (arith, c.requires.below) in
      record {
        come = record {
          key_is = refl;
          node = sym (c.new-task.ensures.node c.args.ascent.node (subst (λ z. slice_get c.args.ascent.path.links z ≡ Some c.args.ascent.node) down c.requires.node));
          foot = foot;
          view = view;
          leaf = w;
        };
        below = c.requires.below;
      });
  ends = λ way. record {
    path = λ path s means. absurd (c.new-task.ensures.no_path path s means);
    view = λ view s means. absurd (c.new-task.ensures.no_view view s means);
    leads = λ path is view s means. absurd (c.new-task.ensures.no_view view s means);
    found = λ view s means. absurd means;
    leads_found = λ path is view s means. absurd means;
    ascent = λ a is. ap (λ (z : Ascent). z.key) (sym (same-ascent c.args.ascent a is));
  };
}
