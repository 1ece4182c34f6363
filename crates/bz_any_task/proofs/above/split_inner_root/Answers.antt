use Rattle.std.proofs.Common.{◌≡◌, arith, refl, sym, ap, subst, Some, inr}
use Rattle.std.specs.Prelude.{slice_get}
use Rattle.bz_ascent.specs.declared.ascent.Ascent.{Ascent}
use Rattle.bz_any_task.specs.Duties.{wants_of, ascent_of, makes_no_change, view_of}
use Rattle.bz_any_task.specs.Kinds.{kind_of}
use Rattle.bz_any_task.specs.MadeFor.{IsMadeFor}
use Rattle.bz_any_task.proofs.Ascending.{same-ascent}
use Rattle.bz_any_task.proofs.above.split_inner_root.Goals as goal

pub returns-clause-split : goal.returns-clause-split
unfolding view_of wants_of ascent_of makes_no_change IsMadeFor kind_of
returns-clause-split c = record {
  config = c.new-task.ensures.begun.config;
  kind = inr (refl, c.requires.root);
  asks = c.new-task.ensures.begun.asks;
  left = omega (arith, c.new-task.ensures.begun.left);
  swaps = c.new-task.ensures.begun.swaps;
  made = c.new-task.ensures.begun.made;
  wants = refl;
  silent = refl;
  facts = λ s same good a. (
    c.new-task.ensures.facts c.args.ascent.key s same good a.path,
    (
      a,
      record {
        lacks = λ next s one means. absurd (omega (arith, one.before, c.requires.root));
        high = λ s means. c.new-task.ensures.too_high c.args.ascent.node s (subst (λ z. slice_get c.args.ascent.path.links z ≡ Some c.args.ascent.node) c.requires.root c.requires.node) means;
      },
    ),
  );
  made_for = λ view words p foot w. record {
    come = record {
      key_is = refl;
      node = sym (c.new-task.ensures.node c.args.ascent.node (subst (λ z. slice_get c.args.ascent.path.links z ≡ Some c.args.ascent.node) c.requires.root c.requires.node));
      foot = foot;
      view = view;
      leaf = w;
    };
    root = c.requires.root;
  };
  ends = λ way. record {
    path = λ path s means. absurd (c.new-task.ensures.no_path path s means);
    view = λ view s means. absurd (c.new-task.ensures.no_view view s means);
    leads = λ path is view s means. absurd (c.new-task.ensures.no_view view s means);
    found = λ view s means. absurd means;
    leads_found = λ path is view s means. absurd means;
    ascent = λ a is. ap (λ (z : Ascent). z.key) (sym (same-ascent c.args.ascent a is));
  };
}
