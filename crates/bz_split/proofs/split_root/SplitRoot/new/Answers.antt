use Rattle.std.proofs.Common.{◌≡◌, sym, subst, ◌∙◌, Some}
use Rattle.bz_task.specs.declared.path.Link.{Link}
use Rattle.bz_split.specs.Facts.{WasSplit}
use Rattle.bz_split.proofs.Viewing.{has-parted}
use Rattle.bz_split.proofs.split_root.SplitRoot.new.Goals as goal

pub returns-clause-facts : goal.returns-clause-facts
returns-clause-facts c key s same good path view =
    let h = c.parts_of-halves in
    has-parted c.views_show_frozen_leaves.ensures key c.args.path c.args.view c.last_link.result h.result.left.0 h.result.right.0 h.result.separator s good path view c.requires.frozen c.requires.many c.requires.leads c.requires.root c.last_link.ensures h.ensures

pub returns-clause-done : goal.returns-clause-done
returns-clause-done c link s is means =
    let h = c.parts_of-halves in
    let same : c.last_link.result ≡ link = one c.last_link.result link (sym c.last_link.ensures ∙ is) in
    record {
      left = h.result.left.0;
      right = h.result.right.0;
      sep = h.result.separator;
      parts = h.ensures;
      split = subst (λ (z : Link). WasSplit z h.result.left.0 h.result.right.0 h.result.separator s.past) same means;
    }
  where
    one : (a b : Link) → Some a ≡ Some b → a ≡ b
    one a b e = cc

pub returns-clause-slot : goal.returns-clause-slot
returns-clause-slot c = (c.requires.leads c.last_link.result c.last_link.ensures).0
