use Rattle.std.proofs.Common.{◌≡◌, sym, subst, ◌∙◌, Some}
use Rattle.bz_task.specs.declared.path.Link.{Link}
use Rattle.bz_below.specs.Facts.{WasSplitBelow, LackedRoom}
use Rattle.bz_below.proofs.Viewing.{parted-below}
use Rattle.bz_below.proofs.split_below.SplitBelow.new.Goals as goal

one : (a b : Link) → Some a ≡ Some b → a ≡ b
one a b e = cc

pub returns-clause-facts : goal.returns-clause-facts
returns-clause-facts c key s same good path view =
    let h = c.parts_of-halves in record {
      parted = parted-below c.views_show_frozen_leaves.ensures c.slots_apart.ensures key c.args.path c.args.view c.upper_link.result c.last_link-lower.result h.result.left.0 h.result.right.0 h.result.separator s good path view c.requires.frozen c.requires.many c.requires.leads c.requires.thawed c.requires.deep
          c.upper_link.ensures c.last_link-lower.ensures h.ensures;
      unread = record { size = c.first_word.ensures.size; first = c.first_word.ensures.first; blank = λ i some. c.first_word.ensures.blank i some };
    }

pub returns-clause-done : goal.returns-clause-done
returns-clause-done c upper lower s is on means =
    let h = c.parts_of-halves in
    let above : c.upper_link.result ≡ upper = one c.upper_link.result upper (sym c.upper_link.ensures ∙ is) in
    let below : c.last_link-lower.result ≡ lower = one c.last_link-lower.result lower (sym c.last_link-lower.ensures ∙ on) in
    record {
      left = h.result.left.0;
      right = h.result.right.0;
      sep = h.result.separator;
      parts = h.ensures;
      split = subst (λ (z : Link). WasSplitBelow upper z h.result.left.0 h.result.right.0 h.result.separator s.past) below
          (subst (λ (z : Link). WasSplitBelow z c.last_link-lower.result h.result.left.0 h.result.right.0 h.result.separator s.past) above means);
    }

pub returns-clause-no_room : goal.returns-clause-no_room
returns-clause-no_room c upper lower s is on means =
    let h = c.parts_of-halves in
    let above : c.upper_link.result ≡ upper = one c.upper_link.result upper (sym c.upper_link.ensures ∙ is) in
    let below : c.last_link-lower.result ≡ lower = one c.last_link-lower.result lower (sym c.last_link-lower.ensures ∙ on) in
    record {
      left = h.result.left.0;
      right = h.result.right.0;
      sep = h.result.separator;
      parts = h.ensures;
      lacked = subst (λ (z : Link). LackedRoom upper z h.result.separator s.past) below (subst (λ (z : Link). LackedRoom z c.last_link-lower.result h.result.separator s.past) above means);
    }

pub returns-clause-slot : goal.returns-clause-slot
returns-clause-slot c = (c.requires.leads c.last_link-lower.result c.last_link-lower.ensures).0
