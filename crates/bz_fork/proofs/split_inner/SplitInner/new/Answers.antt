use Rattle.std.proofs.Common.{◌≡◌, sym, ap, subst, ◌∙◌, arith, Some}
use Rattle.bz_task.specs.declared.path.Link.{Link}
use Rattle.bz_fork.specs.Facts.{WasSplitInner, LackedPart}
use Rattle.bz_fork.proofs.Viewing.{has-links}
use Rattle.bz_fork.proofs.split_inner.SplitInner.new.Goals as goal

one : (a b : Link) → Some a ≡ Some b → a ≡ b
one a b e = cc

pub returns-clause-facts : goal.returns-clause-facts
returns-clause-facts c key s same good path = record {
  links = has-links c.slots_apart.ensures key c.args.path s.past path c.args.place c.requires.due c.link_at.result c.link_at-middle.result c.link_at-lower.result c.link_at.ensures c.link_at-middle.ensures c.link_at-lower.ensures;
  were = record { size = c.first_word-read.ensures.size; first = c.first_word-read.ensures.first; rest = λ i some l. absurd (omega (arith, some, l)); blank = λ i some. c.first_word-read.ensures.blank i some };
  above = record { size = c.first_word-above.ensures.size; first = c.first_word-above.ensures.first; rest = λ i some l. absurd (omega (arith, some, l)); blank = λ i some. c.first_word-above.ensures.blank i some };
}

pub returns-clause-done : goal.returns-clause-done
returns-clause-done c upper middle s is on means =
    subst (λ (z : Link). WasSplitInner upper z s.past) (one c.link_at-middle.result middle (sym c.link_at-middle.ensures ∙ on)) (subst (λ (z : Link). WasSplitInner z c.link_at-middle.result s.past) (one c.link_at.result upper (sym c.link_at.ensures ∙ is)) means)

pub returns-clause-no_room : goal.returns-clause-no_room
returns-clause-no_room c upper middle s is on means =
    subst (λ (z : Link). LackedPart upper z s.past) (one c.link_at-middle.result middle (sym c.link_at-middle.ensures ∙ on)) (subst (λ (z : Link). LackedPart z c.link_at-middle.result s.past) (one c.link_at.result upper (sym c.link_at.ensures ∙ is)) means)

pub returns-clause-node : goal.returns-clause-node
returns-clause-node c middle is = ap (λ (z : Link). z.slot) (one c.link_at-middle.result middle (sym c.link_at-middle.ensures ∙ is))
