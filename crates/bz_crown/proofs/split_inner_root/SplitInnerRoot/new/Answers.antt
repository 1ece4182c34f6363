use Rattle.std.proofs.Common.{◌≡◌, sym, ap, subst, ◌∙◌, arith, Some}
use Rattle.bz_task.specs.declared.path.Link.{Link}
use Rattle.bz_crown.specs.Facts.{WasSplitAtRoot, WasTooHigh}
use Rattle.bz_crown.proofs.Viewing.{has-links}
use Rattle.bz_crown.proofs.split_inner_root.SplitInnerRoot.new.Goals as goal

one : (a b : Link) → Some a ≡ Some b → a ≡ b
one a b e = cc

pub returns-clause-facts : goal.returns-clause-facts
returns-clause-facts c key s same good path = record {
  links = has-links c.slots_apart.ensures key c.args.path s.past path c.requires.due c.link_at.result c.link_at-lower.result c.link_at.ensures c.link_at-lower.ensures;
  were = record { size = c.first_word-read.ensures.size; first = c.first_word-read.ensures.first; rest = λ i some l. absurd (omega (arith, some, l)); blank = λ i some. c.first_word-read.ensures.blank i some };
}

pub returns-clause-done : goal.returns-clause-done
returns-clause-done c upper s is means = subst (λ (z : Link). WasSplitAtRoot z s.past) (one c.link_at.result upper (sym c.link_at.ensures ∙ is)) means

pub returns-clause-too_high : goal.returns-clause-too_high
returns-clause-too_high c upper s is means = subst (λ (z : Link). WasTooHigh z s.past) (one c.link_at.result upper (sym c.link_at.ensures ∙ is)) means

pub returns-clause-node : goal.returns-clause-node
returns-clause-node c upper is = ap (λ (z : Link). z.slot) (one c.link_at.result upper (sym c.link_at.ensures ∙ is))
