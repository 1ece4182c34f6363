use Rattle.std.proofs.Common.{◌≡◌, true, false, refl, inl, inr, rules}
use Rattle.bz_cli.proofs.SayLemmas.{first-joined, first-apart, first-either}
use Rattle.bz_cli.proofs.arrangement.say_text_first.Goals as goal

pub returns-then-say_joined : goal.returns-then-say_joined
returns-then-say_joined c = (λ t. rw (c.say_joined.ensures.0 (search rules)) (first-joined _ _), λ h. refl)

pub returns : goal.returns
returns c = (
  λ t. rw (c.say_apart.ensures.0 t) (first-apart _ _),
  λ h. elim (first-either _ _ _ h) [
    | inl joined ↦ let bad : false ≡ true = rw c.if-say_joined.false at (c.say_joined.ensures.1 joined) in absurd cc
    | inr apart ↦ c.say_apart.ensures.1 apart
  ],
)
