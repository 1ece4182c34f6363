-- Which swap is told to have taken effect.
use Rattle.std.proofs.Common.{◌≡◌, ℕ, ◌&&◌, if◌then◌else◌, Bool, true, false, arith, refl, sym, ◌∙◌, Some, None}
use Rattle.bz_swap_machine.specs.declared.status.SwapStatus.{SwapStatus}
use Rattle.bz_swap_machine.specs.declared.status.Verdict.{Verdict}
use Rattle.bz_swap_machine.specs.declared.status.Verdict.TheVariants.{Succeeded, Failed}
use Rattle.bz_swap_machine.specs.Machine.{Memory, is_verdict, is_succeeded}
use Rattle.std.proofs.Common.{not}
use Rattle.bz_swap_machine.specs.Changes.{fenced}
use Rattle.bz_swap_machine.specs.Content.{has_effect}
use Rattle.bz_swap_machine.specs.Steps.{effect_of}
use Rattle.bz_swap_machine.proofs.Published.{one_verdict}

pub none-told : (s : ℕ) (now old : Bool) → now ≡ old → (if now && not old then Some s else None) ≡ None
none-told s true true h = refl
none-told s false false h = refl
none-told s true false h = absurd (grind (arith, h))
none-told s false true h = absurd (grind (arith, h))

pub some-told : (s : ℕ) (now old : Bool) → now ≡ true → old ≡ false → (if now && not old then Some s else None) ≡ Some s
some-told s now old h h' = rw (h, h') refl

-- no effect is told where the durable statuses stay
pub none-unchanged : (m n : Memory) (s : ℕ) → n.durable_status ≡ m.durable_status → effect_of m n s ≡ None
none-unchanged m n s h = none-told s (has_effect n s) (has_effect m s) (rw h refl)

same-verdicts : (c k : SwapStatus) (d : Verdict) → is_verdict c d ≡ true → is_verdict k d ≡ true → is_succeeded k ≡ is_succeeded c
same-verdicts c k Succeeded h h' = h' ∙ sym h
same-verdicts c k Failed h h' = grind (arith, one_verdict c, one_verdict k)

-- nor at a fence of a worker that has not asked for the status
pub none-fenced_status : (m : Memory) (w s : ℕ) → (m.status_pending s).asked w ≡ None → effect_of m (fenced m w) s ≡ None
none-fenced_status m w s h = none-told s (has_effect (fenced m w) s) (has_effect m s) (rw h refl)

-- nor where the durable verdict stays
pub none-verdict : (m n : Memory) (s : ℕ) (d : Verdict) → is_verdict (m.durable_status s) d ≡ true → is_verdict (n.durable_status s) d ≡ true → effect_of m n s ≡ None
none-verdict m n s d h h' = none-told s (has_effect n s) (has_effect m s) (same-verdicts (m.durable_status s) (n.durable_status s) d h h')
