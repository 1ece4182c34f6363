-- A swap that is decided, or answered, or noted as missed, is published.
use Rattle.std.proofs.Common.{◌≡◌, ◌≢◌, ℕ, Bool, true, false, arith, refl, Some}
use Rattle.bz_swap_machine.specs.declared.status.SwapStatus.{SwapStatus}
use Rattle.bz_swap_machine.specs.declared.status.SwapStatus.TheVariants.{Undecided}
use Rattle.bz_swap_machine.specs.declared.status.Verdict.{Verdict}
use Rattle.bz_swap_machine.specs.declared.status.Verdict.TheVariants.{Succeeded, Failed}
use Rattle.bz_swap_machine.specs.Machine.{Entries, Memory, is_verdict}
use Rattle.bz_swap_machine.specs.Sound.{Follows, IsUnset, Sound}
use Rattle.bz_swap_machine.proofs.Lasting.{lasts-durable}

unset-verdict : (k : SwapStatus) (d : Verdict) → IsUnset k → is_verdict k d ≡ true → ⊥
unset-verdict k d u h = grind arith

durably_decided : (e : ℕ → Entries) (m : Memory) (s : ℕ) (d : Verdict) (b : Bool) → m.published s ≡ b → Sound e m → is_verdict (m.durable_status s) d ≡ true → b ≡ true
durably_decided e m s d true p g h = refl
durably_decided e m s d false p g h = absurd (unset-verdict (m.durable_status s) d (g.unset_durable s (m.durable_status s) (lasts-durable _ _) p) h)

decided : (e : ℕ → Entries) (m : Memory) (s : ℕ) (d : Verdict) (b : Bool) → m.published s ≡ b → Sound e m → is_verdict (m.status s) d ≡ true → b ≡ true
decided e m s d true p g h = refl
decided e m s d false p g h = absurd (unset-verdict (m.status s) d (g.unset s p) h)

answered : (e : ℕ → Entries) (m : Memory) (s : ℕ) (d : Verdict) (b : Bool) → m.published s ≡ b → Sound e m → m.answer s ≡ Some d → b ≡ true
answered e m s d true p g h = refl
answered e m s d false p g h = grind (arith, g.unanswered s p)

pub durably_decided-published : (e : ℕ → Entries) (m : Memory) (s : ℕ) (d : Verdict) → Sound e m → is_verdict (m.durable_status s) d ≡ true → m.published s ≡ true
durably_decided-published e m s d g h = durably_decided e m s d (m.published s) refl g h

pub decided-published : (e : ℕ → Entries) (m : Memory) (s : ℕ) (d : Verdict) → Sound e m → is_verdict (m.status s) d ≡ true → m.published s ≡ true
decided-published e m s d g h = decided e m s d (m.published s) refl g h

pub answered-published : (e : ℕ → Entries) (m : Memory) (s : ℕ) (d : Verdict) → Sound e m → m.answer s ≡ Some d → m.published s ≡ true
answered-published e m s d g h = answered e m s d (m.published s) refl g h

-- a durable verdict is the cached one
pub same_verdict : (c k : SwapStatus) (d : Verdict) → Follows c k → is_verdict k d ≡ true → is_verdict c d ≡ true
same_verdict c k d f h = grind arith

pub durable_verdict-cached : (e : ℕ → Entries) (m : Memory) (s : ℕ) (d : Verdict) → Sound e m → is_verdict (m.durable_status s) d ≡ true → is_verdict (m.status s) d ≡ true
durable_verdict-cached e m s d g h = same_verdict (m.status s) (m.durable_status s) d (g.follows s (m.durable_status s) (lasts-durable _ _) (durably_decided-published e m s d g h)) h

-- a status has at most one verdict, and is undecided only without one
pub one_verdict : (k : SwapStatus) → is_verdict k Succeeded ≡ true → is_verdict k Failed ≡ true → ⊥
one_verdict k h h' = grind arith

pub verdict-decided : (k : SwapStatus) (d : Verdict) → is_verdict k d ≡ true → k ≢ Undecided
verdict-decided k d h = grind arith
