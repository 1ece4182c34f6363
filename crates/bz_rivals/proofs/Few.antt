-- There are fewer rivals than workers.
use Rattle.std.specs.Prelude.{◌≡◌, ◌≢◌, ◌==◌, ◌&&◌, ℕ, ◌+◌, ◌<◌, ◌≤◌, Bool, true, false, not, length}
use Rattle.std.proofs.Common.{arith, refl, inl, inr}
use Rattle.std.proofs.lemmas.Bool.{cases_eq, eq-eqb, ne_eqb}
use Rattle.bz_swap_machine.specs.Allowed.{sum_below, counted}
use Rattle.bz_swap.specs.SwapMemory.{SwapMemory, Doing, Idle, Reading, Swapping, Loading, Storing, Flushing, doing_of}
use Rattle.bz_rivals.specs.Laws.{RivalsAreFew}
use Rattle.bz_rivals.specs.Notes.{SwapsNothing}
use Rattle.bz_rivals.specs.Rivals.{is_pending, is_rival, rivals}
use Rattle.bz_rivals.proofs.Sums.{sum-drop, sum-ones}

counted-one : (b : Bool) → counted b 1 ≤ 1
counted-one true = omega arith
counted-one false = omega arith

-- the worker is no rival of its own
not-own : (same p : Bool) → same ≡ true → counted (not same && p) 1 + 1 ≤ 1
not-own true p is = omega arith
not-own false p is = absurd cc

few : (m : SwapMemory) (w : ℕ) → w < length m.workers → rivals m w + 1 ≤ length m.workers
few m w within = omega (
  arith,
  sum-ones (length m.workers),
  sum-drop (λ v. counted (is_rival m w v) 1) (λ v. 1) (length m.workers) w (λ v. counted-one (is_rival m w v)) within (not-own (w == w) (is_pending m (doing_of m w)) (eq-eqb w w refl)),
)

-- and worker 0 is none either
nothing-pending : (m : SwapMemory) (d : Doing) → ((s : ℕ) → d ≢ Swapping s) → is_pending m d ≡ false
nothing-pending m Idle none = refl
nothing-pending m (Reading a) none = refl
nothing-pending m (Swapping s) none = absurd (none s refl)
nothing-pending m (Loading a) none = refl
nothing-pending m (Storing a v) none = refl
nothing-pending m (Flushing line) none = refl

neither : (same p : Bool) → p ≡ false → counted (not same && p) 1 ≤ 0
neither true p is = omega arith
neither false true is = absurd cc
neither false false is = omega arith

if-some : (b : Bool) → b ≡ false → (k : ℕ) → k ≤ 1 → k ≤ counted (not b) 1
if-some true is k le = absurd cc
if-some false is k le = le

if-zero : (m : SwapMemory) (w v : ℕ) → SwapsNothing m 0 → counted (is_rival m w v) 1 ≤ counted (not (v == 0)) 1
if-zero m w v none = elim (cases_eq v 0) [
  | inl same ↦ (let zero : counted (is_rival m w 0) 1 ≤ 0 = neither (0 == w) (is_pending m (doing_of m 0)) (nothing-pending m (doing_of m 0) none) in rw same (omega (arith, zero)))
  | inr other ↦ if-some (v == 0) (ne_eqb v 0 other) (counted (is_rival m w v) 1) (counted-one (is_rival m w v))
]

fewer : (m : SwapMemory) (w : ℕ) → 0 < w → w < length m.workers → SwapsNothing m 0 → rivals m w + 2 ≤ length m.workers
fewer m w some within none =
    let other : w ≢ 0 = λ is. absurd (omega (arith, some, is)) in
    let first : rivals m w + 1 ≤ sum_below (λ v. counted (not (v == 0)) 1) (length m.workers) =
    sum-drop (λ v. counted (is_rival m w v) 1) (λ v. counted (not (v == 0)) 1) (length m.workers) w (λ v. if-zero m w v none) within
    (if-some (w == 0) (ne_eqb w 0 other) (counted (is_rival m w w) 1 + 1) (not-own (w == w) (is_pending m (doing_of m w)) (eq-eqb w w refl))) in
    let second : sum_below (λ v. counted (not (v == 0)) 1) (length m.workers) + 1 ≤ sum_below (λ v. 1) (length m.workers) =
    sum-drop (λ v. counted (not (v == 0)) 1) (λ v. 1) (length m.workers) 0 (λ v. counted-one (not (v == 0))) (omega (arith, some, within)) (omega arith) in
    omega (arith, first, second, sum-ones (length m.workers))

pub rivals-are-few : RivalsAreFew
rivals-are-few = record { all = few; others = fewer }
