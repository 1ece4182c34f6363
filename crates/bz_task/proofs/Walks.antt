-- What holds at a moment and is kept by each step holds at every later moment.
use Rattle.std.proofs.Common.{◌≡◌, ℕ, zero, suc, ◌+◌, ◌-◌, ◌<◌, ◌≤◌, arith, subst}

climb : (P : ℕ → Type 0) (m last : ℕ) → P m → ((i : ℕ) → m ≤ i → i < last → P i → P (i + 1)) → (n : ℕ) → m + n ≤ last → P (m + n)
climb P m last base step zero le = let e : m ≡ m + 0 = omega arith in subst P e base
climb P m last base step (suc n) le =
    let e : m + n + 1 ≡ m + suc n = omega arith in
    subst P e (step (m + n) (omega arith) (omega arith) (climb P m last base step n (omega arith)))

pub walk : (P : ℕ → Type 0) (m last : ℕ) → P m → ((i : ℕ) → m ≤ i → i < last → P i → P (i + 1)) → (j : ℕ) → m ≤ j → j ≤ last → P j
walk P m last base step j from to =
    let e : m + (j - m) ≡ j = omega arith in
    subst P e (climb P m last base step (j - m) (omega arith))
