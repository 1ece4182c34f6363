-- The machine's promise, told of what callers see: values, effects and misses.
use Rattle.std.specs.Prelude.{◌≡◌, ℕ, zero, suc, ◌+◌, ◌<◌, ◌≤◌, true, All, length, get_or}
use Rattle.std.proofs.Common.{arith, refl, ap, subst, ◌∙◌, inl, inr}
use Rattle.std.proofs.lemmas.Bool.{cases_eq}
use Rattle.std.proofs.lemmas.Grind.{common_steps}
use Rattle.bz_swap_machine.specs.Machine.{Entries}
use Rattle.bz_swap.specs.SwapMemory.{is_target}
use Rattle.bz_swap.specs.Inside.Parts.{listed}

-- what is at a place of a list
pub listed-at : {A : Type 0} (f : ℕ → A) (i n j : ℕ) (d : A) → j < n → get_or (listed f i n) j d ≡ f (i + j)
listed-at f i zero j d below = absurd (omega (arith, below))
listed-at f i (suc n) zero d below = ap f (omega arith)
listed-at f i (suc n) (suc j) d below = listed-at f (i + 1) n j d (omega (arith, below)) ∙ ap f (omega arith)

pub listed-past : {A : Type 0} (f : ℕ → A) (i n j : ℕ) (d : A) → n ≤ j → get_or (listed f i n) j d ≡ d
listed-past f i zero j d past = refl
listed-past f i (suc n) zero d past = absurd (omega (arith, past))
listed-past f i (suc n) (suc j) d past = listed-past f (i + 1) n j d (omega (arith, past))

pub length-listed : {A : Type 0} (f : ℕ → A) (i n : ℕ) → length (listed f i n) ≡ n
length-listed f i zero = refl
length-listed f i (suc n) = ap suc (length-listed f (i + 1) n)

-- what holds at each place holds of each listed
pub all-listed : {A : Type 0} (P : A → Type 0) (f : ℕ → A) (n : ℕ) → ((j : ℕ) → j < n → P (f j)) → All P (listed f 0 n)
all-listed P f n h = λ k d below.
    let within : k < n = rw (length-listed f 0 n) at below in
    let start : 0 + k ≡ k = omega arith in
    rw (listed-at f 0 n k d within, start) (h k within)

-- and the other way round
pub listed-all : {A : Type 0} (P : A → Type 0) (f : ℕ → A) (n : ℕ) → All P (listed f 0 n) → (j : ℕ) → j < n → P (f j)
listed-all P f n h j below =
    let start : 0 + j ≡ j = omega arith in
    subst P (listed-at f 0 n j (f j) below ∙ ap f start) (h j (f j) (rw (length-listed f 0 n) below))

-- an address is a target of the entries exactly where one of them has it
pub target-listed : (x : Entries) (a : ℕ) (i n : ℕ) → is_target (listed (λ j. record { target = x.target j; expected = x.expected j; new = x.value j }) i n) a ≡ true → (j : ℕ) × ((i ≤ j) × (j < i + n) × (x.target j ≡ a))
target-listed x a i zero h = absurd cc
target-listed x a i (suc n) h = elim (cases_eq (x.target i) a) [
  | inl e ↦ (i, (omega arith, omega arith, e))
  | inr ne ↦ (let rest = target-listed x a (i + 1) n (grind (arith, common_steps, h, ne)) in (rest.0, (omega (arith, rest.1.0), omega (arith, rest.1.1), rest.1.2)))
]

pub listed-target : (x : Entries) (a : ℕ) (i n j : ℕ) → i ≤ j → j < i + n → x.target j ≡ a → is_target (listed (λ k. record { target = x.target k; expected = x.expected k; new = x.value k }) i n) a ≡ true
listed-target x a i zero j from below is = absurd (omega (arith, from, below))
listed-target x a i (suc n) j from below is = elim (cases_eq j i) [
  | inl e ↦ grind (arith, common_steps, is, e)
  | inr ne ↦ (let rest = listed-target x a (i + 1) n j (omega (arith, from, ne)) (omega (arith, below)) is in grind (arith, common_steps, rest))
]
