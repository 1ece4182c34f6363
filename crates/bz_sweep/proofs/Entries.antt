-- The first entry of a descriptor that has an address for its target.
use Rattle.std.proofs.Common.{◌≡◌, ℕ, zero, suc, ◌+◌, ◌<◌, ◌≤◌, ◌==◌, Bool, true, false, arith, refl, ap, inl, inr, ◌∙◌}
use Rattle.std.specs.Prelude.{if◌then◌else◌}
use Rattle.std.proofs.lemmas.Bool.{cases_eq, and_cases, true≢false}
use Rattle.std.proofs.lemmas.Bool.Decides.{nat_tests}
use Rattle.bz_slotted.specs.Tests.{every}
use Rattle.bz_content.specs.Resolving.{target_in, entry_for}

-- a number that fails, where not each passes
pub record Fails (n : ℕ) (p : ℕ → Bool) : Type 0 where
  pub at : ℕ
  pub below : at < n
  pub fails : p at ≡ false

pub some-fails : (n : ℕ) (p : ℕ → Bool) → every n p ≡ false → Fails n p
unfolding every
some-fails zero p e = absurd (true≢false e)
some-fails (suc n) p e = elim (and_cases (p n) (every n p) e) [
  | inl here ↦ record { at = n; below = omega arith; fails = here }
  | inr other ↦ (let f : Fails n p = some-fails n p other in record { at = f.at; below = omega arith; fails = f.fails })
]

-- two lists of tests that are the same
pub every-same : (n : ℕ) (p q : ℕ → Bool) → ((i : ℕ) → i < n → p i ≡ q i) → every n p ≡ every n q
unfolding every
every-same zero p q same = refl
every-same (suc n) p q same = rw (same n (omega arith), every-same n p q (λ i l. same i (omega arith))) refl

pub entry-least : (raw : ℕ → ℕ) (s a i n j : ℕ) → i ≤ j → j < i + n → target_in raw s j ≡ a → entry_for raw s a i n ≤ j
unfolding entry_for
entry-least raw s a i zero j from below is = omega arith
entry-least raw s a i (suc n) j from below is = go (target_in raw s i == a) refl (λ later. entry-least raw s a (i + 1) n j later (omega arith) is)
  where
    later : (target_in raw s i == a) ≡ false → i + 1 ≤ j
    later t = elim (cases_eq i j) [ inl e ↦ absurd (let h : target_in raw s i ≡ a = ap (target_in raw s) e ∙ is in grind (arith, nat_tests)) | inr ne ↦ omega (arith, ne) ]

    go : (b : Bool) → (target_in raw s i == a) ≡ b → (i + 1 ≤ j → entry_for raw s a (i + 1) n ≤ j) → (if b then i else entry_for raw s a (i + 1) n) ≤ j
    go true t rest = from
    go false t rest = rest (later t)

pub entry-hits : (raw : ℕ → ℕ) (s a i n : ℕ) → entry_for raw s a i n < i + n → target_in raw s (entry_for raw s a i n) ≡ a
unfolding entry_for
entry-hits raw s a i zero below = absurd (omega arith)
entry-hits raw s a i (suc n) below = go (target_in raw s i == a) refl below (λ b. entry-hits raw s a (i + 1) n b)
  where
    go : (b : Bool) → (target_in raw s i == a) ≡ b → (if b then i else entry_for raw s a (i + 1) n) < i + suc n → (entry_for raw s a (i + 1) n < i + 1 + n → target_in raw s (entry_for raw s a (i + 1) n) ≡ a)
        → target_in raw s (if b then i else entry_for raw s a (i + 1) n) ≡ a
    go true t less rest = grind (arith, nat_tests)
    go false t less rest = rest (omega arith)

-- by the same targets
pub entry-same : (x y : ℕ → ℕ) (s a i n : ℕ) → ((j : ℕ) → j < i + n → target_in y s j ≡ target_in x s j) → entry_for y s a i n ≡ entry_for x s a i n
unfolding entry_for
entry-same x y s a i zero same = refl
entry-same x y s a i (suc n) same = rw (same i (omega arith), entry-same x y s a (i + 1) n (λ j l. same j (omega arith))) refl
