-- What tests decide, and lists of tests that all pass.
use Rattle.std.proofs.Common.{◌≡◌, ◌≢◌, ℕ, ◌<◌, ◌≤◌, if◌then◌else◌, Bool, true, false, List, [], ◌∷◌, arith, refl, sym, inl, inr, Option}
use Rattle.std.specs.Prelude.{nat_le, is_some, IsSome, Some, None}
use Rattle.std.specs.Bool.{Decides}
use Rattle.std.proofs.lemmas.Bool.Decides.{nat_tests, Decides-below_and}
use Rattle.std.proofs.lemmas.Bool.{true≢false, cases_lt}
use Rattle.bz_slotted.specs.Tests.{Test, first_of, every, every_two, implies}

pub Decides-self : (b : Bool) → Decides b (b ≡ true)
Decides-self b = (λ h. h, λ h. h)

pub Decides-le : (a b : ℕ) → Decides (nat_le a b) (a ≤ b)
Decides-le a b = (λ h. grind (arith, nat_tests), λ h. grind (arith, nat_tests))

pub Decides-some : (o : Option (List ℕ)) → Decides (is_some o) (IsSome o)
Decides-some o = (λ h. h, λ h. h)

pub Decides-implies : {A B : Type 0} → (a b : Bool) → Decides a A → Decides b B → Decides (implies a b) (A → B)
Decides-implies true b da db = (λ h x. db.0 h, λ f. db.1 (f (da.0 refl)))
Decides-implies false b da db = (λ h x. absurd (true≢false (sym (da.1 x))), λ f. refl)

pub Decides-every : (p : ℕ → Bool) (P : ℕ → Type 0) → ((k : ℕ) → Decides (p k) (P k)) → (n : ℕ) → Decides (every n p) ((k : ℕ) → k < n → P k)
unfolding every
Decides-every p P each n = Decides-below_and p P (λ m. every m p) each refl (λ m. refl) n

pub Decides-every_two : (p : ℕ → ℕ → Bool) (P : ℕ → ℕ → Type 0) → ((i j : ℕ) → Decides (p i j) (P i j)) → (n : ℕ) → Decides (every_two n p) ((j : ℕ) → j < n → (i : ℕ) → i < j → P i j)
Decides-every_two p P each n = Decides-every (λ j. every j (λ i. p i j)) (λ j. (i : ℕ) → i < j → P i j) (λ j. Decides-every (λ i. p i j) (λ i. P i j) (λ i. each i j) j) n

-- what holds of each two numbers, the lesser first, holds of any two that differ, where the order is no matter
pub any-two : (P : ℕ → ℕ → Type 0) (n : ℕ) → ((i j : ℕ) → P i j → P j i) → ((j : ℕ) → j < n → (i : ℕ) → i < j → P i j) → (i j : ℕ) → i < n → j < n → i ≢ j → P i j
any-two P n flip h i j li lj ne = elim (cases_lt i j) [ inl l ↦ h j lj i l | inr g ↦ flip j i (h i li j (omega (arith, ne))) ]

pub at_end : first_of [] ≡ None
unfolding first_of
at_end = refl

pub passes : (t : Test) (ts : List Test) → first_of (t ∷ ts) ≡ None → (t.passes ≡ true) × (first_of ts ≡ None)
unfolding first_of
passes t ts h = go t.passes refl h
  where
    go : (b : Bool) → t.passes ≡ b → (if b then first_of ts else Some t.rule) ≡ None → (t.passes ≡ true) × (first_of ts ≡ None)
    go true e h = (e, h)
    go false e h = absurd (cc)

pub pass : (t : Test) (ts : List Test) → t.passes ≡ true → first_of ts ≡ None → first_of (t ∷ ts) ≡ None
unfolding first_of
pass t ts p h = rw p h
