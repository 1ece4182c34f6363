-- Two entries in the order of their targets: what they set, what they leave, and what they ask.
use Rattle.std.proofs.Common.{◌≡◌, ◌≢◌, ℕ, ◌==◌, ◌||◌, ◌⊎◌, if◌then◌else◌, Bool, true, false, [], ◌∷◌, arith, refl, inl, inr}
use Rattle.std.specs.Prelude.{nat_lt, All}
use Rattle.std.proofs.lemmas.Bool.Decides.{nat_tests}
use Rattle.std.proofs.lemmas.List.Elements.{All-cons}
use Rattle.bz_task.specs.FromSwap.EntryLists.{inserted}
use Rattle.bz_task.specs.FromSwap.SwapMemory.{is_target}
use Rattle.bz_word.specs.declared.entry.Entry.{Entry}
use Rattle.bz_task.specs.Instant.{Instant}
use Rattle.bz_task.specs.Swaps.{Stand, swapped}

is : (a b : ℕ) → a ≡ b → (a == b) ≡ true
is a b e = grind (arith, nat_tests)

no : (a b : ℕ) → a ≢ b → (a == b) ≡ false
no a b ne = grind (arith, nat_tests)

-- the first entry's target gets its new value, and so does the second one's
pub sets-first : (a b : Entry) (f : ℕ → ℕ) (x : ℕ) → a.target ≡ x → b.target ≢ x → swapped (inserted a (b ∷ [])) f x ≡ a.new
sets-first a b f x e ne = go (nat_lt a.target b.target)
  where
    go : (t : Bool) → swapped (if t then a ∷ b ∷ [] else b ∷ a ∷ []) f x ≡ a.new
    go true = rw (is a.target x e) refl
    go false = rw (no b.target x ne, is a.target x e) refl

pub sets-second : (a b : Entry) (f : ℕ → ℕ) (x : ℕ) → a.target ≢ x → b.target ≡ x → swapped (inserted a (b ∷ [])) f x ≡ b.new
sets-second a b f x ne e = go (nat_lt a.target b.target)
  where
    go : (t : Bool) → swapped (if t then a ∷ b ∷ [] else b ∷ a ∷ []) f x ≡ b.new
    go true = rw (no a.target x ne, is b.target x e) refl
    go false = rw (is b.target x e) refl

-- every other address is left
pub leaves : (a b : Entry) (f : ℕ → ℕ) (x : ℕ) → a.target ≢ x → b.target ≢ x → swapped (inserted a (b ∷ [])) f x ≡ f x
leaves a b f x m n = go (nat_lt a.target b.target)
  where
    go : (t : Bool) → swapped (if t then a ∷ b ∷ [] else b ∷ a ∷ []) f x ≡ f x
    go true = rw (no a.target x m, no b.target x n) refl
    go false = rw (no a.target x m, no b.target x n) refl

-- the targets are these two
pub targets-two : (a b : Entry) (x : ℕ) → is_target (inserted a (b ∷ [])) x ≡ true → (a.target ≡ x) ⊎ (b.target ≡ x)
targets-two a b x h = go (nat_lt a.target b.target) h
  where
    hit : (p q : Bool) → (a.target == x) ≡ p → (b.target == x) ≡ q → (p ≡ true) ⊎ (q ≡ true) → (a.target ≡ x) ⊎ (b.target ≡ x)
    hit true q e f (inl t) = inl (grind (arith, nat_tests))
    hit false q e f (inl t) = absurd (cc)
    hit p true e f (inr t) = inr (grind (arith, nat_tests))
    hit p false e f (inr t) = absurd (cc)

    either : (p q : Bool) → p || (q || false) ≡ true → (p ≡ true) ⊎ (q ≡ true)
    either true q e = inl refl
    either false true e = inr refl
    either false false e = absurd (cc)

    turn : (p q : Bool) → (p ≡ true) ⊎ (q ≡ true) → (q ≡ true) ⊎ (p ≡ true)
    turn p q (inl e) = inr e
    turn p q (inr e) = inl e

    go : (t : Bool) → is_target (if t then a ∷ b ∷ [] else b ∷ a ∷ []) x ≡ true → (a.target ≡ x) ⊎ (b.target ≡ x)
    go true e = hit (a.target == x) (b.target == x) refl refl (either (a.target == x) (b.target == x) e)
    go false e = hit (a.target == x) (b.target == x) refl refl (turn (b.target == x) (a.target == x) (either (b.target == x) (a.target == x) e))

pub no-target : (a b : Entry) (x : ℕ) → a.target ≢ x → b.target ≢ x → is_target (inserted a (b ∷ [])) x ≡ false
no-target a b x m n = go (nat_lt a.target b.target)
  where
    go : (t : Bool) → is_target (if t then a ∷ b ∷ [] else b ∷ a ∷ []) x ≡ false
    go true = rw (no a.target x m, no b.target x n) refl
    go false = rw (no a.target x m, no b.target x n) refl

-- what holds of both holds of all, and the other way round
pub all-two : (P : Entry → Type 0) (a b : Entry) → P a → P b → All P (inserted a (b ∷ []))
all-two P a b p q = go (nat_lt a.target b.target)
  where
    go : (t : Bool) → All P (if t then a ∷ b ∷ [] else b ∷ a ∷ [])
    go true = All-cons P a (b ∷ []) p (All-cons P b [] q (λ i d l. absurd (omega (arith, l))))
    go false = All-cons P b (a ∷ []) q (All-cons P a [] p (λ i d l. absurd (omega (arith, l))))

pub both-of-all : (P : Entry → Type 0) (a b : Entry) → All P (inserted a (b ∷ [])) → P a × P b
both-of-all P a b h = go (nat_lt a.target b.target) h
  where
    go : (t : Bool) → All P (if t then a ∷ b ∷ [] else b ∷ a ∷ []) → P a × P b
    go true h = (h 0 a (omega arith), h 1 a (omega arith))
    go false h = (h 1 a (omega arith), h 0 a (omega arith))

pub both-stand : (a b : Entry) (x : Instant) → Stand (inserted a (b ∷ [])) x → (x.value a.target ≡ a.expected) × (x.value b.target ≡ b.expected)
both-stand a b x h = both-of-all (λ (e : Entry). x.value e.target ≡ e.expected) a b h
