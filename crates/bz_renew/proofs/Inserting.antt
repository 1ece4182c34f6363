-- An entry that is inserted into a list: what the swap sets and leaves, and what it asks.
use Rattle.std.proofs.Common.{◌≡◌, ◌≢◌, ℕ, ◌==◌, ◌||◌, if◌then◌else◌, Bool, true, false, List, [], ◌∷◌, arith, refl, ap}
use Rattle.std.specs.Prelude.{nat_lt, All}
use Rattle.std.proofs.lemmas.Bool.Decides.{nat_tests}
use Rattle.std.proofs.lemmas.List.Elements.{All-cons, All-head, All-tail}
use Rattle.bz_task.specs.FromSwap.EntryLists.{inserted}
use Rattle.bz_task.specs.FromSwap.SwapMemory.{is_target}
use Rattle.bz_word.specs.declared.entry.Entry.{Entry}
use Rattle.bz_task.specs.Swaps.{swapped}

is : (a b : ℕ) → a ≡ b → (a == b) ≡ true
is a b e = grind (arith, nat_tests)

no : (a b : ℕ) → a ≢ b → (a == b) ≡ false
no a b ne = grind (arith, nat_tests)

later : (p q : Bool) → (p || q) ≡ false → q ≡ false
later true q e = absurd (cc)
later false q e = e

-- every address but its target has what the others give it
pub inserted-other : (e : Entry) (xs : List Entry) (f : ℕ → ℕ) (a : ℕ) → e.target ≢ a → swapped (inserted e xs) f a ≡ swapped xs f a
inserted-other e [] f a ne = rw (no e.target a ne) refl
inserted-other e (x ∷ xs) f a ne = go (nat_lt e.target x.target) (inserted-other e xs f a ne)
  where
    go : (t : Bool) → swapped (inserted e xs) f a ≡ swapped xs f a → swapped (if t then e ∷ x ∷ xs else x ∷ inserted e xs) f a ≡ swapped (x ∷ xs) f a
    go true rest = rw (no e.target a ne) refl
    go false rest = ap (λ z. if x.target == a then x.new else z) rest

-- its own target, which is none of theirs, has its new value
pub inserted-hit : (e : Entry) (xs : List Entry) (f : ℕ → ℕ) (a : ℕ) → e.target ≡ a → is_target xs a ≡ false → swapped (inserted e xs) f a ≡ e.new
inserted-hit e [] f a same none = rw (is e.target a same) refl
inserted-hit e (x ∷ xs) f a same none = go (nat_lt e.target x.target) (x.target == a) refl none (inserted-hit e xs f a same)
  where
    go : (t b : Bool) → (x.target == a) ≡ b → (b || is_target xs a) ≡ false → (is_target xs a ≡ false → swapped (inserted e xs) f a ≡ e.new) → swapped (if t then e ∷ x ∷ xs else x ∷ inserted e xs) f a ≡ e.new
    go true b q h rest = rw (is e.target a same) refl
    go false true q h rest = absurd (cc)
    go false false q h rest = rw q (rest h)

-- what holds of all holds of it, and of the others
pub all-inserted-first : (P : Entry → Type 0) (e : Entry) (xs : List Entry) → All P (inserted e xs) → P e
all-inserted-first P e [] h = All-head P e [] h
all-inserted-first P e (x ∷ xs) h = go (nat_lt e.target x.target) h (all-inserted-first P e xs)
  where
    go : (t : Bool) → All P (if t then e ∷ x ∷ xs else x ∷ inserted e xs) → (All P (inserted e xs) → P e) → P e
    go true h rest = All-head P e (x ∷ xs) h
    go false h rest = rest (All-tail P x (inserted e xs) h)

pub all-inserted-others : (P : Entry → Type 0) (e : Entry) (xs : List Entry) → All P (inserted e xs) → All P xs
all-inserted-others P e [] h = All-tail P e [] h
all-inserted-others P e (x ∷ xs) h = go (nat_lt e.target x.target) h (all-inserted-others P e xs)
  where
    go : (t : Bool) → All P (if t then e ∷ x ∷ xs else x ∷ inserted e xs) → (All P (inserted e xs) → All P xs) → All P (x ∷ xs)
    go true h rest = All-tail P e (x ∷ xs) h
    go false h rest = All-cons P x xs (All-head P x (inserted e xs) h) (rest (All-tail P x (inserted e xs) h))
