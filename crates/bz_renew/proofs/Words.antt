-- The words of slots before and after a swap.
use Rattle.std.proofs.Common.{◌≡◌, ◌≢◌, ℕ, zero, suc, ◌+◌, ◌<◌, ◌≤◌, ◌==◌, ◌&&◌, ◌||◌, Bool, true, false, List, [], ◌∷◌, arith, refl, sym, ap, ◌∙◌, inl, inr}
use Rattle.std.specs.Prelude.{nat_lt}
use Rattle.std.proofs.lemmas.Bool.{cases_lt}
use Rattle.std.proofs.lemmas.Bool.Decides.{nat_tests}
use Rattle.bz_layout.specs.Addresses.{node_address}
use Rattle.bz_layout.specs.declared.config.Config.{Config}
use Rattle.bz_layout.specs.declared.sizes.TheConstants.{NODE_WORDS, SUPERBLOCK_WORDS}
use Rattle.bz_tree.specs.Walk.{is_among}
use Rattle.bz_slotted.specs.Tests.{every}
use Rattle.bz_task.specs.FromSwap.SwapMemory.{is_target}
use Rattle.bz_word.specs.declared.entry.Entry.{Entry}
use Rattle.bz_task.specs.FromContent.Content.{is_super}
use Rattle.bz_task.specs.FromContent.Image.{node}
use Rattle.bz_task.specs.Swaps.{swapped}

-- what swaps leave and what they set
pub untouched : (es : List Entry) (f : ℕ → ℕ) (a : ℕ) → is_target es a ≡ false → swapped es f a ≡ f a
untouched [] f a e = refl
untouched (x ∷ es) f a e = go (x.target == a) refl e (untouched es f a)
  where
    go : (b : Bool) → (x.target == a) ≡ b → b || is_target es a ≡ false → (is_target es a ≡ false → swapped es f a ≡ f a) → swapped (x ∷ es) f a ≡ f a
    go true q h rest = absurd (cc)
    go false q h rest = rw q (rest h)

set-alike : (es : List Entry) (f g : ℕ → ℕ) (a : ℕ) → is_target es a ≡ true → swapped es f a ≡ swapped es g a
set-alike [] f g a e = absurd (cc)
set-alike (x ∷ es) f g a e = go (x.target == a) refl e (set-alike es f g a)
  where
    go : (b : Bool) → (x.target == a) ≡ b → b || is_target es a ≡ true → (is_target es a ≡ true → swapped es f a ≡ swapped es g a) → swapped (x ∷ es) f a ≡ swapped (x ∷ es) g a
    go true q h rest = rw q refl
    go false q h rest = rw q (rest h)

pub same-swapped : (es : List Entry) (f g : ℕ → ℕ) (a : ℕ) → f a ≡ g a → swapped es f a ≡ swapped es g a
same-swapped es f g a e = go (is_target es a) refl
  where
    go : (b : Bool) → is_target es a ≡ b → swapped es f a ≡ swapped es g a
    go true q = set-alike es f g a q
    go false q = untouched es f a q ∙ (e ∙ sym (untouched es g a q))

every-same : (n : ℕ) (p q : ℕ → Bool) → ((i : ℕ) → i < n → q i ≡ p i) → every n q ≡ every n p
unfolding every
every-same zero p q h = refl
every-same (suc n) p q h = rw (h n (omega arith), every-same n p q (λ i l. h i (omega arith))) refl

pub super-same : (c : Config) (f g : ℕ → ℕ) → ((a : ℕ) → a < SUPERBLOCK_WORDS → g a ≡ f a) → is_super c g ≡ is_super c f
unfolding is_super
super-same c f g h = rw (h 0 (omega arith), h 3 (omega arith), h 4 (omega arith), every-same 11 (λ i. f (5 + i) == 0) (λ i. g (5 + i) == 0) (λ i l. ap (λ w. w == 0) (h (5 + i) (omega arith)))) refl

pub node-at : (c : Config) (f : ℕ → ℕ) (k i : ℕ) → i < NODE_WORDS → node c f k i ≡ f (node_address c k + i)
unfolding node
node-at c f k i l = let t : nat_lt i NODE_WORDS ≡ true = grind (arith, nat_tests) in rw t refl

pub node-past : (c : Config) (f : ℕ → ℕ) (k i : ℕ) → NODE_WORDS ≤ i → node c f k i ≡ 0
unfolding node
node-past c f k i l = let t : nat_lt i NODE_WORDS ≡ false = grind (arith, nat_tests) in rw t refl

-- two memories whose words in a slot are the same
pub node-same : (c : Config) (f g : ℕ → ℕ) (k : ℕ) → ((i : ℕ) → i < NODE_WORDS → g (node_address c k + i) ≡ f (node_address c k + i)) → (i : ℕ) → node c g k i ≡ node c f k i
node-same c f g k h i = elim (cases_lt i NODE_WORDS) [
  | inl l ↦ node-at c g k i l ∙ (h i l ∙ sym (node-at c f k i l))
  | inr l ↦ node-past c g k i l ∙ sym (node-past c f k i l)
]

pub and-left : (a b : Bool) → (a && b) ≡ true → a ≡ true
and-left true b e = refl
and-left false b e = e

pub and-right : (a b : Bool) → (a && b) ≡ true → b ≡ true
and-right true b e = e
and-right false b e = absurd (cc)

pub or-split : (a b : Bool) → (a || b) ≡ true → a ≡ false → b ≡ true
or-split true b e f = absurd (cc)
or-split false b e f = e

pub or-left : (a b : Bool) → a ≡ true → (a || b) ≡ true
or-left true b e = refl
or-left false b e = absurd (cc)

pub or-right : (a b : Bool) → b ≡ true → (a || b) ≡ true
or-right true b e = refl
or-right false b e = e

-- the one slot of a list of one
pub among-one : (a k : ℕ) → is_among (a ∷ []) k ≡ true → a ≡ k
among-one a k e = go (a == k) refl e
  where
    go : (t : Bool) → (a == k) ≡ t → t || false ≡ true → a ≡ k
    go true q h = grind (arith, nat_tests)
    go false q h = absurd (cc)

pub not-among : (a k : ℕ) → is_among (a ∷ []) k ≡ false → k ≢ a
not-among a k e q = go (a == k) refl e
  where
    go : (t : Bool) → (a == k) ≡ t → t || false ≡ false → ⊥
    go true p h = absurd (cc)
    go false p h = absurd (grind (arith, nat_tests, q))

-- a slot that is not among a list is not the first of it, nor among the others
pub not-first : (a : ℕ) (rest : List ℕ) (k : ℕ) → is_among (a ∷ rest) k ≡ false → k ≢ a
not-first a rest k e q = go (a == k) refl e
  where
    go : (t : Bool) → (a == k) ≡ t → t || is_among rest k ≡ false → ⊥
    go true p h = absurd (cc)
    go false p h = absurd (grind (arith, nat_tests, q))

pub not-later : (a : ℕ) (rest : List ℕ) (k : ℕ) → is_among (a ∷ rest) k ≡ false → is_among rest k ≡ false
not-later a rest k e = go (a == k) e
  where
    go : (t : Bool) → t || is_among rest k ≡ false → is_among rest k ≡ false
    go true h = absurd (cc)
    go false h = h
