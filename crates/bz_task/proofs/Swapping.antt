-- What a swap sets and leaves: of words, of a slot, of the superblock.
use Rattle.std.proofs.Common.{◌≡◌, ℕ, zero, suc, ◌+◌, ◌<◌, ◌≤◌, ◌==◌, ◌||◌, Bool, true, false, List, [], ◌∷◌, arith, refl, sym, ap, ◌∙◌, inl, inr}
use Rattle.std.specs.Prelude.{nat_lt}
use Rattle.std.proofs.lemmas.Bool.{cases_lt}
use Rattle.std.proofs.lemmas.Bool.Decides.{nat_tests}
use Rattle.bz_layout.specs.Addresses.{node_address}
use Rattle.bz_layout.specs.declared.config.Config.{Config}
use Rattle.bz_layout.specs.declared.sizes.TheConstants.{NODE_WORDS, SUPERBLOCK_WORDS}
use Rattle.bz_content.specs.FromSlotted.Tests.{every}
use Rattle.bz_swap.specs.SwapMemory.{is_target}
use Rattle.bz_word.specs.declared.entry.Entry.{Entry}
use Rattle.bz_content.specs.Content.{is_super}
use Rattle.bz_content.specs.Image.{node}
use Rattle.bz_content.specs.Resolving.{resolve}
use Rattle.bz_task.specs.Laws.{SwapsShowInSlots}
use Rattle.bz_task.specs.Swaps.{swapped}

-- what swaps leave and what they set
pub untouched : (es : List Entry) (f : ℕ → ℕ) (a : ℕ) → is_target es a ≡ false → swapped es f a ≡ f a
untouched [] f a e = refl
untouched (x ∷ es) f a e = go (x.target == a) refl e (untouched es f a)
  where
    go : (b : Bool) → (x.target == a) ≡ b → b || is_target es a ≡ false → (is_target es a ≡ false → swapped es f a ≡ f a) → swapped (x ∷ es) f a ≡ f a
    go true q h rest = absurd (cc)
    go false q h rest = rw q (rest h)

pub set-alike : (es : List Entry) (f g : ℕ → ℕ) (a : ℕ) → is_target es a ≡ true → swapped es f a ≡ swapped es g a
set-alike [] f g a e = absurd (cc)
set-alike (x ∷ es) f g a e = go (x.target == a) refl e (set-alike es f g a)
  where
    go : (b : Bool) → (x.target == a) ≡ b → b || is_target es a ≡ true → (is_target es a ≡ true → swapped es f a ≡ swapped es g a) → swapped (x ∷ es) f a ≡ swapped (x ∷ es) g a
    go true q h rest = rw q refl
    go false q h rest = rw q (rest h)

pub same-swapped : (es : List Entry) (f g : ℕ → ℕ) (a : ℕ) → f a ≡ g a → swapped es f a ≡ swapped es g a
same-swapped es f g a e = go (is_target es a) refl
  where
    go : (b : Bool) → is_target es a ≡ b → swapped es f a ≡ swapped es g a
    go true q = set-alike es f g a q
    go false q = untouched es f a q ∙ (e ∙ sym (untouched es g a q))

pub every-same : (n : ℕ) (p q : ℕ → Bool) → ((i : ℕ) → i < n → q i ≡ p i) → every n q ≡ every n p
unfolding every
every-same zero p q h = refl
every-same (suc n) p q h = rw (h n (omega arith), every-same n p q (λ i l. h i (omega arith))) refl

pub super-same : (c : Config) (f g : ℕ → ℕ) → ((a : ℕ) → a < SUPERBLOCK_WORDS → g a ≡ f a) → is_super c g ≡ is_super c f
unfolding is_super
super-same c f g h = rw (h 0 (omega arith), h 3 (omega arith), h 4 (omega arith), every-same 11 (λ i. f (5 + i) == 0) (λ i. g (5 + i) == 0) (λ i l. ap (λ w. w == 0) (h (5 + i) (omega arith)))) refl

pub node-at : (c : Config) (f : ℕ → ℕ) (k i : ℕ) → i < NODE_WORDS → node c f k i ≡ f (node_address c k + i)
unfolding node
node-at c f k i l = let t : nat_lt i NODE_WORDS ≡ true = grind (arith, nat_tests) in rw t refl

pub node-past : (c : Config) (f : ℕ → ℕ) (k i : ℕ) → NODE_WORDS ≤ i → node c f k i ≡ 0
unfolding node
node-past c f k i l = let t : nat_lt i NODE_WORDS ≡ false = grind (arith, nat_tests) in rw t refl

-- two images whose words in a slot are the same
pub node-same : (c : Config) (f g : ℕ → ℕ) (k : ℕ) → ((i : ℕ) → i < NODE_WORDS → g (node_address c k + i) ≡ f (node_address c k + i)) → (i : ℕ) → node c g k i ≡ node c f k i
node-same c f g k h i = elim (cases_lt i NODE_WORDS) [
  | inl l ↦ node-at c g k i l ∙ (h i l ∙ sym (node-at c f k i l))
  | inr l ↦ node-past c g k i l ∙ sym (node-past c f k i l)
]

-- the words of a slot before and after a swap
pub slot-words : SwapsShowInSlots
slot-words c entries x y k w = record {
  within = λ i l. record {
    before = node-at c x.value k i l;
    resolved = node-at c (resolve x.image) k i l;
    value = node-at c y.value k i l ∙ w.value (node_address c k + i);
    durable_value = node-at c (resolve y.image) k i l ∙ w.resolved (node_address c k + i) (inr (omega arith));
  };
  past = λ i l. node-past c y.value k i l ∙ sym (node-past c x.value k i l);
  durable_past = λ i l. node-past c (resolve y.image) k i l ∙ sym (node-past c (resolve x.image) k i l);
  raw = node-same c x.image y.image k (λ i l. w.raw (node_address c k + i) (inr (omega arith)));
}
