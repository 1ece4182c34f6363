-- A swap on two leaves of the tree, which may be one: what it must do to the words of each so that it is lawful for everybody, and
-- which changes of keys it makes.
use Rattle.std.specs.Prelude.{◌≡◌, ◌≢◌, ℕ, ◌<◌, ◌⊎◌, bytes_eq, if◌then◌else◌, ◌+◌, true, false, List, [], ◌∷◌, ◌++◌, Option, None}
use Rattle.bz_layout.specs.Addresses.{node_address}
use Rattle.bz_layout.specs.declared.config.Config.{Config}
use Rattle.bz_layout.specs.declared.sizes.TheConstants.{NODE_WORDS}
use Rattle.bz_tree.specs.Order.{is_within}
use Rattle.bz_content.specs.Content.{content_in, leaf_in}
use Rattle.bz_content.specs.FromSlotted.Readers.{found_of}
use Rattle.bz_content.specs.FromSlotted.Rules.{node_fault}
use Rattle.bz_content.specs.Image.{node}
use Rattle.bz_swap.specs.SwapMemory.{is_target}
use Rattle.bz_word.specs.declared.entry.Entry.{Entry}
use Rattle.bz_task.specs.Good.{IsGood}
use Rattle.bz_task.specs.Instant.{Instant, words, durable, form_at, is_inside}
use Rattle.bz_task.specs.LeafSwaps.{IsWordOf}
use Rattle.bz_task.specs.Requests.{IsTarget}
use Rattle.bz_task.specs.Scene.{Scene, IsMine, IsFlushed, IsScene, here}
use Rattle.bz_task.specs.Shown.{IsShown}
use Rattle.bz_task.specs.Steps.{IsEffect, NodeMoves}
use Rattle.bz_task.specs.Swaps.{Change, SwapsTo, IsMineAndDurable}

-- slot k is a leaf of the tree; it is changed as nodes are, and breaks no rule afterwards. What readers read of it from now on was
-- the worker's own, and durable
pub record IsLeafChanged (s : Scene) (k : ℕ) (y : Instant) : Type 0 where
  pub inside : is_inside s.past.config (here s) k ≡ true
  pub slot : k < s.past.config.nodes
  pub leaf : (form_at s.past.config (here s)).level k ≡ 0
  pub moves : NodeMoves s.past.config (here s) y k
  pub whole : node_fault s.past.config.nodes (node s.past.config y.image k) (durable s.past.config y k) 0 ((form_at s.past.config (here s)).low k) ((form_at s.past.config (here s)).high k) ≡ None
  pub shown : (i : ℕ) → i < NODE_WORDS → IsShown (words s.past.config y k) i → IsShown (words s.past.config (here s) k) i ⊎ IsMineAndDurable s (node_address s.past.config k + i)

-- both leaves are changed so, and the swap names words of them alone
pub record IsPairSwap (entries : List Entry) (s : Scene) (k j : ℕ) (y : Instant) : Type 0 where
  pub swaps : SwapsTo s.past.config entries (here s) y
  pub first : IsLeafChanged s k y
  pub second : IsLeafChanged s j y
  pub place : (a : ℕ) → is_target entries a ≡ true → IsWordOf s k a ⊎ IsWordOf s j a
  pub targets : (a : ℕ) → is_target entries a ≡ true → IsTarget s a

-- the effect is lawful for everybody: all that a good swap is, but for the content
pub record IsLawfulSwap (entries : List Entry) (s : Scene) (y : Instant) : Type 0 where
  pub targets : (a : ℕ) → is_target entries a ≡ true → IsTarget s a
  pub good : IsGood s.past.config y
  pub step : IsEffect s.past.config (here s) y
  pub linked : (k i : ℕ) → (here s).reached k ≡ false → y.reached k ≡ true → i < NODE_WORDS → IsMine s (node_address s.past.config k + i)
  pub linked_durable : (k i : ℕ) → (here s).reached k ≡ false → y.reached k ≡ true → i < NODE_WORDS → IsShown (words s.past.config y k) i → IsFlushed s (node_address s.past.config k + i)
  pub shown : (k i : ℕ) → (here s).reached k ≡ true → i < NODE_WORDS → IsShown (words s.past.config y k) i → IsShown (words s.past.config (here s) k) i ⊎ IsMineAndDurable s (node_address s.past.config k + i)

-- keys of the two leaves are answered as these say, and all others as before
pub record PairSays (c : Config) (x y : Instant) (k j : ℕ) : Type 0 where
  pub first : (key : List ℕ) → leaf_in c x.image key ≡ k → content_in c y.image key ≡ found_of (durable c y k) key
  pub second : (key : List ℕ) → leaf_in c x.image key ≡ j → content_in c y.image key ≡ found_of (durable c y j) key
  pub other : (key : List ℕ) → leaf_in c x.image key ≢ k → leaf_in c x.image key ≢ j → content_in c y.image key ≡ content_in c x.image key

abbrev pub PairSwapsAreLawful : Type 0
PairSwapsAreLawful =
    (entries : List Entry) (s : Scene) (k j : ℕ) (y : Instant) → IsScene s → IsPairSwap entries s k j y →
    IsLawfulSwap entries s y × PairSays s.past.config (here s) y k j

-- what is said of a key after these changes
abbrev pub changed : List Change → (List ℕ → Option (List ℕ)) → List ℕ → Option (List ℕ)
changed [] said key = said key
changed (change ∷ changes) said key = if bytes_eq key change.key then change.new else changed changes said key

-- it is so with each change
abbrev pub Each : (Change → Type 0) → List Change → Type 0
Each P [] = Unit {0}
Each P (change ∷ changes) = P change × Each P changes

-- the content is the old one with these changes
pub record MakesChanges (changes : List Change) (c : Config) (x y : Instant) : Type 0 where
  pub before : Each (λ change. content_in c x.image change.key ≡ change.old) changes
  pub after : (key : List ℕ) → content_in c y.image key ≡ changed changes (content_in c x.image) key

-- what a leaf of this range says: these changes, and nothing else
pub record SaysChanges (changes : List Change) (n m : ℕ → ℕ) (low high : Option (List ℕ)) : Type 0 where
  pub range : Each (λ change. is_within change.key low high ≡ true) changes
  pub before : Each (λ change. found_of n change.key ≡ change.old) changes
  pub after : (key : List ℕ) → found_of m key ≡ changed changes (found_of n) key

abbrev pub LeafSays : List Change → Scene → ℕ → Instant → Type 0
LeafSays changes s k y = SaysChanges changes (durable s.past.config (here s) k) (durable s.past.config y k) ((form_at s.past.config (here s)).low k) ((form_at s.past.config (here s)).high k)

-- a swap that is lawful for everybody, and makes these changes at once
pub record IsGoodForAll (changes : List Change) (entries : List Entry) (s : Scene) (y : Instant) : Type 0 where
  pub lawful : IsLawfulSwap entries s y
  pub content : MakesChanges changes s.past.config (here s) y

-- on two leaves it makes the changes of both, and no key is one of both; on one leaf it makes those of that leaf
pub record PairSwapsMakeChanges : Type 0 where
  pub two : (entries : List Entry) (s : Scene) (k j : ℕ) (y : Instant) (first second : List Change) → IsScene s → IsPairSwap entries s k j y → k ≢ j → LeafSays first s k y → LeafSays second s j y → IsGoodForAll (first ++ second) entries s y
  pub apart : (s : Scene) (k j : ℕ) (y : Instant) (first second : List Change) → IsScene s → IsLeafChanged s k y → IsLeafChanged s j y → k ≢ j → LeafSays first s k y → LeafSays second s j y → Each (λ change. Each (λ other. change.key ≢ other.key) second) first
  pub one : (entries : List Entry) (s : Scene) (k : ℕ) (y : Instant) (changes : List Change) → IsScene s → IsPairSwap entries s k k y → LeafSays changes s k y → IsGoodForAll changes entries s y
