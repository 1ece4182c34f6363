-- A swap on one leaf of the tree: what it must do to the words of the leaf so that it is lawful for everybody. A freeze, a
-- reservation, a publication, a delete and both swaps of an update are such swaps.
use Rattle.std.specs.Prelude.{◌≡◌, ℕ, ◌+◌, ◌<◌, ◌⊎◌, bytes_eq, if◌then◌else◌, Bool, true, false, List, Option, None}
use Rattle.bz_layout.specs.Addresses.{node_address}
use Rattle.bz_layout.specs.declared.sizes.TheConstants.{NODE_WORDS}
use Rattle.bz_tree.specs.Order.{is_within}
use Rattle.bz_content.specs.FromSlotted.Readers.{found_of}
use Rattle.bz_content.specs.FromSlotted.Rules.{node_fault}
use Rattle.bz_swap.specs.SwapMemory.{is_target}
use Rattle.bz_word.specs.declared.entry.Entry.{Entry}
use Rattle.bz_content.specs.Image.{node}
use Rattle.bz_task.specs.Instant.{Instant, words, durable, form_at, is_inside}
use Rattle.bz_task.specs.Requests.{IsTarget}
use Rattle.bz_task.specs.Scene.{Scene, IsScene, here}
use Rattle.bz_task.specs.Shown.{IsShown}
use Rattle.bz_task.specs.Steps.{Moves}
use Rattle.bz_task.specs.Swaps.{Change, SwapsTo, IsMineAndDurable, IsGoodSwap}

-- a word of the slot
pub record IsWordOf (s : Scene) (k a : ℕ) : Type 0 where
  pub place : ℕ
  pub within : place < NODE_WORDS
  pub address : a ≡ node_address s.past.config k + place

-- what a leaf of this range says: the change, and nothing else
pub record SaysChange (change : Change) (n m : ℕ → ℕ) (low high : Option (List ℕ)) : Type 0 where
  pub range : is_within change.key low high ≡ true
  pub before : found_of n change.key ≡ change.old
  pub after : (key : List ℕ) → found_of m key ≡ if bytes_eq key change.key then change.new else found_of n key

-- the change where the swap is the one that makes it, and otherwise what was said before
abbrev pub SaysAsItShould : Bool → Change → (n m : ℕ → ℕ) → Option (List ℕ) → Option (List ℕ) → Type 0
SaysAsItShould true change n m low high = SaysChange change n m low high
SaysAsItShould false change n m low high = (key : List ℕ) → found_of m key ≡ found_of n key

pub record IsLeafSwap (publishes : Bool) (change : Change) (entries : List Entry) (s : Scene) (k : ℕ) (y : Instant) : Type 0 where
  pub swaps : SwapsTo s.past.config entries (here s) y
  -- slot k is a leaf of the tree, and the swap names words of it alone
  pub inside : is_inside s.past.config (here s) k ≡ true
  pub slot : k < s.past.config.nodes
  pub leaf : (form_at s.past.config (here s)).level k ≡ 0
  pub place : (a : ℕ) → is_target entries a ≡ true → IsWordOf s k a
  pub targets : (a : ℕ) → is_target entries a ≡ true → IsTarget s a
  -- it is changed as nodes are, breaks no rule afterwards, and says what it should
  pub moves : Moves (words s.past.config (here s) k) (words s.past.config y k)
  pub whole : node_fault s.past.config.nodes (node s.past.config y.image k) (durable s.past.config y k) 0 ((form_at s.past.config (here s)).low k) ((form_at s.past.config (here s)).high k) ≡ None
  pub says : SaysAsItShould publishes change (durable s.past.config (here s) k) (durable s.past.config y k) ((form_at s.past.config (here s)).low k) ((form_at s.past.config (here s)).high k)
  -- what readers read from now on was the worker's own, and durable
  pub shown : (i : ℕ) → i < NODE_WORDS → IsShown (words s.past.config y k) i → IsShown (words s.past.config (here s) k) i ⊎ IsMineAndDurable s (node_address s.past.config k + i)

abbrev pub LeafSwapsAreGood : Type 0
LeafSwapsAreGood =
    (publishes : Bool) (change : Change) (entries : List Entry) (s : Scene) (k : ℕ) (y : Instant) → IsScene s → IsLeafSwap publishes change entries s k y →
    IsGoodSwap publishes change entries s y
