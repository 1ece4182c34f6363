-- Several fresh nodes, each of which goes into a slot of its own. Their words are counted through, node after node, and so are
-- their lines.
use Rattle.std.specs.Prelude.{◌≡◌, ◌≢◌, ℕ, ◌+◌, ◌*◌, ◌/◌, ◌%◌, ◌^◌, ◌<◌, ◌≤◌, true, false, List, All, length, drop, slice_index}
use Rattle.bz_layout.specs.Addresses.{node_address, line_of}
use Rattle.bz_layout.specs.Slots.{FreeSlots}
use Rattle.bz_layout.specs.declared.config.Config.{Config}
use Rattle.bz_layout.specs.declared.sizes.TheConstants.{NODE_WORDS, LINE_WORDS, NODE_LINES}
use Rattle.bz_tree.specs.Walk.{is_among}
use Rattle.bz_task.specs.Scene.{Scene, IsMine, IsFlushed, here}

-- how many they are, the slot of each, and its words
pub record Nodes : Type 0 where
  pub count : ℕ
  pub slot : ℕ → ℕ
  pub image : ℕ → List ℕ

-- where word j of them all is stored, and its value; and line j of them all
abbrev pub word_address : Config → Nodes → ℕ → ℕ
word_address c r j = node_address c (r.slot (j / NODE_WORDS)) + j % NODE_WORDS

abbrev pub word_value : Nodes → ℕ → ℕ
word_value r j = slice_index (r.image (j / NODE_WORDS)) (j % NODE_WORDS)

abbrev pub line_number : Config → Nodes → ℕ → ℕ
line_number c r j = line_of (node_address c (r.slot (j / NODE_LINES))) + j % NODE_LINES

-- their slots are those of a memory, and different ones
pub record HaveSlots (nodes : ℕ) (r : Nodes) : Type 0 where
  pub within : (n : ℕ) → n < r.count → r.slot n < nodes
  pub apart : (n m : ℕ) → n < r.count → m < r.count → r.slot n ≡ r.slot m → n ≡ m

-- each is a node's words, which are plain values
pub record ArePlain (r : Nodes) : Type 0 where
  pub size : (n : ℕ) → n < r.count → length (r.image n) ≡ NODE_WORDS
  pub plain : (n : ℕ) → n < r.count → All (λ v. v < 2 ^ 61) (r.image n)

-- all words of their slots are the worker's own; the first so many are stored, and the first so many lines durable
pub record AreWriting (r : Nodes) (stored lines : ℕ) (s : Scene) : Type 0 where
  pub slots : HaveSlots s.past.config.nodes r
  pub mine : (n i : ℕ) → n < r.count → i < NODE_WORDS → IsMine s (node_address s.past.config (r.slot n) + i)
  pub stored_is : (n i : ℕ) → n < r.count → i < NODE_WORDS → NODE_WORDS * n + i < stored → (here s).value (node_address s.past.config (r.slot n) + i) ≡ slice_index (r.image n) i
  pub flushed : (n i : ℕ) → n < r.count → i < NODE_WORDS → NODE_WORDS * n + i < LINE_WORDS * lines → IsFlushed s (node_address s.past.config (r.slot n) + i)

-- every slot that this worker took has been stored into, but for those of the nodes that are not begun
abbrev pub HasFilledBegun : Nodes → ℕ → Scene → Type 0
HasFilledBegun r stored s = (k : ℕ) → s.took k ≡ true → ((n : ℕ) → n < r.count → stored ≤ NODE_WORDS * n → k ≢ r.slot n) → s.filled k ≡ true

-- a number of one of the nodes
pub record IsSlotOf (r : Nodes) (k : ℕ) : Type 0 where
  pub node : ℕ
  pub within : node < r.count
  pub is : k ≡ r.slot node

-- their slots, the lowest free ones, are taken all at once
pub record AreSlotsTaken (r : Nodes) (old new : FreeSlots) : Type 0 where
  pub enough : r.count ≤ length old.free
  pub rest : new ≡ record old { free = drop r.count old.free }
  pub slots : HaveSlots old.nodes r
  pub were : (n : ℕ) → n < r.count → is_among old.free (r.slot n) ≡ true
  pub gone : (n : ℕ) → n < r.count → is_among new.free (r.slot n) ≡ false
  pub only : (k : ℕ) → is_among old.free k ≡ true → is_among new.free k ≡ false → IsSlotOf r k
