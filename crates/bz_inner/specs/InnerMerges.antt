-- The swap of a merge of two inner nodes under the root: the root pointer goes to a new root, which has the one node in the place of both,
-- and the two and the old root are frozen. The root status is not in it.
use Rattle.std.specs.Prelude.{◌≡◌, ◌≢◌, ℕ, ◌+◌, ◌^◌, ◌<◌, ◌≤◌, false, List, [], ◌∷◌, slice_index}
use Rattle.bz_layout.specs.declared.config.Config.{Config}
use Rattle.bz_layout.specs.declared.sizes.TheConstants.{STATUS_AT}
use Rattle.bz_tree.specs.Slots.{Wider, Halves}
use Rattle.bz_slotted.specs.Readers.{count_of, child_of, key_of}
use Rattle.bz_slotted.specs.ReadingLaws.{node_of}
use Rattle.bz_word.specs.Statuses.{status}
use Rattle.bz_word.specs.declared.entry.Entry.{Entry}
use Rattle.bz_content.specs.Restructures.{children_of}
use Rattle.bz_task.specs.Instant.{Instant, words}
use Rattle.bz_task.specs.Scene.{Past, Scene, IsScene, here}
use Rattle.bz_task.specs.Swaps.{Change, Stand, SwapsTo, IsGoodSwap}
use Rattle.bz_renew.specs.Freezings.{Freezing}
use Rattle.bz_renew.specs.LinkSwaps.{IsFresh}
use Rattle.bz_branch.specs.FromSplit.RootSplits.{StandsReady}
use Rattle.bz_branch.specs.Nodes.{WasInner}
use Rattle.bz_inner.specs.Relinks.{relink_with}

-- the node in slot k was read whole as of this moment since the look-up began, and was not frozen
pub record WasOpen (k m : ℕ) (read : List ℕ) (p : Past) : Type 0 where
  pub since : p.since ≤ m
  pub now : m ≤ p.now
  pub node : WasInner k m read p
  pub plain : slice_index read STATUS_AT < 2 ^ 61
  pub thawed : (status (slice_index read STATUS_AT)).frozen ≡ false

-- the node, and its status as it was read
abbrev pub open_freezing : ℕ → List ℕ → Freezing
open_freezing k read = record { slot = k; status = slice_index read STATUS_AT }

-- the three that are frozen: the two, and the root over them
abbrev pub three_freezings : (a b p : ℕ) → (ra rb rp : List ℕ) → List Freezing
three_freezings a b p ra rb rp = open_freezing a ra ∷ open_freezing b rb ∷ open_freezing p rp ∷ []

-- the four entries
abbrev pub merge_swap : Config → (a b p : ℕ) → (ra rb rp : List ℕ) → ℕ → List Entry
merge_swap c a b p ra rb rp to = relink_with c p to (three_freezings a b p ra rb rp)

-- the root p was read, with a and b as its children i and i + 1, which were read too
pub record AreReadTogether (a b p ma mb mp i : ℕ) (ra rb rp : List ℕ) (sep : List ℕ) (s : Past) : Type 0 where
  pub left : WasOpen a ma ra s
  pub right : WasOpen b mb rb s
  pub parent : WasOpen p mp rp s
  pub within : i + 1 < count_of (node_of rp)
  pub left_child : child_of (node_of rp) i ≡ a
  pub right_child : child_of (node_of rp) (i + 1) ≡ b
  pub separator : key_of (node_of rp) (i + 1) ≡ sep

-- two slots are the worker's own and durable: the new root, which has the children of the old one but for the two, in whose place is m;
-- and m, which has the children of both
pub record AreReadyJoined (a b p ma mb mp i q m : ℕ) (ra rb rp : List ℕ) (sep : List ℕ) (s : Scene) : Type 0 where
  pub read : AreReadTogether a b p ma mb mp i ra rb rp sep s.past
  pub fresh_q : IsFresh s q
  pub fresh_m : IsFresh s m
  pub two : q ≢ m
  pub child : child_of (words s.past.config (here s) q) i ≡ m
  pub narrower : Wider (children_of (words s.past.config (here s) q)) (children_of (node_of rp)) i a b sep
  pub joined : Halves (children_of (words s.past.config (here s) m)) (children_of (node_of ra)) (children_of (node_of rb)) (count_of (node_of ra)) sep
  pub whole_q : StandsReady s q read.parent.node.level read.parent.node.low read.parent.node.high
  pub whole_m : StandsReady s m read.left.node.level read.left.node.low read.right.node.high

-- then the swap is lawful for everybody and changes no content
abbrev pub InnerMergesAreGood : Type 0
InnerMergesAreGood =
    (change : Change) (s : Scene) (y : Instant) (a b p ma mb mp i q m : ℕ) (ra rb rp : List ℕ) (sep : List ℕ) → IsScene s → AreReadyJoined a b p ma mb mp i q m ra rb rp sep s →
    Stand (merge_swap s.past.config a b p ra rb rp q) (here s) → SwapsTo s.past.config (merge_swap s.past.config a b p ra rb rp q) (here s) y →
    IsGoodSwap false change (merge_swap s.past.config a b p ra rb rp q) s y
