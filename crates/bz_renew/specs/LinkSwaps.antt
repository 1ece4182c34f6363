-- A swap that turns a link: what it must do to the slots so that it is lawful for everybody. The slots below the link that go
-- are frozen; those that come in their places were the worker's own.
use Rattle.std.specs.Prelude.{◌≡◌, ℕ, ◌+◌, ◌<◌, true, false, List}
use Rattle.bz_layout.specs.Addresses.{node_address}
use Rattle.bz_layout.specs.declared.sizes.TheConstants.{NODE_WORDS}
use Rattle.bz_tree.specs.Outcomes.{Regrows}
use Rattle.bz_tree.specs.Walk.{is_among}
use Rattle.bz_task.specs.FromSwap.SwapMemory.{is_target}
use Rattle.bz_word.specs.declared.entry.Entry.{Entry}
use Rattle.bz_task.specs.FromContent.Content.{view_in}
use Rattle.bz_task.specs.Instant.{Instant, words, page_at}
use Rattle.bz_task.specs.Requests.{IsTarget}
use Rattle.bz_task.specs.Scene.{Scene, IsScene, here}
use Rattle.bz_task.specs.Shown.{IsShown}
use Rattle.bz_task.specs.Steps.{NodeMoves, ReplacedRootIsFrozen}
use Rattle.bz_task.specs.Swaps.{Change, SwapsTo, IsMineAndDurable, IsGoodSwap}

-- a reached slot is changed as nodes are, and no more of it is read afterwards
pub record IsChanged (s : Scene) (y : Instant) (k : ℕ) : Type 0 where
  pub reached : (here s).reached k ≡ true
  pub moved : NodeMoves s.past.config (here s) y k
  pub shown : (i : ℕ) → IsShown (words s.past.config y k) i → IsShown (words s.past.config (here s) k) i

-- a slot that is all the worker's own, and durable
pub record IsFresh (s : Scene) (k : ℕ) : Type 0 where
  pub slot : k < s.past.config.nodes
  pub own : (i : ℕ) → i < NODE_WORDS → IsMineAndDurable s (node_address s.past.config k + i)

-- the swap names words of these slots and of the superblock alone; for the slots that go others come, and the content is
-- the same
pub record IsLinkSwap (entries : List Entry) (s : Scene) (changed gone new : List ℕ) (y : Instant) : Type 0 where
  pub swaps : SwapsTo s.past.config entries (here s) y
  pub targets : (a : ℕ) → is_target entries a ≡ true → IsTarget s a
  pub others : (k i : ℕ) → is_among changed k ≡ false → i < NODE_WORDS → is_target entries (node_address s.past.config k + i) ≡ false
  pub changes : (k : ℕ) → is_among changed k ≡ true → IsChanged s y k
  pub root : ReplacedRootIsFrozen s.past.config (here s) y
  pub fresh : (k : ℕ) → is_among new k ≡ true → IsFresh s k
  pub frozen : (k : ℕ) → is_among gone k ≡ true → (page_at s.past.config y k).frozen ≡ true
  pub regrows : Regrows (view_in s.past.config (here s).image) (view_in s.past.config y.image) gone new

abbrev pub LinkSwapsAreGood : Type 0
LinkSwapsAreGood =
    (change : Change) (entries : List Entry) (s : Scene) (changed gone new : List ℕ) (y : Instant) → IsScene s → IsLinkSwap entries s changed gone new y →
    IsGoodSwap false change entries s y
