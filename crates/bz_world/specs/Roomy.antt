-- A leaf that had room for what a call puts there when that began, or keeps enough without what it takes away; and how many swaps a reply tells.
use Rattle.std.specs.Prelude.{◌≡◌, ◌⊎◌, ◌≤◌, ◌+◌, ℕ, true, false, List}
use Rattle.bz_call.specs.Map.{key_of}
use Rattle.bz_call.specs.declared.calls.Call.{Call}
use Rattle.bz_call.specs.declared.calls.Call.TheVariants as call
use Rattle.bz_call.specs.declared.replies.Reply.{Reply}
use Rattle.bz_call.specs.declared.replies.Reply.TheVariants.{Inserted, Exists, Deleted, Updated, Missing, Value, Page, Full}
use Rattle.bz_content.specs.Content.{image_of, view_in}
use Rattle.bz_stage.specs.FromLeaves.Neighbours.{leaf_page, own_live}
use Rattle.bz_layout.specs.declared.config.Config.{Config}
use Rattle.bz_layout.specs.declared.swaps.TheConstants.{DELETE_SWAPS, INSERT_SWAPS, UPDATE_SWAPS}
use Rattle.bz_layout.specs.declared.thresholds.TheConstants.{LEAF_RECORD_WORDS, MERGE_BELOW}
use Rattle.bz_solo.specs.Errands.{is_read, words_asked}
use Rattle.bz_mark.specs.declared.marks.Mark.{Mark}
use Rattle.bz_sound.specs.Calls.{Open}
use Rattle.bz_sound.specs.Memory.Moments.{image_at}
use Rattle.bz_stage.specs.Rooms.{has_room}

-- the leaf of the key has enough live words to stand alone, and so many more; or it is the root, which has no neighbour
abbrev pub NeedsNoNeighbour : Config → (ℕ → ℕ) → List ℕ → ℕ → Type 0
NeedsNoNeighbour c image key more = (MERGE_BELOW + more ≤ own_live c image key) ⊎ ((view_in c image).height ≡ 1)

-- so the leaf of a delete's key
abbrev pub KeepsEnough : Config → (ℕ → ℕ) → Call → ℕ → Type 0
KeepsEnough c image (call.Delete key) more = NeedsNoNeighbour c image key more
KeepsEnough c image (call.Insert key payload) more = Unit {0}
KeepsEnough c image (call.Update key payload) more = Unit {0}
KeepsEnough c image (call.Upsert key payload) more = Unit {0}
KeepsEnough c image (call.Get key) more = Unit {0}
KeepsEnough c image (call.Page key) more = Unit {0}

-- in the durable image at the begin of a call that may change the map the leaf of its key was not frozen, and had free the words of the record and its
-- metadata word; and that of a delete stands alone without the words that a record may have
pub record HadRoom (c : Config) (start : List ℕ) (past : List Mark) (opened : Open) : Type 0 where
  pub writes : is_read opened.call ≡ false
  pub room : has_room (leaf_page c (image_of (image_at start opened.begun past)) (key_of opened.call)) (words_asked opened.call) ≡ true
  pub enough : KeepsEnough c (image_at start opened.begun past) opened.call LEAF_RECORD_WORDS

-- how many swaps a reply tells
abbrev pub swaps_told : Reply → ℕ
swaps_told Inserted = INSERT_SWAPS
swaps_told (Updated had) = UPDATE_SWAPS
swaps_told (Deleted had) = DELETE_SWAPS
swaps_told Exists = 0
swaps_told Missing = 0
swaps_told (Value payload) = 0
swaps_told (Page page next) = 0
swaps_told (Full spent) = 0
