-- What an update knows, and what it asks for.
use Rattle.std.specs.Prelude.{◌≡◌, ℕ, ◌+◌, ◌-◌, ◌*◌, ◌<◌, ◌≤◌, nat_lt, if◌then◌else◌, Bool, true, false, List, [], ◌∷◌, Option, Some, None, slice_index}
use Rattle.bz_call.specs.declared.replies.Spent.TheVariants.{Swaps}
use Rattle.bz_key.specs.Bytes.{IsKey, IsPayload}
use Rattle.bz_layout.specs.declared.config.Config.{Config}
use Rattle.bz_layout.specs.declared.sizes.TheConstants.{SHARED_WORDS}
use Rattle.bz_layout.specs.declared.thresholds.TheConstants.{RECORD_WORDS, RECORD_LINES}
use Rattle.bz_node.specs.Reading.{extent_words}
use Rattle.bz_word.specs.Metas.{IsExtent}
use Rattle.bz_task.specs.Outcomes.{payload_of}
use Rattle.bz_task.specs.Scene.{Scene, Stage, Waiting, Took, HasFilled}
use Rattle.bz_task.specs.Swaps.{Change}
use Rattle.bz_task.specs.declared.todo.Outcome.{Outcome}
use Rattle.bz_task.specs.declared.todo.Outcome.TheVariants.{Done as IsDone, Restart as Restarts, NeedsRoom as Needs, Full as IsFull}
use Rattle.bz_task.specs.declared.todo.Todo.{Todo}
use Rattle.bz_task.specs.declared.todo.Todo.TheVariants.{Store as Stores_at, Flush as Flushes_line, Swap as Swaps_for, Finish}
use Rattle.bz_task.specs.declared.view.KeyView.{KeyView}
use Rattle.bz_record.specs.Records.{words_in, size_of, address_of, HasRoom, LacksRoom, Fits}
use Rattle.bz_record.specs.Replacing.{growth, replacement, WasRecord, WasGrown}
use Rattle.bz_record.specs.Swaps.{entries_of}
use Rattle.bz_record.specs.Writing.{first_line, last_line, IsWritingRecord, HasWritten}
use Rattle.bz_record.specs.declared.found_record.FoundRecord.{FoundRecord}
use Rattle.bz_record.specs.declared.new_record.NewRecord.{NewRecord}
use Rattle.bz_mutate.specs.Viewed.{HasViewed}
use Rattle.bz_mutate.specs.declared.update_phase.UpdatePhase.{UpdatePhase}
use Rattle.bz_mutate.specs.declared.update_phase.UpdatePhase.TheVariants.{Fresh, Grow, Store, Flush, Replace, Done, Restart, NeedsRoom, Full}

abbrev pub update_asks : Config → NewRecord → UpdatePhase → Option Todo
update_asks c r Fresh = None
update_asks c r (Grow f) = Some (Swaps_for (growth c r ∷ []))
update_asks c r (Store f i) = Some (Stores_at (address_of c r i) (slice_index (words_in r) i))
update_asks c r (Flush f n) = Some (Flushes_line (first_line c r + n))
update_asks c r (Replace f) = Some (Swaps_for (entries_of c (replacement r f.place f.extent)))
update_asks c r phase = Some Finish

abbrev pub update_end : UpdatePhase → Option Outcome
update_end Done = Some IsDone
update_end Restart = Some Restarts
update_end NeedsRoom = Some Needs
update_end Full = Some (IsFull Swaps)
update_end phase = None

-- the most steps: two swaps, the stores of the record, its flushes, each of which counts two, and the end
abbrev pub update_acts : ℕ
update_acts = RECORD_WORDS + 2 * RECORD_LINES + 3

abbrev pub update_left : UpdatePhase → ℕ
update_left Fresh = update_acts
update_left (Grow f) = RECORD_WORDS + 2 * RECORD_LINES + 2
update_left (Store f i) = RECORD_WORDS + 2 * RECORD_LINES + 1 - i
update_left (Flush f n) = 2 * (RECORD_LINES - n)
update_left (Replace f) = 1
update_left phase = 0

-- the steps of what is asked for
abbrev pub update_steps : UpdatePhase → ℕ
update_steps (Flush f n) = 2
update_steps phase = 1

-- the most swaps: both up to the growth, the replacement from the first store on
abbrev pub update_swaps : UpdatePhase → ℕ
update_swaps Fresh = 2
update_swaps (Grow f) = 2
update_swaps (Store f i) = 1
update_swaps (Flush f n) = 1
update_swaps (Replace f) = 1
update_swaps phase = 0

-- from the first store on it was told that the growth took effect
abbrev pub update_made : UpdatePhase → ℕ
update_made (Store f i) = 1
update_made (Flush f n) = 1
update_made (Replace f) = 1
update_made phase = 0

-- after a store comes the next one, or the first flush; after a flush the next one, or the replacement
abbrev pub next_store : NewRecord → FoundRecord → ℕ → UpdatePhase
next_store r f i = if nat_lt (i + 1) (size_of r) then Store f (i + 1) else Flush f 0

abbrev pub next_flush : Config → NewRecord → FoundRecord → ℕ → UpdatePhase
next_flush c r f n = if nat_lt (first_line c r + n) (last_line c r) then Flush f (n + 1) else Replace f

-- the swap that puts the record in the old one's place is the one that makes the change
abbrev pub update_publishes : UpdatePhase → Bool
update_publishes (Replace f) = true
update_publishes phase = false

-- the key has the new payload in place of what the view says of it
abbrev pub revision : KeyView → NewRecord → Change
revision v r = record { key = r.key; old = payload_of v.found; new = Some r.payload }

-- the key's leaf was viewed, with the key in it, and the new record is one for this leaf
pub record HasViewedFor (v : KeyView) (r : NewRecord) (s : Scene) : Type 0 where
  pub viewed : HasViewed r.key v s
  pub slot : r.slot ≡ v.slot
  pub status : r.status ≡ v.status
  pub key : IsKey r.key
  pub payload : IsPayload r.payload
  pub some : 0 < size_of r
  pub few : size_of r ≤ RECORD_WORDS

-- the record that was found is one of a leaf, and has what the view says of the key; the leaf has room for the new one
pub record IsPair (v : KeyView) (r : NewRecord) (f : FoundRecord) : Type 0 where
  pub old : List ℕ
  pub said : payload_of v.found ≡ Some old
  pub fits : Fits r
  pub place : f.place < SHARED_WORDS
  pub extent : IsExtent f.extent
  pub some : 0 < f.extent.key
  pub small : extent_words f.extent ≤ SHARED_WORDS

-- it was in the leaf as viewed
pub record CanGrow (v : KeyView) (r : NewRecord) (f : FoundRecord) (s : Scene) : Type 0 where
  pub pair : IsPair v r f
  pub was : WasRecord r.key pair.old r.slot r.status f.place f.extent s.past
  pub going : s.effected ≡ false

-- the block has the new record's words; so many are stored, and so many lines durable
pub record HasGrown (v : KeyView) (r : NewRecord) (f : FoundRecord) (words lines : ℕ) (s : Scene) : Type 0 where
  pub pair : IsPair v r f
  pub grown : WasGrown r pair.old f.place f.extent s.past
  pub writing : IsWritingRecord r words lines s
  pub going : s.effected ≡ false

-- all of them are
pub record CanReplace (v : KeyView) (r : NewRecord) (f : FoundRecord) (s : Scene) : Type 0 where
  pub pair : IsPair v r f
  pub grown : WasGrown r pair.old f.place f.extent s.past
  pub written : HasWritten r s
  pub going : s.effected ≡ false

-- the call has had its effect
pub record HasReplaced (r : NewRecord) (s : Scene) : Type 0 where
  pub room : HasRoom r.status (size_of r)
  pub effected : s.effected ≡ true

-- line n, counted from the record's first one, is one of the record's
abbrev pub IsLineOf : Config → NewRecord → ℕ → Type 0
IsLineOf c r n = first_line c r + n ≤ last_line c r

abbrev pub update_learnt : KeyView → NewRecord → UpdatePhase → Stage → Scene → Type 0
update_learnt v r Fresh Waiting s = HasViewedFor v r s
update_learnt v r (Grow f) Waiting s = CanGrow v r f s
update_learnt v r (Grow f) Took s = HasGrown v r f 0 0 s
update_learnt v r (Store f i) Waiting s = (i < size_of r) × HasGrown v r f i 0 s
update_learnt v r (Store f i) Took s = (i < size_of r) × HasGrown v r f (i + 1) 0 s
update_learnt v r (Flush f n) Waiting s = IsLineOf s.past.config r n × HasGrown v r f (size_of r) n s
update_learnt v r (Flush f n) Took s = IsLineOf s.past.config r n × HasGrown v r f (size_of r) (n + 1) s
update_learnt v r (Replace f) Waiting s = CanReplace v r f s
update_learnt v r (Replace f) Took s = HasReplaced r s
update_learnt v r Done Waiting s = HasReplaced r s
update_learnt v r Restart Waiting s = HasRoom r.status (size_of r)
update_learnt v r Full Waiting s = HasRoom r.status (size_of r)
update_learnt v r NeedsRoom Waiting s = LacksRoom r.status (size_of r)
update_learnt v r phase Took s = ⊥

-- from the first act on each slot that was taken has been stored into
abbrev pub update_facts : KeyView → NewRecord → UpdatePhase → Stage → Scene → Type 0
update_facts v r Fresh stage s = update_learnt v r Fresh stage s
update_facts v r phase stage s = HasFilled s × update_learnt v r phase stage s

-- it ends for want of room exactly where the leaf as it was viewed lacks it
abbrev pub update_means : NewRecord → Outcome → Scene → Type 0
update_means r IsDone s = HasReplaced r s
update_means r Restarts s = HasRoom r.status (size_of r)
update_means r Needs s = LacksRoom r.status (size_of r)
update_means r (IsFull Swaps) s = HasRoom r.status (size_of r)
update_means r outcome s = ⊥

-- an update ends so and in no other way
abbrev pub IsEndOfUpdate : Outcome → Type 0
IsEndOfUpdate IsDone = Unit {0}
IsEndOfUpdate Restarts = Unit {0}
IsEndOfUpdate Needs = Unit {0}
IsEndOfUpdate (IsFull Swaps) = Unit {0}
IsEndOfUpdate outcome = ⊥

-- what is named is there
pub record IsNamed (c : Config) (v : KeyView) (r : NewRecord) (f : FoundRecord) : Type 0 where
  pub pair : IsPair v r f
  pub slot : r.slot < c.nodes

abbrev pub IsReady : Config → KeyView → NewRecord → UpdatePhase → Type 0
IsReady c v r (Grow f) = IsNamed c v r f
IsReady c v r (Store f i) = IsNamed c v r f × (i < size_of r)
IsReady c v r (Flush f n) = IsNamed c v r f × (n < RECORD_LINES)
IsReady c v r (Replace f) = IsNamed c v r f
IsReady c v r phase = Unit {0}

-- a phase in which an update may begin
abbrev pub IsFirst : UpdatePhase → Type 0
IsFirst (Grow f) = Unit {0}
IsFirst NeedsRoom = Unit {0}
IsFirst phase = ⊥
