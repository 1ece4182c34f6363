-- What an insert knows, and what it asks for.
use Rattle.std.specs.Prelude.{◌≡◌, ℕ, ◌+◌, ◌-◌, ◌*◌, ◌<◌, ◌≤◌, nat_lt, if◌then◌else◌, Bool, true, false, Option, Some, None, slice_index}
use Rattle.bz_call.specs.declared.replies.Spent.TheVariants.{Swaps}
use Rattle.bz_key.specs.Bytes.{IsKey, IsPayload}
use Rattle.bz_layout.specs.declared.config.Config.{Config}
use Rattle.bz_layout.specs.declared.thresholds.TheConstants.{RECORD_WORDS, RECORD_LINES}
use Rattle.bz_word.specs.Statuses.{status}
use Rattle.bz_task.specs.Scene.{Scene, Stage, Waiting, Took, HasFilled}
use Rattle.bz_task.specs.declared.todo.Outcome.{Outcome}
use Rattle.bz_task.specs.declared.todo.Outcome.TheVariants.{Done as IsDone, Restart as Restarts, NeedsRoom as Needs, Full as IsFull}
use Rattle.bz_task.specs.declared.todo.Todo.{Todo}
use Rattle.bz_task.specs.declared.todo.Todo.TheVariants.{Store as Stores_at, Flush as Flushes_line, Swap as Swaps_for, Finish}
use Rattle.bz_record.specs.Leaves.{WasLeafOf, WasReserved}
use Rattle.bz_record.specs.Records.{words_in, size_of, address_of, HasRoom, LacksRoom, Fits}
use Rattle.bz_record.specs.Swaps.{entries_of, reservation, publication}
use Rattle.bz_record.specs.Writing.{first_line, last_line, IsWritingRecord, HasWritten}
use Rattle.bz_record.specs.declared.new_record.NewRecord.{NewRecord}
use Rattle.bz_insert.specs.declared.phase.InsertPhase.{InsertPhase}
use Rattle.bz_insert.specs.declared.phase.InsertPhase.TheVariants.{Fresh, Reserve, Store, Flush, Publish, Done, Restart, NeedsRoom, Full}

abbrev pub insert_asks : Config → NewRecord → InsertPhase → Option Todo
insert_asks c r Fresh = None
insert_asks c r Reserve = Some (Swaps_for (entries_of c (reservation r)))
insert_asks c r (Store i) = Some (Stores_at (address_of c r i) (slice_index (words_in r) i))
insert_asks c r (Flush n) = Some (Flushes_line (first_line c r + n))
insert_asks c r Publish = Some (Swaps_for (entries_of c (publication r)))
insert_asks c r phase = Some Finish

abbrev pub insert_end : InsertPhase → Option Outcome
insert_end Done = Some IsDone
insert_end Restart = Some Restarts
insert_end NeedsRoom = Some Needs
insert_end Full = Some (IsFull Swaps)
insert_end phase = None

-- the most steps: two swaps, the stores of the record, its flushes, each of which counts two, and the end
abbrev pub insert_acts : ℕ
insert_acts = RECORD_WORDS + 2 * RECORD_LINES + 3

abbrev pub insert_left : InsertPhase → ℕ
insert_left Fresh = insert_acts
insert_left Reserve = RECORD_WORDS + 2 * RECORD_LINES + 2
insert_left (Store i) = RECORD_WORDS + 2 * RECORD_LINES + 1 - i
insert_left (Flush n) = 2 * (RECORD_LINES - n)
insert_left Publish = 1
insert_left phase = 0

-- the steps of what is asked for
abbrev pub insert_steps : InsertPhase → ℕ
insert_steps (Flush n) = 2
insert_steps phase = 1

-- the most swaps: both up to the reservation, the publication from the first store on
abbrev pub insert_swaps : InsertPhase → ℕ
insert_swaps Fresh = 2
insert_swaps Reserve = 2
insert_swaps (Store i) = 1
insert_swaps (Flush n) = 1
insert_swaps Publish = 1
insert_swaps phase = 0

-- from the first store on it was told that the reservation took effect
abbrev pub insert_made : InsertPhase → ℕ
insert_made (Store i) = 1
insert_made (Flush n) = 1
insert_made Publish = 1
insert_made phase = 0

-- after a store comes the next one, or the first flush; after a flush the next one, or the publication
abbrev pub next_store : NewRecord → ℕ → InsertPhase
next_store r i = if nat_lt (i + 1) (size_of r) then Store (i + 1) else Flush 0

abbrev pub next_flush : Config → NewRecord → ℕ → InsertPhase
next_flush c r n = if nat_lt (first_line c r + n) (last_line c r) then Flush (n + 1) else Publish

-- the swap that makes the record visible is the one that makes the change
abbrev pub insert_publishes : InsertPhase → Bool
insert_publishes Publish = true
insert_publishes phase = false

-- the leaf of the key was viewed, and had no such key
pub record HasViewed (r : NewRecord) (s : Scene) : Type 0 where
  pub moment : ℕ
  pub leaf : WasLeafOf r.key None r.slot r.status moment s.past
  pub dead : (status r.status).dead ≤ (status r.status).block
  pub key : IsKey r.key
  pub payload : IsPayload r.payload
  pub some : 0 < size_of r
  pub few : size_of r ≤ RECORD_WORDS
  pub going : s.effected ≡ false

-- and has room for the record
pub record CanReserve (r : NewRecord) (s : Scene) : Type 0 where
  pub viewed : HasViewed r s
  pub room : HasRoom r.status (size_of r)

-- the record's place is reserved; so many words are stored, and so many lines durable
pub record HasReserved (r : NewRecord) (words lines : ℕ) (s : Scene) : Type 0 where
  pub fits : Fits r
  pub reserved : WasReserved r s.past
  pub writing : IsWritingRecord r words lines s
  pub going : s.effected ≡ false

-- all of them are
pub record CanPublish (r : NewRecord) (s : Scene) : Type 0 where
  pub fits : Fits r
  pub reserved : WasReserved r s.past
  pub written : HasWritten r s
  pub going : s.effected ≡ false

-- the call has had its effect
pub record HasPublished (r : NewRecord) (s : Scene) : Type 0 where
  pub room : HasRoom r.status (size_of r)
  pub effected : s.effected ≡ true

-- line n, counted from the record's first one, is one of the record's
abbrev pub IsLineOf : Config → NewRecord → ℕ → Type 0
IsLineOf c r n = first_line c r + n ≤ last_line c r

abbrev pub insert_learnt : NewRecord → InsertPhase → Stage → Scene → Type 0
insert_learnt r Fresh Waiting s = HasViewed r s
insert_learnt r Reserve Waiting s = CanReserve r s
insert_learnt r Reserve Took s = HasReserved r 0 0 s
insert_learnt r (Store i) Waiting s = (i < size_of r) × HasReserved r i 0 s
insert_learnt r (Store i) Took s = (i < size_of r) × HasReserved r (i + 1) 0 s
insert_learnt r (Flush n) Waiting s = IsLineOf s.past.config r n × HasReserved r (size_of r) n s
insert_learnt r (Flush n) Took s = IsLineOf s.past.config r n × HasReserved r (size_of r) (n + 1) s
insert_learnt r Publish Waiting s = CanPublish r s
insert_learnt r Publish Took s = HasPublished r s
insert_learnt r Done Waiting s = HasPublished r s
insert_learnt r Restart Waiting s = HasRoom r.status (size_of r)
insert_learnt r Full Waiting s = HasRoom r.status (size_of r)
insert_learnt r NeedsRoom Waiting s = LacksRoom r.status (size_of r)
insert_learnt r phase Took s = ⊥

-- from the first act on each slot that was taken has been stored into
abbrev pub insert_facts : NewRecord → InsertPhase → Stage → Scene → Type 0
insert_facts r Fresh stage s = insert_learnt r Fresh stage s
insert_facts r phase stage s = HasFilled s × insert_learnt r phase stage s

-- it ends for want of room exactly where the leaf as it was viewed lacks it
abbrev pub insert_means : NewRecord → Outcome → Scene → Type 0
insert_means r IsDone s = HasPublished r s
insert_means r Restarts s = HasRoom r.status (size_of r)
insert_means r Needs s = LacksRoom r.status (size_of r)
insert_means r (IsFull Swaps) s = HasRoom r.status (size_of r)
insert_means r outcome s = ⊥

-- an insert ends so and in no other way
abbrev pub IsEndOfInsert : Outcome → Type 0
IsEndOfInsert IsDone = Unit {0}
IsEndOfInsert Restarts = Unit {0}
IsEndOfInsert Needs = Unit {0}
IsEndOfInsert (IsFull Swaps) = Unit {0}
IsEndOfInsert outcome = ⊥

-- what is named is there
abbrev pub IsReady : Config → NewRecord → InsertPhase → Type 0
IsReady c r Reserve = Fits r × (r.slot < c.nodes)
IsReady c r (Store i) = Fits r × (r.slot < c.nodes) × (i < size_of r)
IsReady c r (Flush n) = Fits r × (r.slot < c.nodes) × (n < RECORD_LINES)
IsReady c r Publish = Fits r × (r.slot < c.nodes)
IsReady c r phase = Unit {0}
