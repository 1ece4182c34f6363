-- The journal of a memory whose power has failed, from the power cut to the end of its recovery, where a new life begins.
use Rattle.std.specs.Prelude.{◌≡◌, ℕ, suc, ◌+◌, ◌*◌, ◌<◌, ◌≤◌, false, List, [], ◌∷◌, length, slice_index, Option, Some, None, ◌≢◌}
use Rattle.bz_swap_acts.specs.declared.acted.Act.{Act}
use Rattle.bz_swap_acts.specs.declared.acted.Act.TheVariants as act
use Rattle.bz_content.specs.Content.{image_fault}
use Rattle.bz_content.specs.Resolving.{resolve}
use Rattle.bz_layout.specs.Addresses.{words_of as size_of}
use Rattle.bz_layout.specs.Config.{IsConfig}
use Rattle.bz_layout.specs.Slots.{FreeSlots}
use Rattle.bz_layout.specs.declared.config.Config.{Config}
use Rattle.bz_swap_machine.specs.declared.done.Done.{Done}
use Rattle.bz_mark.specs.Counts.{acts_by}
use Rattle.bz_mark.specs.Log.{Log, Limits, with_mark}
use Rattle.bz_mark.specs.WordsAfter.{state_after_marks, words_after_marks}
use Rattle.bz_mark.specs.declared.marks.Mark.{Mark}
use Rattle.bz_mark.specs.declared.marks.Mark.TheVariants.{Load, Store, Cas, Evict, Cut, On, Ready, Ask, Fence}
use Rattle.bz_recover.specs.Contents.{SaysTheSame}
use Rattle.bz_recover.specs.Duties.{asks_of, acts_left, WalksIn}
use Rattle.bz_recover.specs.Places.{MOST_ACTS}
use Rattle.bz_recover.specs.Walking.{AreReached}
use Rattle.bz_recover.specs.declared.recover.Recover.{Recover}
use Rattle.bz_sight.specs.Renewal.{renewed_instant}
use Rattle.bz_sound.specs.Calls.{open_call}
use Rattle.bz_sound.specs.Memory.Moments.{Decodes}
use Rattle.bz_mark.specs.Counts.{is_taken}
use Rattle.bz_sound.specs.Memory.Spent.{is_stored_into}
use Rattle.bz_mark.specs.Times.{since_on}
use Rattle.bz_sound.specs.Power.Times.{image_at_on}
use Rattle.bz_swap.specs.Evictions.{IsEviction}
use Rattle.bz_swap.specs.Held.{Holds}
use Rattle.bz_swap.specs.Power.{IsOpened, after_cut, renewed}
use Rattle.bz_swap.specs.Steps.{StepsIn}
use Rattle.bz_swap.specs.SwapMemory.{SwapMemory, memory_words}
use Rattle.bz_task.specs.declared.todo.Todo.TheVariants.{Finish}
use Rattle.bz_swap_marks.specs.Marks.{mark_of}
use Rattle.bz_swap_marks.specs.Past.{SamePast}
use Rattle.bz_refinement.specs.Living.{IsLiving}
use Rattle.bz_refinement.specs.Recovering.{IsOff, Turn, Asked, Started, Made, IsRecovering, IsNew, words_in, to_come}
use Rattle.bz_refinement.specs.RecoveryLaws.{IsRevived, Recovers, StaysRecovering}
use Rattle.bz_refinement.specs.Story.{Story}
use Rattle.bz_swap_machine.specs.declared.done.Done.TheVariants.{Busy}

-- the power is off: the journal's words are the memory's, and no call is open
pub record IsOffIn (c : Config) (values : ℕ → ℕ) (m : SwapMemory) (log : Log) : Type 0 where
  pub off : IsOff c values m
  pub words : memory_words m ≡ words_after_marks log.start log.past
  pub past : SamePast m (state_after_marks log.start log.past)
  pub calls : (w : ℕ) → open_call w log.past ≡ None

-- a recovery goes on: so it is too, and the durable words hold what they held when the power came on; since then no descriptor was
-- taken, and no slot stored into, and with the acts that are left worker 0 makes fewer than so many a word
pub record IsRecoveringIn (c : Config) (values : ℕ → ℕ) (m : SwapMemory) (log : Log) (turn : Turn) (t : Recover) : Type 0 where
  pub recovering : IsRecovering c values m turn t
  pub words : memory_words m ≡ words_after_marks log.start log.past
  pub past : SamePast m (state_after_marks log.start log.past)
  pub calls : (w : ℕ) → open_call w log.past ≡ None
  pub same : SaysTheSame c (image_at_on log.start log.past) (slice_index m.durable)
  pub untaken : (swap : ℕ) → is_taken swap (since_on log.past) ≡ false
  pub unstored : (slot : ℕ) → is_stored_into c slot (since_on log.past) ≡ false
  pub spent : acts_by 0 (since_on log.past) + to_come turn m (asks_of t) + acts_left t (words_in m) < MOST_ACTS * size_of c

-- a power cut ends a life, or cuts a recovery short
pub record CutsAreMarked : Type 0 where
  pub living : (c : Config) (m : SwapMemory) (log : Log) (story : Story) → IsLiving c m log story → length m.workers ≡ c.workers + 1 → IsOffIn c (resolve (story.at (length log.past)).image) (after_cut m) (with_mark log Cut)
  pub recovering : (c : Config) (values : ℕ → ℕ) (m : SwapMemory) (log : Log) (turn : Turn) (t : Recover) → IsRecoveringIn c values m log turn t → IsOffIn c values (after_cut m) (with_mark log Cut)

-- a journal without marks over an image
abbrev pub image_log : List ℕ → Limits → Log
image_log image limits = record { start = image; past = []; pages = []; limits = limits }

-- over one that breaks no rule it begins with the power off
abbrev pub ImagesOpenJournals : Type 0
ImagesOpenJournals =
    (c : Config) (m : SwapMemory) (image : List ℕ) (limits : Limits) → IsConfig c → length image ≡ size_of c → image_fault c (slice_index image) ≡ None → IsOpened m image c.swaps c.workers →
    IsOffIn c (resolve (slice_index image)) m (image_log image limits)

-- the power comes on, and a new recovery begins
abbrev pub PowerOnIsMarked : Type 0
PowerOnIsMarked = (c : Config) (values : ℕ → ℕ) (m : SwapMemory) (log : Log) (t : Recover) → IsOffIn c values m log → IsNew c t → IsRecoveringIn c values m (with_mark log On) Made t

-- what a recovery is told, and what worker 0 starts, makes no mark, where no more acts are left than before
abbrev pub TurnsMakeNoMark : Type 0
TurnsMakeNoMark =
    (c : Config) (values : ℕ → ℕ) (m n : SwapMemory) (log : Log) (turn next : Turn) (t u : Recover) → IsRecoveringIn c values m log turn t → memory_words n ≡ memory_words m → n.past ≡ m.past → IsRecovering c values n next u →
    to_come next n (asks_of u) + acts_left u (words_in n) ≤ to_come turn m (asks_of t) + acts_left t (words_in m) →
    IsRecoveringIn c values n log next u

-- where the durable words decoded to the map they still do
abbrev pub StillDecodes : Config → Log → Mark → Type 0
StillDecodes c log mark = Decodes c log.start log.past → Decodes c log.start (mark ∷ log.past)

-- worker 0 makes the act that was asked for, or the last of it
pub record RecoversIn (c : Config) (values : ℕ → ℕ) (old new : SwapMemory) (log : Log) (t : Recover) (made : Act) (done : Done) (told : Option ℕ) : Type 0 where
  pub recovers : Recovers c values old new t made done told
  pub marked : IsRecoveringIn c values new (with_mark log (mark_of 0 made)) Made t

-- or it asks for the line of a flush, which goes on
pub record FlushesIn (c : Config) (values : ℕ → ℕ) (new : SwapMemory) (log : Log) (t : Recover) (made : Act) (told : Option ℕ) : Type 0 where
  pub quiet : told ≡ None
  pub marked : IsRecoveringIn c values new (with_mark log (mark_of 0 made)) Started t

-- the durable words hold what they held
pub record ActsIn (c : Config) (values : ℕ → ℕ) (old new : SwapMemory) (log : Log) (t : Recover) (made : Act) (ended : Done) (told : Option ℕ) : Type 0 where
  pub same : SaysTheSame c (slice_index old.durable) (slice_index new.durable)
  pub decodes : StillDecodes c log (mark_of 0 made)
  pub ends : ended ≢ Busy → RecoversIn c values old new log t made ended told
  pub goes_on : ended ≡ Busy → FlushesIn c values new log t made told

abbrev pub ActsAreMarked : Type 0
ActsAreMarked =
    (c : Config) (values : ℕ → ℕ) (old new : SwapMemory) (log : Log) (t : Recover) (made : Act) (done : Done) (told : Option ℕ) → IsRecoveringIn c values old log Started t → StepsIn old.phase old 0 made done told new →
    ActsIn c values old new log t made done told

-- a word is evicted
pub record EvictsIn (c : Config) (values : ℕ → ℕ) (old new : SwapMemory) (log : Log) (turn : Turn) (t : Recover) (a : ℕ) (told : Option ℕ) : Type 0 where
  pub stays : StaysRecovering c values old new turn t told
  pub marked : IsRecoveringIn c values new (with_mark log (Evict a)) turn t
  pub decodes : StillDecodes c log (Evict a)

abbrev pub EvictionsAreMarked : Type 0
EvictionsAreMarked =
    (c : Config) (values : ℕ → ℕ) (old new : SwapMemory) (log : Log) (turn : Turn) (t : Recover) (a : ℕ) (told : Option ℕ) → IsRecoveringIn c values old log turn t → a < length old.cached → IsEviction old a told new →
    EvictsIn c values old new log turn t a told

-- the story of a life that begins where a recovery has ended: nothing has happened in it, and nobody owns anything
abbrev pub renewed_story : Config → SwapMemory → Log → Story
renewed_story c m log = record { from = suc (length log.past); at = λ moment. renewed_instant c m; reserved = λ w a. false; took = λ w k. false; filled = λ w k. false }

-- the memory may be renewed, and lives then; since the power came on no descriptor was taken, and no slot stored into
pub record IsReborn (c : Config) (m : SwapMemory) (log : Log) : Type 0 where
  pub revived : IsRevived c m
  pub untaken : (swap : ℕ) → is_taken swap (since_on (with_mark log Ready).past) ≡ false
  pub unstored : (slot : ℕ) → is_stored_into c slot (since_on (with_mark log Ready).past) ≡ false
  pub living : Holds (renewed m) → IsLiving c (renewed m) (with_mark log Ready) (renewed_story c m log)

abbrev pub RecoveriesGiveLife : Type 0
RecoveriesGiveLife = (c : Config) (values : ℕ → ℕ) (m : SwapMemory) (log : Log) (t : Recover) → IsRecoveringIn c values m log Asked t → asks_of t ≡ Some Finish → IsReborn c m log

-- then a slot is free exactly where the tree of the image of power on does not reach it
abbrev pub WalksEnd : Type 0
WalksEnd =
    (c : Config) (values : ℕ → ℕ) (m : SwapMemory) (log : Log) (t : Recover) (slots : FreeSlots) → IsRecoveringIn c values m log Asked t → asks_of t ≡ Some Finish → slots.nodes ≡ c.nodes → WalksIn t values slots →
    AreReached c (image_at_on log.start log.past) slots
