-- How a living memory goes on from mark to mark, and what each mark is to each worker.
use Rattle.std.specs.Prelude.{◌≡◌, ◌≢◌, ℕ, ◌+◌, ◌^◌, ◌<◌, ◌≤◌, ◌==◌, ◌&&◌, ◌||◌, if◌then◌else◌, Bool, true, false, List, ◌∷◌, length, slice_index}
use Rattle.bz_layout.specs.Addresses.{slot_of, line_of}
use Rattle.bz_layout.specs.Slots.{FreeSlots}
use Rattle.bz_layout.specs.declared.config.Config.{Config}
use Rattle.bz_mark.specs.Log.{Log, with_mark}
use Rattle.bz_mark.specs.WordsAfter.{state_after_marks, words_after_marks}
use Rattle.bz_mark.specs.declared.marks.Mark.{Mark}
use Rattle.bz_sight.specs.Awaiting.{IsToFence, Awaits}
use Rattle.bz_sight.specs.Effects.{TakesPlace, effect_instant}
use Rattle.bz_sight.specs.Passing.{Passes, AllStay, StoresAt}
use Rattle.bz_sight.specs.Sight.{next_instant}
use Rattle.bz_sight.specs.Starts.{Sees}
use Rattle.bz_sound.specs.Calls.{Open, with_effect}
use Rattle.bz_sound.specs.Memory.Spent.{is_stored_into}
use Rattle.bz_mark.specs.Times.{LeavesPower}
use Rattle.bz_mark.specs.Times.{since_on}
use Rattle.bz_word.specs.declared.entry.Entry.{Entry}
use Rattle.bz_swap.specs.EntryLists.{IsEntryList}
use Rattle.bz_swap.specs.SwapMemory.{SwapMemory, Idle, Flushing, memory_words, entries_of, is_named, is_settled_at, doing_of}
use Rattle.bz_task.specs.OwnActs.{Stores, Flushes, is_gained, gained}
use Rattle.bz_task.specs.Requests.{IsOwnStore}
use Rattle.bz_task.specs.Scene.{IsLawful}
use Rattle.bz_task.specs.Swaps.{Change, IsGoodSwap, Takes, reserves}
use Rattle.bz_refinement.specs.Living.{IsLiving, IsHeldBy}
use Rattle.bz_swap_marks.specs.Past.{SamePast}
use Rattle.bz_refinement.specs.Story.{Story, scene, and_then}

-- a look-up that began in this life of the memory, at this moment
pub record HasBegun (log : Log) (story : Story) (since : ℕ) : Type 0 where
  pub from : story.from ≤ since
  pub by_now : since ≤ length log.past

-- the scene of a call since then is one of the memory now
abbrev pub ScenesAreSeen : Type 0
ScenesAreSeen =
    (c : Config) (m : SwapMemory) (log : Log) (story : Story) (w since : ℕ) (opened : Open) → IsLiving c m log story → HasBegun log story since →
    Sees c (story.at (length log.past)) (scene c log.past story w since opened)

-- the memory has the words that the journal has after one mark more
abbrev pub IsMarked : SwapMemory → Log → Mark → Type 0
IsMarked new log mark = memory_words new ≡ words_after_marks log.start (mark ∷ log.past)

-- the story one moment later: with this memory then, and these stores
abbrev pub goes_on : Log → Story → SwapMemory → (ℕ → ℕ → Bool) → Story
goes_on log story new filled = record {
  from = story.from;
  at = and_then story.at (length log.past) (next_instant new (story.at (length log.past)));
  reserved = story.reserved;
  took = story.took;
  filled = filled;
}

-- what a worker holds that is to fence its line stays in the caches
abbrev pub KeepsAwaited : Config → SwapMemory → SwapMemory → Log → Story → Type 0
KeepsAwaited c old new log story = (w a : ℕ) → IsHeldBy c (story.at (length log.past)) story w a → IsToFence new w a → is_named old a ≡ false → slice_index new.cached a ≡ slice_index old.cached a

-- an act or a mark by which no swap takes effect, and which is none of the power
pub record GoesOn (c : Config) (old new : SwapMemory) (log : Log) (story : Story) (mark : Mark) : Type 0 where
  pub living : IsLiving c old log story
  pub passes : Passes c (story.at (length log.past)) old new
  pub keeps : KeepsAwaited c old new log story
  pub marked : IsMarked new log mark
  pub past : SamePast new (state_after_marks log.start (mark ∷ log.past))
  pub powered : LeavesPower log.past mark

abbrev pub LivesGoOn : Type 0
LivesGoOn =
    (c : Config) (old new : SwapMemory) (log : Log) (story : Story) (mark : Mark) (filled : ℕ → ℕ → Bool) → GoesOn c old new log story mark →
    ((v k : ℕ) → filled v k ≡ true → is_stored_into c k (since_on (mark ∷ log.past)) ≡ true) → IsLiving c new (with_mark log mark) (goes_on log story new filled)

-- which is nobody's private store: a lawful step for every worker
abbrev pub QuietMarksAreLawful : Type 0
QuietMarksAreLawful =
    (c : Config) (old new : SwapMemory) (log : Log) (story : Story) (mark : Mark) (w since : ℕ) (opened : Open) → GoesOn c old new log story mark → AllStay old new → HasBegun log story since →
    IsLawful (scene c log.past story w since opened) (scene c (mark ∷ log.past) (goes_on log story new story.filled) w since opened)

-- a private store of worker w
pub record IsStore (c : Config) (old new : SwapMemory) (log : Log) (story : Story) (w a v since : ℕ) (opened : Open) : Type 0 where
  pub stores : StoresAt old new a v
  pub begun : HasBegun log story since
  pub own : IsOwnStore (scene c log.past story w since opened) a v

-- the acts of a worker that keep what others await: what is no private store, and a store into what is the worker's own
pub record ActsKeepAwaited : Type 0 where
  pub quiet : (c : Config) (old new : SwapMemory) (log : Log) (story : Story) → IsLiving c old log story → AllStay old new → KeepsAwaited c old new log story
  pub store : (c : Config) (old new : SwapMemory) (log : Log) (story : Story) (w a v since : ℕ) (opened : Open) → IsLiving c old log story → IsStore c old new log story w a v since opened → doing_of new w ≡ Idle → KeepsAwaited c old new log story

-- the slots that have been stored into then
abbrev pub fills : Config → Story → ℕ → ℕ → ℕ → ℕ → Bool
fills c story w a v k = story.filled v k || (v == w && slot_of c a == k)

-- is one to the worker, and lawful for the others
pub record StoresAreTold : Type 0 where
  pub own : (c : Config) (old new : SwapMemory) (log : Log) (story : Story) (mark : Mark) (w a v since : ℕ) (opened : Open) → GoesOn c old new log story mark → IsStore c old new log story w a v since opened →
      Stores a v (scene c log.past story w since opened) (scene c (mark ∷ log.past) (goes_on log story new (fills c story w a)) w since opened)
  pub others : (c : Config) (old new : SwapMemory) (log : Log) (story : Story) (mark : Mark) (w a v since : ℕ) (opened : Open) (u other_since : ℕ) (other : Open) → GoesOn c old new log story mark →
      IsStore c old new log story w a v since opened → u ≢ w → HasBegun log story other_since →
      IsLawful (scene c log.past story u other_since other) (scene c (mark ∷ log.past) (goes_on log story new (fills c story w a)) u other_since other)

-- the end of a private flush is one to its worker
abbrev pub FlushesAreTold : Type 0
FlushesAreTold =
    (c : Config) (old new : SwapMemory) (log : Log) (story : Story) (mark : Mark) (w line since : ℕ) (opened : Open) → GoesOn c old new log story mark → AllStay old new → HasBegun log story since →
    ((a : ℕ) → line_of a ≡ line → Awaits old w a → is_settled_at new a ≡ true) →
    Flushes line (scene c log.past story w since opened) (scene c (mark ∷ log.past) (goes_on log story new story.filled) w since opened)

-- the story after the effect of a swap of worker w
abbrev pub strikes : Config → Log → Story → SwapMemory → ℕ → List Entry → Story
strikes c log story new w entries = record {
  from = story.from;
  at = and_then story.at (length log.past) (effect_instant c new (story.at (length log.past)));
  reserved = λ v a. story.reserved v a || (v == w && reserves c entries a);
  took = story.took;
  filled = story.filled;
}

-- an act by which swap s takes effect, that of worker w, for whom it is as good as it should be
pub record Strikes (c : Config) (old new : SwapMemory) (log : Log) (story : Story) (mark : Mark) (s w since : ℕ) (opened : Open) (publishes : Bool) (change : Change) : Type 0 where
  pub living : IsLiving c old log story
  pub takes : TakesPlace old new s
  pub marked : IsMarked new log mark
  pub past : SamePast new (state_after_marks log.start (mark ∷ log.past))
  pub powered : LeavesPower log.past mark
  pub begun : HasBegun log story since
  pub list : IsEntryList (entries_of old s)
  pub few : length log.past + 1 < 2 ^ 32
  pub at_swap : (line : ℕ) → doing_of new w ≢ Flushing line
  pub good : IsGoodSwap publishes change (entries_of old s) (scene c log.past story w since opened) (effect_instant c new (story.at (length log.past)))

-- the call with its effect, where the swap makes its change
abbrev pub opened_after : Bool → ℕ → Open → Open
opened_after publishes moment opened = if publishes then with_effect moment opened else opened

pub record EffectsAreTold : Type 0 where
  pub living : (c : Config) (old new : SwapMemory) (log : Log) (story : Story) (mark : Mark) (s w since : ℕ) (opened : Open) (publishes : Bool) (change : Change) → Strikes c old new log story mark s w since opened publishes change →
      IsLiving c new (with_mark log mark) (strikes c log story new w (entries_of old s))
  pub own : (c : Config) (old new : SwapMemory) (log : Log) (story : Story) (mark : Mark) (s w since : ℕ) (opened : Open) (publishes : Bool) (change : Change) (moment : ℕ) → Strikes c old new log story mark s w since opened publishes change →
      Takes publishes (entries_of old s) (scene c log.past story w since opened) (scene c (mark ∷ log.past) (strikes c log story new w (entries_of old s)) w since (opened_after publishes moment opened))
  pub others : (c : Config) (old new : SwapMemory) (log : Log) (story : Story) (mark : Mark) (s w since : ℕ) (opened : Open) (publishes : Bool) (change : Change) (v other_since : ℕ) (other : Open) → Strikes c old new log story mark s w since opened publishes change →
      v ≢ w → HasBegun log story other_since →
      IsLawful (scene c log.past story v other_since other) (scene c (mark ∷ log.past) (strikes c log story new w (entries_of old s)) v other_since other)

-- the story once worker w took the slots that are free no more
abbrev pub takes_slots : Story → ℕ → FreeSlots → FreeSlots → Story
takes_slots story w old new = record story { took = λ v k. story.took v k || (v == w && is_gained old new k) }

-- the slots that worker w took are of the memory, and nobody took them before
pub record MayTake (c : Config) (story : Story) (old new : FreeSlots) : Type 0 where
  pub slots : (k : ℕ) → is_gained old new k ≡ true → k < c.nodes
  pub nobody : (v k : ℕ) → is_gained old new k ≡ true → story.took v k ≡ false

-- the memory lives on; to the worker the slots are gained, and to the others nothing happens
pub record SlotsAreTaken : Type 0 where
  pub living : (c : Config) (m : SwapMemory) (log : Log) (story : Story) (w : ℕ) (old new : FreeSlots) → IsLiving c m log story → doing_of m w ≡ Idle → MayTake c story old new → IsLiving c m log (takes_slots story w old new)
  pub own : (c : Config) (past : List Mark) (story : Story) (w since : ℕ) (opened : Open) (old new : FreeSlots) → scene c past (takes_slots story w old new) w since opened ≡ gained (scene c past story w since opened) old new
  pub others : (c : Config) (past : List Mark) (story : Story) (w v since : ℕ) (opened : Open) (old new : FreeSlots) → v ≢ w → scene c past (takes_slots story w old new) v since opened ≡ scene c past story v since opened
