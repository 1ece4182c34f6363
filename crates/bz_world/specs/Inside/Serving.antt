-- What is known of each worker.
use Rattle.std.specs.Prelude.{◌≡◌, ◌≢◌, ◌⊎◌, ℕ, ◌+◌, ◌-◌, ◌*◌, ◌<◌, ◌≤◌, if◌then◌else◌, Bool, true, false, List, length, slice_index, Option, Some, None}
use Rattle.bz_call.specs.Map.{key_of, apply}
use Rattle.bz_call.specs.declared.calls.Call.{Call}
use Rattle.bz_call.specs.declared.calls.Call.TheVariants as call
use Rattle.bz_call.specs.declared.replies.Reply.{Reply}
use Rattle.bz_call.specs.declared.replies.Reply.TheVariants.{Inserted, Exists, Deleted, Updated, Missing, Value, Page, Full}
use Rattle.bz_layout.specs.declared.config.Config.{Config}
use Rattle.bz_layout.specs.declared.thresholds.TheConstants.{SPLIT_SLOTS}
use Rattle.bz_tree.specs.Walk.{is_among}
use Rattle.bz_mark.specs.Log.{Log}
use Rattle.bz_mark.specs.declared.marks.Mark.{Mark}
use Rattle.bz_any_task.specs.Duties.{config_of, asks_of, needs_of, wants_of, change_of, publishing_of, facts_of, makes_no_change}
use Rattle.bz_any_task.specs.Hearing.{IsLookup}
use Rattle.bz_any_task.specs.Kinds as kinds
use Rattle.bz_any_task.specs.Kinds.{kind_of}
use Rattle.bz_any_task.specs.Laws.{AreLaws}
use Rattle.bz_any_task.specs.declared.running.AnyTask.{AnyTask}
use Rattle.bz_sound.specs.Calls.{Open, open_call, map_at}
use Rattle.bz_sound.specs.Memory.ImageLaws.{IsChangeOf}
use Rattle.bz_sound.specs.Memory.Moments.{map_at_start}
use Rattle.bz_sound.specs.Memory.Spent.{NeedsSlots}
use Rattle.bz_refinement.specs.Story.{Story, scene}
use Rattle.bz_swap.specs.EntryLists.{IsEntryList}
use Rattle.bz_swap.specs.SwapMemory.{SwapMemory, Doing, Idle, Reading, Swapping, Storing, Flushing, doing_of, entries_of, has_effect}
use Rattle.bz_task.specs.Scene.{Stage, Waiting, Took}
use Rattle.bz_task.specs.Swaps.{Change}
use Rattle.bz_task.specs.declared.path.Path.{Path}
use Rattle.bz_task.specs.declared.todo.Todo.{Todo}
use Rattle.bz_task.specs.declared.todo.Todo.TheVariants as todo
use Rattle.bz_word.specs.declared.entry.Entry.{Entry}
use Rattle.bz_world.specs.Inside.Alone.{WaitsUndisturbed, untold}
use Rattle.bz_world.specs.Inside.Due.{TakesRightly}
use Rattle.bz_world.specs.Inside.Exact.{CountsExactly, reach_of}
use Rattle.bz_world.specs.Inside.Meant.{IsMeant}
use Rattle.bz_world.specs.Inside.Merging.{MergesDuly}
use Rattle.bz_world.specs.Inside.Paid.{Stock, IsPaidIn, errand_of, no_extra, runner}
use Rattle.bz_world.specs.Roomy.{swaps_told}
use Rattle.bz_world.specs.WorldView.{is_delete}
use Rattle.bz_world.specs.declared.serving.OpenCall.{OpenCall}

-- the change that a call makes where its key had this payload, or none
pub record IsChangeFor (called : Call) (had : Option (List ℕ)) (change : Change) : Type 0 where
  pub key : change.key ≡ key_of called
  pub old : change.old ≡ had
  pub is : IsChangeOf called had change.new

-- the reply to a call that made its change where its key had this payload, or none
abbrev pub effect_reply : Call → Option (List ℕ) → Reply
effect_reply (call.Insert key payload) had = Inserted
effect_reply (call.Delete key) (Some had) = Deleted had
effect_reply (call.Update key payload) (Some had) = Updated had
effect_reply (call.Upsert key payload) (Some had) = Updated had
effect_reply (call.Upsert key payload) None = Inserted
-- the others change nothing so
effect_reply (call.Delete key) None = Inserted
effect_reply (call.Update key payload) None = Inserted
effect_reply (call.Get key) had = Inserted
effect_reply (call.Page key) had = Inserted

-- how many pairs a map of so many has once a call was answered so
abbrev pub size_after : Option Reply → ℕ → ℕ
size_after (Some Inserted) n = n + 1
size_after (Some (Deleted had)) n = n - 1
size_after (Some Exists) n = n
size_after (Some (Updated had)) n = n
size_after (Some Missing) n = n
size_after (Some (Value payload)) n = n
size_after (Some (Page page next)) n = n
size_after (Some (Full spent)) n = n
size_after None n = n

-- directly before its effect, if it has had one, the map answers it so
abbrev pub IsToldBy : Config → Log → Open → Option (List ℕ) → Type 0
IsToldBy c log opened had = (at : ℕ) → opened.effect ≡ Some at → (apply (map_at (map_at_start c log.start) at log.past) opened.call).reply ≡ Some (effect_reply opened.call had)

-- its change is still to be made, or it is a delete, which may go on to have its leaf merged
abbrev pub MayGoOn : OpenCall → Type 0
MayGoOn x = (x.effect ≡ None) ⊎ (is_delete x.call ≡ true)

-- else its worker is at the swap that made the change
pub record IsFinishing (m : SwapMemory) (w : ℕ) (x : OpenCall) : Type 0 where
  pub publishing : publishing_of x.task ≡ true
  pub swap : ℕ
  pub doing : doing_of m w ≡ Swapping swap

-- worker w does a swap of these entries
pub record IsSwapping (m : SwapMemory) (owners : List ℕ) (w : ℕ) (entries : List Entry) : Type 0 where
  pub swap : ℕ
  pub doing : doing_of m w ≡ Swapping swap
  pub same : entries_of m swap ≡ entries
  pub owner : slice_index owners swap ≡ w
  pub begun : swap < m.taken
  pub list : IsEntryList entries

-- it does what its task asked for
abbrev pub IsDoing : SwapMemory → List ℕ → ℕ → Todo → Type 0
IsDoing m owners w (todo.Read a) = doing_of m w ≡ Reading a
IsDoing m owners w (todo.Store a v) = (doing_of m w ≡ Storing a v) × (a < length m.cached)
IsDoing m owners w (todo.Flush line) = (doing_of m w ≡ Flushing line) × (line * 8 < length m.cached)
IsDoing m owners w (todo.Swap entries) = IsSwapping m owners w entries
IsDoing m owners w other = ⊥

-- what has become of that: a swap may have taken effect
abbrev pub stage_in : SwapMemory → Doing → Stage
stage_in m (Swapping s) = if has_effect m s then Took else Waiting
stage_in m doing = Waiting

-- to make the leaf of its key anew took at least so many slots, at a moment of the call
pub record NeedsAtLeast (c : Config) (start : List ℕ) (past : List Mark) (opened : Open) (wants : ℕ) : Type 0 where
  pub slots : ℕ
  pub enough : wants ≤ slots
  pub needs : NeedsSlots c start past opened slots

-- its task takes so many slots from its begin to its end, if it takes any, because the leaf of its key had to be made anew. Why a merge takes
-- its own is known once it has found a neighbour with room; and once its change is made, a delete may merge without that
abbrev pub IsWanted : Config → Log → Open → AnyTask → Type 0
IsWanted c log opened task = opened.effect ≡ None → 0 < wants_of task → kind_of task ≢ kinds.Merge → NeedsAtLeast c log.start log.past opened (wants_of task)

-- the present look-up of a call, which began at this moment, after the call did
pub record LookUp (past : List Mark) (opened : Open) : Type 0 where
  pub since : ℕ
  pub after_begin : opened.begun < since
  pub by_now : since ≤ length past

-- a call that is open, as it is served
pub record IsOpened (c : Config) (log : Log) (w : ℕ) (opened : Open) (x : OpenCall) : Type 0 where
  pub is_open : open_call w log.past ≡ Some opened
  pub call : opened.call ≡ x.call
  pub effect : opened.effect ≡ x.effect
  pub look : LookUp log.past opened
  pub told : IsToldBy c log opened x.had
  pub wanted : IsWanted c log opened x.task

-- slots that a worker took and may not have stored into: with those that its task is still to take they are at most as many
-- as a split takes
pub record IsCovered (took filled : ℕ → Bool) (needs : ℕ) : Type 0 where
  pub unfilled : List ℕ
  pub few : length unfilled + needs ≤ SPLIT_SLOTS
  pub all : (k : ℕ) → took k ≡ true → filled k ≡ false → is_among unfilled k ≡ true

-- a task that serves it, after this path was found
pub record IsTasked (c : Config) (called : Call) (way : Option Path) (had : Option (List ℕ)) (task : AnyTask) : Type 0 where
  pub config : config_of task ≡ c
  pub laws : AreLaws task
  pub lookup : IsLookup (key_of called) way task
  pub change : (makes_no_change task ≡ true) ⊎ IsChangeFor called had (change_of task)
  -- where no way was found, it ends in no leaf: it is a look-up after whichever way
  pub wayless : way ≡ None → (other : Option Path) → IsLookup (key_of called) other task

-- how many swaps the reply to its change tells
abbrev pub tells_of : OpenCall → ℕ
tells_of x = swaps_told (effect_reply x.call x.had)

-- the task goes on: the worker does what it asked for, and it knows what it should
pub record IsServing (c : Config) (m : SwapMemory) (log : Log) (story : Story) (owners : List ℕ) (stock : Stock) (w : ℕ) (x : OpenCall) : Type 0 where
  pub opened : Open
  pub call_open : IsOpened c log w opened x
  pub tasked : IsTasked c x.call x.path x.had x.task
  pub asked : Todo
  pub asks : asks_of x.task ≡ Some asked
  pub doing : IsDoing m owners w asked
  pub finishing : MayGoOn x ⊎ IsFinishing m w x
  pub facts : facts_of x.task (stage_in m (doing_of m w)) (scene c log.past story w call_open.look.since opened)
  pub covered : IsCovered (story.took w) (story.filled w) (needs_of x.task)
  pub alone : WaitsUndisturbed m (doing_of m w) x.task (scene c log.past story w call_open.look.since opened).past
  pub meant : IsMeant x (scene c log.past story w call_open.look.since opened).past
  pub paid : runner c log.past ≡ Some w → IsPaidIn c m log.past stock w (errand_of x) x.task (untold m (doing_of m w)) no_extra (scene c log.past story w call_open.look.since opened).past
  pub due : TakesRightly c m.taken log stock w x
  pub exact : CountsExactly c log w opened (scene c log.past story w call_open.look.since opened).past (reach_of m w) stock (tells_of x) x
  pub merges : MergesDuly c log w opened (scene c log.past story w call_open.look.since opened).past (reach_of m w) stock x

-- no call of the worker is open, it does nothing, and it has stored into each slot that it took
pub record IsAtRest (m : SwapMemory) (log : Log) (story : Story) (w : ℕ) : Type 0 where
  pub none_open : open_call w log.past ≡ None
  pub idle : doing_of m w ≡ Idle
  pub filled : (k : ℕ) → story.took w k ≡ true → story.filled w k ≡ true

abbrev pub IsSlot : Config → SwapMemory → Log → Story → List ℕ → Stock → ℕ → Option OpenCall → Type 0
IsSlot c m log story owners stock w None = IsAtRest m log story w
IsSlot c m log story owners stock w (Some x) = IsServing c m log story owners stock w x

-- its task's swap makes the change of the call
abbrev pub is_publishing : Option OpenCall → Bool
is_publishing None = false
is_publishing (Some x) = publishing_of x.task

-- then the call has had its effect at this moment
abbrev pub noted : Option OpenCall → ℕ → Option OpenCall
noted None moment = None
noted (Some x) moment = Some (if publishing_of x.task then record x { effect = Some moment } else x)

-- and how many pairs there are then
abbrev pub pairs_after : Option OpenCall → ℕ → ℕ
pairs_after None n = n
pairs_after (Some x) n = size_after (Some (effect_reply x.call x.had)) n
