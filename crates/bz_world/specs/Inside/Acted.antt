-- What stands between an act and the next: an act that was made, an effect that is not told, an answer that is not told, and a
-- call whose task is to go on.
use Rattle.std.specs.Prelude.{◌≡◌, ◌≢◌, ◌⊎◌, ℕ, ◌+◌, ◌<◌, ◌≤◌, ◌∷◌, true, false, length, get_or, Option, Some, None}
use Rattle.bz_swap_acts.specs.Rule.{is_fence_act}
use Rattle.bz_swap_acts.specs.declared.acted.Act.{Act}
use Rattle.bz_swap_machine.specs.declared.done.Done.{Done}
use Rattle.bz_swap_machine.specs.declared.done.Done.TheVariants as done
use Rattle.bz_mark.specs.Log.{with_mark}
use Rattle.bz_mark.specs.WordsAfter.{state_after_marks}
use Rattle.bz_mark.specs.declared.marks.Mark.{Mark}
use Rattle.bz_mark.specs.declared.marks.Mark.TheVariants.{Evict}
use Rattle.bz_solo.specs.FromCosts.Weights.{start_takes}
use Rattle.bz_rivals.specs.Rivals.{rivals, foreign}
use Rattle.bz_rivals.specs.Wins.{GoesWell}
use Rattle.bz_any_task.specs.Duties.{asks_of, needs_of, publishing_of, facts_of}
use Rattle.bz_sight.specs.Effects.{TakesPlace}
use Rattle.bz_sound.specs.Calls.{Open}
use Rattle.bz_sound.specs.Memory.Moments.{IsAfterFence, map_at_start}
use Rattle.bz_mark.specs.declared.power.Power.TheVariants as power
use Rattle.bz_sound.specs.Power.Calls.{MayFollow}
use Rattle.bz_sound.specs.Power.Sound.{IsSound}
use Rattle.bz_sound.specs.Power.Times.{image_at_on}
use Rattle.bz_refinement.specs.Laws.{IsMarked}
use Rattle.bz_refinement.specs.Living.{IsLiving}
use Rattle.bz_swap_marks.specs.Past.{SamePast}
use Rattle.bz_refinement.specs.Story.{Story, scene}
use Rattle.bz_swap.specs.Solo.{left_to}
use Rattle.bz_swap.specs.Evictions.{IsEviction}
use Rattle.bz_swap.specs.Held.{Holds}
use Rattle.bz_swap.specs.Steps.{IsStep}
use Rattle.bz_swap.specs.SwapMemory.{SwapMemory, Idle, is_missed, doing_of, worker_of}
use Rattle.bz_swap.specs.TakenStatuses.{IsTaken}
use Rattle.bz_task.specs.Requests.{Hears, Tells, effects_in}
use Rattle.bz_task.specs.Scene.{Stage, Waiting}
use Rattle.bz_task.specs.declared.todo.Seen.{Seen}
use Rattle.bz_task.specs.declared.todo.Seen.TheVariants as heard
use Rattle.bz_task.specs.declared.todo.Todo.{Todo}
use Rattle.bz_task.specs.declared.todo.Todo.TheVariants.{Finish}
use Rattle.bz_world.specs.Inside.Alone.{HearsUndisturbed, AsksUndisturbed}
use Rattle.bz_world.specs.Inside.Due.{TakesRightly}
use Rattle.bz_world.specs.Inside.Exact.{CountsExactly, reach_at, reach_idle}
use Rattle.bz_world.specs.Inside.Kept.{IsTabled, AreTaken, AreFree, IsAwake}
use Rattle.bz_world.specs.Inside.Solitary.{WhereSolitary, IsSolitaryGet, AsksBriefly}
use Rattle.bz_world.specs.Inside.Merging.{MergesDuly}
use Rattle.bz_world.specs.Inside.Meant.{IsMeant}
use Rattle.bz_world.specs.Inside.Paid.{no_extra, runner, stock_of, IsPaidFor}
use Rattle.bz_world.specs.Leaves.{AreLeavesKept}
use Rattle.bz_world.specs.WorldView.{mark_of, IsStruck, stepper}
use Rattle.bz_world.specs.Inside.Serving.{IsCovered, IsSlot, IsOpened, IsTasked, MayGoOn, tells_of}
use Rattle.bz_world.specs.declared.parts.Parts.{Parts}
use Rattle.bz_world.specs.declared.serving.OpenCall.{OpenCall}

-- a worker made an act, and its mark was added
pub record IsActed (old : Parts) (w : ℕ) (made : Act) (done : Done) (told : Option ℕ) (new : Parts) : Type 0 where
  pub step : IsStep old.access w made done told new.access
  pub held : Holds new.access
  pub rest : new ≡ record old { access = new.access; journal = with_mark old.journal (mark_of w made) }

-- a cached word became durable by itself, and its mark was added
pub record IsEvicted (old : Parts) (a : ℕ) (told : Option ℕ) (new : Parts) : Type 0 where
  pub eviction : IsEviction old.access a told new.access
  pub held : Holds new.access
  pub rest : new ≡ record old { access = new.access; journal = with_mark old.journal (Evict a) }

-- every worker does what it did
pub record SameWork (old new : SwapMemory) : Type 0 where
  pub doing : (w : ℕ) → doing_of new w ≡ doing_of old w
  pub taken : new.taken ≡ old.taken
  pub size : length new.cached ≡ length old.cached

-- less is left to a worker after its step, which has taken no descriptor, and it has a rival fewer where the effect is of another's swap
pub record StepsAt (old new : SwapMemory) (w s : ℕ) : Type 0 where
  pub left : left_to new w < left_to old w
  pub rivals : rivals new w + foreign old w (Some s) ≤ rivals old w

-- an act or an eviction gave swap s its effect, which is not told yet
pub record IsStriking (p : Parts) (s : ℕ) : Type 0 where
  pub before : Parts
  pub mark : Mark
  pub kept : IsAwake before
  pub takes : TakesPlace before.access p.access s
  pub work : SameWork before.access p.access
  pub tabled : IsTabled p
  pub taken : AreTaken p
  pub marked : IsMarked p.access before.journal mark
  pub flush : IsAfterFence (mark ∷ before.journal.past)
  pub past : SamePast p.access (state_after_marks before.journal.start (mark ∷ before.journal.past))
  -- the swap's status is not free in the caches
  pub decided : IsTaken p.access s
  pub follows : MayFollow before.at_start (map_at_start before.config before.journal.start) before.journal.past mark
  -- of a swap that went well no miss is noted
  pub unnoted : (t : ℕ) → GoesWell before.access t → is_missed p.access t ≡ false
  -- of the worker that made the act, if it was one
  pub stepped : (w : ℕ) → stepper (mark ∷ before.journal.past) ≡ Some w → StepsAt before.access p.access w s
  pub rest : p ≡ record before { access = p.access; journal = with_mark before.journal mark }

-- all is well but for worker w, whose call is open, and which does nothing
pub record IsBetween (p : Parts) (w : ℕ) (x : OpenCall) : Type 0 where
  pub on : p.power ≡ power.On
  pub story : Story
  pub tabled : IsTabled p
  pub taken : AreTaken p
  pub living : IsLiving p.config p.access p.journal story
  pub sound : IsSound p.config p.at_start p.journal
  pub leaves : AreLeavesKept p.config p.at_start p.journal
  pub free : AreFree p.config (image_at_on p.journal.start p.journal.past) p.slots story.took
  pub others : (v : ℕ) → v ≢ w → IsSlot p.config p.access p.journal story p.owners.items (stock_of p) v (get_or p.workers.items v None)
  pub worker : 0 < w
  pub within : w ≤ p.config.workers
  pub opened : Open
  pub call_open : IsOpened p.config p.journal w opened x
  pub idle : doing_of p.access w ≡ Idle
  pub due : TakesRightly p.config p.access.taken p.journal (stock_of p) w x
  -- no other made the newest act
  pub steps : (v : ℕ) → runner p.config p.journal.past ≡ Some v → v ≡ w

-- its task's swap has made the change of the call, and it is told so
pub record HasWon (x : OpenCall) (seen : Seen) : Type 0 where
  pub publishing : publishing_of x.task ≡ true
  pub won : seen ≡ heard.Swapped true

-- and its task is to be told this
pub record IsTold (p : Parts) (w : ℕ) (x : OpenCall) (seen : Seen) : Type 0 where
  pub between : IsBetween p w x
  pub tasked : IsTasked p.config x.call x.path x.had x.task
  pub stage : Stage
  pub facts : facts_of x.task stage (scene p.config p.journal.past between.story w between.call_open.look.since between.opened)
  pub covered : IsCovered (between.story.took w) (between.story.filled w) (needs_of x.task)
  pub finished : MayGoOn x ⊎ HasWon x seen
  pub hears : Hears (asks_of x.task) seen
  pub tells : Tells (asks_of x.task) stage seen (scene p.config p.journal.past between.story w between.call_open.look.since between.opened)
  pub solitary : WhereSolitary p.journal.past w x.call (λ key. IsSolitaryGet p.access p.journal.past between.story w x between.opened key × (stage ≡ Waiting))
  pub alone : HearsUndisturbed x.task seen (scene p.config p.journal.past between.story w between.call_open.look.since between.opened).past
  pub meant : IsMeant x (scene p.config p.journal.past between.story w between.call_open.look.since between.opened).past
  pub paid : IsPaidFor p w x (effects_in seen) no_extra (scene p.config p.journal.past between.story w between.call_open.look.since between.opened).past
  pub exact : CountsExactly p.config p.journal w between.opened (scene p.config p.journal.past between.story w between.call_open.look.since between.opened).past (reach_at p.access seen) (stock_of p) (tells_of x) x
  pub merges : MergesDuly p.config p.journal w between.opened (scene p.config p.journal.past between.story w between.call_open.look.since between.opened).past (reach_at p.access seen) (stock_of p) x

-- and its task asks for this: for nothing more, where its change is made
pub record IsAsking (p : Parts) (w : ℕ) (x : OpenCall) (todo : Todo) : Type 0 where
  pub between : IsBetween p w x
  pub tasked : IsTasked p.config x.call x.path x.had x.task
  pub asks : asks_of x.task ≡ Some todo
  pub finished : MayGoOn x ⊎ (todo ≡ Finish)
  pub facts : facts_of x.task Waiting (scene p.config p.journal.past between.story w between.call_open.look.since between.opened)
  pub covered : IsCovered (between.story.took w) (between.story.filled w) (needs_of x.task)
  pub solitary : WhereSolitary p.journal.past w x.call (λ key. AsksBriefly p.access p.journal.past between.story w x between.opened key todo)
  pub alone : AsksUndisturbed x.task todo (scene p.config p.journal.past between.story w between.call_open.look.since between.opened).past
  pub meant : IsMeant x (scene p.config p.journal.past between.story w between.call_open.look.since between.opened).past
  pub paid : IsPaidFor p w x 0 (λ r. start_takes r todo) (scene p.config p.journal.past between.story w between.call_open.look.since between.opened).past
  pub exact : CountsExactly p.config p.journal w between.opened (scene p.config p.journal.past between.story w between.call_open.look.since between.opened).past (reach_idle p.access) (stock_of p) (tells_of x) x
  pub merges : MergesDuly p.config p.journal w between.opened (scene p.config p.journal.past between.story w between.call_open.look.since between.opened).past (reach_idle p.access) (stock_of p) x

-- what the task is told of an act that ended what it asked for
abbrev pub seen_by : Done → Option Seen
seen_by done.Busy = None
seen_by (done.Read v) = Some (heard.Read v)
seen_by (done.Swapped won) = Some (heard.Swapped won)
seen_by done.Stored = Some heard.Stored
seen_by done.Flushed = Some heard.Flushed

-- the worker's call is served, and its task is to be told this
pub record MustTell (p : Parts) (w : ℕ) (seen : Seen) : Type 0 where
  pub serving : OpenCall
  pub is : get_or p.workers.items w None ≡ Some serving
  pub told : IsTold p w serving seen

-- worker w made one act, a fence exactly where that was said; its mark was added, and at most an Effect after it
pub record HasActed (old : Parts) (w : ℕ) (new : Parts) : Type 0 where
  pub made : Act
  pub flush : is_fence_act made ≡ (worker_of old.access w).flush_next
  pub struck : IsStruck (mark_of w made ∷ old.journal.past) new.journal.past
  pub journal : new.journal ≡ record old.journal { past = new.journal.past }
  pub others : (v : ℕ) → v ≢ w → worker_of new.access v ≡ worker_of old.access v
  pub rest : new ≡ record old { access = new.access; journal = new.journal; workers = new.workers; pairs = new.pairs }
