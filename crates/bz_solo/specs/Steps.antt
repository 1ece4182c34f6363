-- What a worker's steps, what its task is told and what it starts, make of the number: it is paid for by what they take.
use Rattle.std.specs.Prelude.{◌≡◌, ◌≢◌, ℕ, ◌+◌, ◌<◌, ◌≤◌, if◌then◌else◌, Bool, true, false, List, length, Some}
use Rattle.bz_joined.specs.FromAlone.Undisturbed.{IsUndisturbed}
use Rattle.bz_costs.specs.Resources.{Resource, Marks}
use Rattle.bz_costs.specs.Solo.{one_mark, promised, solo_most}
use Rattle.bz_costs.specs.Most.{IsWithinItsActs}
use Rattle.bz_costs.specs.Weights.{slots_gone, start_takes}
use Rattle.bz_layout.specs.Config.{IsConfig}
use Rattle.bz_layout.specs.Slots.{FreeSlots}
use Rattle.bz_layout.specs.declared.config.Config.{Config}
use Rattle.bz_layout.specs.declared.thresholds.TheConstants.{LEAF_RECORD_WORDS}
use Rattle.bz_rivals.specs.Notes.{SwapsNothing}
use Rattle.bz_rivals.specs.Rivals.{rivals}
use Rattle.bz_costs.specs.FromRunning.Duties.{config_of, asks_of, end_of, made_of, publishing_of, facts_of}
use Rattle.bz_costs.specs.FromRunning.Hearing.{HasHeard}
use Rattle.bz_costs.specs.FromRunning.Kinds.{kind_of}
use Rattle.bz_costs.specs.FromRunning.Laws.{AreLaws}
use Rattle.bz_costs.specs.FromRunning.AnyTask.{AnyTask}
use Rattle.bz_swap.specs.Solo.{left_to}
use Rattle.bz_swap.specs.SwapMemory.{SwapMemory, Idle, doing_of}
use Rattle.bz_task.specs.Instant.{Instant}
use Rattle.bz_task.specs.Requests.{Hears, effects_in}
use Rattle.bz_task.specs.Scene.{Past, Continues, Scene, Waiting, IsScene, here}
use Rattle.bz_task.specs.Swaps.{SwapsTo}
use Rattle.bz_task.specs.declared.todo.Outcome.TheVariants.{Restart}
use Rattle.bz_task.specs.declared.todo.Seen.{Seen}
use Rattle.bz_task.specs.declared.todo.Todo.{Todo}
use Rattle.bz_task.specs.declared.todo.Todo.TheVariants.{Swap}
use Rattle.bz_word.specs.declared.entry.Entry.{Entry}
use Rattle.bz_solo.specs.Errands.{Errand, words_asked, IsLookOf, may_swap_twice}
use Rattle.bz_solo.specs.Meant.{IsMeantFor}
use Rattle.bz_solo.specs.Sum.{IsPaid, IsThawed, PaysForRound}

-- the workers of such a memory, of which worker 0 swaps nothing
pub record IsCrew (c : Config) (m : SwapMemory) (w : ℕ) : Type 0 where
  pub config : IsConfig c
  pub size : length m.workers ≡ c.workers + 1
  pub worker : 0 < w
  pub within : w ≤ c.workers
  pub zero : SwapsNothing m 0

-- whatever its call has come to, it ends within the marks that the configuration tells
abbrev pub AnyCallIsPaid : Type 0
AnyCallIsPaid =
    (c : Config) (m : SwapMemory) (w : ℕ) (e : Errand) (t : AnyTask) (untold by : ℕ) (p : Past) → IsCrew c m w → IsWithinItsActs t → (e.effected ≡ false → IsLookOf e.call (kind_of t)) → IsThawed e →
    p.now + solo_most c ≤ by → IsPaid Marks m w e t untold 0 (p.now + left_to m w) by p

-- and so is a round that is yet to begin
abbrev pub AnyRoundIsPaid : Type 0
AnyRoundIsPaid = (c : Config) (m : SwapMemory) (w : ℕ) (e : Errand) (by : ℕ) (p : Past) → IsCrew c m w → IsThawed e → p.now + solo_most c ≤ by → PaysForRound Marks m w e (p.now + left_to m w) by p

-- where nobody does anything, it is paid for by what is promised for each call
abbrev pub FirstRoundsArePaid : Resource → Type 0
FirstRoundsArePaid r = (m : SwapMemory) (w : ℕ) (e : Errand) (used by : ℕ) (p : Past) → ((v : ℕ) → doing_of m v ≡ Idle) → IsThawed e → used + promised r ≤ by → PaysForRound r m w e used by p

-- then the swap memory allows nothing more
abbrev pub IdleMemoriesAllowNothing : Type 0
IdleMemoriesAllowNothing = (m : SwapMemory) (w : ℕ) → ((v : ℕ) → doing_of m v ≡ Idle) → left_to m w ≡ 0

-- a step of the worker: no more is used, as the memory allows a mark less, and no rival is new
pub record HasStepped (m n : SwapMemory) (w used next : ℕ) : Type 0 where
  pub less : next ≤ used
  pub rivals : rivals n w ≤ rivals m w

-- one moment later so many swaps more took effect
pub record Adds (more : ℕ) (p q : Past) : Type 0 where
  pub continues : Continues p q
  pub begun : p.since ≤ p.now
  pub effects : (q.at q.now).effects ≡ (p.at p.now).effects + more

-- one mark more, at which so many swaps took effect
pub record IsNext (more : ℕ) (p q : Past) : Type 0 where
  pub adds : Adds more p q
  pub one : q.now ≡ p.now + 1

-- a step without an effect
abbrev pub QuietStepsArePaid : Resource → Type 0
QuietStepsArePaid r =
    (m n : SwapMemory) (w : ℕ) (e : Errand) (t : AnyTask) (untold used next by : ℕ) (p : Past) (s : Scene) → IsScene s → IsNext 0 p s.past → HasStepped m n w used next → IsPaid r m w e t untold 0 used by p → IsPaid r n w e t untold 0 next by s.past

-- one at which another's swap takes effect: there is one rival fewer. It pays for the mark of that effect besides
abbrev pub ForeignEffectsArePaid : Resource → Type 0
ForeignEffectsArePaid r =
    (m n : SwapMemory) (w : ℕ) (e : Errand) (t : AnyTask) (untold used next by : ℕ) (p q : Past) → IsNext 1 p q → next ≤ used → rivals n w + 1 ≤ rivals m w → IsPaid r m w e t untold 0 used by p → IsPaid r n w e t untold (one_mark r) next by q

-- that mark, or none
abbrev pub EffectMarksArePaid : Resource → Type 0
EffectMarksArePaid r =
    (m : SwapMemory) (w : ℕ) (e : Errand) (t : AnyTask) (untold used next by : ℕ) (p : Past) (s : Scene) → IsScene s → IsNext 0 p s.past → next ≤ used + one_mark r → IsPaid r m w e t untold (one_mark r) used by p → IsPaid r m w e t untold 0 next by s.past

abbrev pub LessIsPaid : Resource → Type 0
LessIsPaid r = (m : SwapMemory) (w : ℕ) (e : Errand) (t : AnyTask) (untold extra less used by : ℕ) (p : Past) → less ≤ extra → IsPaid r m w e t untold extra used by p → IsPaid r m w e t untold less used by p

-- the call once its task's swap has had its effect, which may be that of the call; and the mark of that
abbrev pub effected_by : Bool → Errand → Errand
effected_by publishes e = if publishes then record e { effected = true } else e

abbrev pub mark_of_effect : Resource → Bool → ℕ
mark_of_effect r publishes = if publishes then one_mark r else 0

-- a swap that a task asks for, which knows what it should, leads to this
pub record IsOwnEffect (t : AnyTask) (s : Scene) (entries : List Entry) (y : Instant) : Type 0 where
  pub laws : AreLaws t
  pub good : IsScene s
  pub config : s.past.config ≡ config_of t
  pub knows : facts_of t Waiting s
  pub asks : asks_of t ≡ Some (Swap entries)
  pub leads : SwapsTo s.past.config entries (here s) y

-- what the task serves whose swap it is: of a call that has had its effect it publishes nothing, and makes nothing anew but by a merge; of one
-- without effect it is one that is meant for it
pub record IsServing (e : Errand) (t : AnyTask) (p : Past) : Type 0 where
  pub once : publishing_of t ≡ true → e.effected ≡ false
  pub later : e.effected ≡ true → may_swap_twice (kind_of t) ≡ true
  pub meant : e.effected ≡ false → IsMeantFor e.call t p

-- a step at which the worker's own swap takes effect
abbrev pub OwnEffectsArePaid : Resource → Type 0
OwnEffectsArePaid r =
    (m n : SwapMemory) (w : ℕ) (e : Errand) (t : AnyTask) (entries : List Entry) (used next by : ℕ) (s : Scene) (y : Instant) (q : Past) → IsOwnEffect t s entries y → IsServing e t s.past → words_asked e.call ≤ LEAF_RECORD_WORDS + 1 →
    IsNext 1 s.past q → q.at q.now ≡ y → HasStepped m n w used next → IsPaid r m w e t 0 0 used by s.past → IsPaid r n w (effected_by (publishing_of t) e) t 1 (mark_of_effect r (publishing_of t)) next by q

-- a task that is told something: what that lowers its weight by is what the slots take that are gone then, and the start of its next act
abbrev pub HearingsArePaid : Resource → Type 0
HearingsArePaid r =
    (m : SwapMemory) (w : ℕ) (e : Errand) (old new : AnyTask) (seen : Seen) (moment : ℕ) (free left : FreeSlots) (todo : Todo) (used next by : ℕ) (p : Past) → HasHeard old seen moment free todo new left → AreLaws old → AreLaws new →
    Hears (asks_of old) seen → (IsUndisturbed (made_of old + effects_in seen) p → end_of new ≢ Some Restart) → next ≤ used + slots_gone r free left → IsPaid r m w e old (effects_in seen) 0 used by p → IsPaid r m w e new 0 (start_takes r todo) next by p

-- and that start
abbrev pub StartsArePaid : Resource → Type 0
StartsArePaid r =
    (m n : SwapMemory) (w : ℕ) (e : Errand) (t : AnyTask) (untold used next by : ℕ) (todo : Todo) (p : Past) → next ≤ used + start_takes r todo → rivals n w ≡ rivals m w → IsPaid r m w e t untold (start_takes r todo) used by p →
    IsPaid r n w e t untold 0 next by p
