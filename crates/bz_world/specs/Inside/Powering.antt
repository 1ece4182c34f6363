-- What stands between the acts of a recovery, and what a power cut leaves.
use Rattle.std.specs.Prelude.{◌≡◌, ℕ, ◌+◌, length, map, get_or, Option, Some, None}
use Rattle.bz_swap_acts.specs.declared.acted.Act.{Act}
use Rattle.bz_swap_machine.specs.declared.done.Done.{Done}
use Rattle.bz_mark.specs.Log.{with_mark}
use Rattle.bz_mark.specs.declared.marks.Mark.TheVariants.{Cut, Ready}
use Rattle.bz_recover.specs.Duties.{asks_of}
use Rattle.bz_mark.specs.declared.power.Power.TheVariants as power
use Rattle.bz_sound.specs.Power.Calls.{IsAfterRecovering}
use Rattle.bz_refinement.specs.Recovering.{Asked}
use Rattle.bz_swap.specs.Power.{after_cut, renewed}
use Rattle.bz_swap.specs.Steps.{IsRawStep}
use Rattle.bz_swap.specs.SwapMemory.{Working}
use Rattle.bz_task.specs.declared.todo.Todo.{Todo}
use Rattle.bz_task.specs.declared.todo.Todo.TheVariants.{Finish}
use Rattle.bz_world.specs.Inside.Kept.{IsAwake, IsRecovering, IsStarted}
use Rattle.bz_world.specs.WorldView.{mark_of, count_reached}
use Rattle.bz_world.specs.declared.parts.Parts.{Parts}
use Rattle.bz_swap_machine.specs.declared.done.Done.TheVariants.{Busy}

-- the durable words are all that is left, and no call is served; which of the next acts were fences is kept
pub record IsCut (old new : Parts) : Type 0 where
  pub size : length new.workers.items ≡ length old.workers.items
  pub none : (w : ℕ) → get_or new.workers.items w None ≡ None
  pub flags : new.left_out.items ≡ map (λ (v : Working). v.flush_next) old.access.workers
  pub rest : new ≡ record old { access = after_cut old.access; journal = with_mark old.journal Cut; power = power.Off; workers = new.workers; left_out = new.left_out }

-- worker 0 made an act, and its mark was added
pub record IsRawAct (old : Parts) (made : Act) (done : Done) (told : Option ℕ) (new : Parts) : Type 0 where
  pub step : IsRawStep old.access 0 made done told new.access
  pub rest : new ≡ record old { access = new.access; journal = with_mark old.journal (mark_of 0 made) }

-- and the recovery was told what came of it, and asks for this next
pub record HasAsked (old : Parts) (todo : Todo) (new : Parts) : Type 0 where
  pub made : Act
  pub done : Done
  pub told : Option ℕ
  pub mid : Parts
  pub act : IsRawAct old made done told mid
  pub rest : new ≡ record mid { recovery = new.recovery; slots = new.slots }
  pub recovering : IsRecovering new Asked
  pub asks : asks_of new.recovery ≡ Some todo
  pub after : IsAfterRecovering new.journal.past

-- or it has asked for the line of a flush, which goes on
pub record HasGoneOn (old new : Parts) : Type 0 where
  pub made : Act
  pub told : Option ℕ
  pub act : IsRawAct old made Busy told new
  pub started : IsStarted new

-- directly after an act of worker 0 the recovery asks for nothing more
pub record MustWake (p : Parts) : Type 0 where
  pub recovering : IsRecovering p Asked
  pub asks : asks_of p.recovery ≡ Some Finish
  pub after : IsAfterRecovering p.journal.past

-- so the power is on, and each slot is free that the tree does not reach
pub record Wakes (old new : Parts) : Type 0 where
  pub awake : IsAwake new
  pub left : length old.slots.free + count_reached old.config old.journal ≡ old.config.nodes
  pub rest : new ≡ record old { access = renewed old.access; journal = with_mark old.journal Ready; power = power.On }
