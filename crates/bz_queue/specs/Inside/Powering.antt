-- What stands between the acts of a recovery, and what a power cut leaves.
use Rattle.std.specs.Prelude.{◌≡◌, ℕ, length, get_or, Option, Some, None}
use Rattle.bz_mark.specs.declared.marks.Mark.TheVariants.{Cut, Ready}
use Rattle.bz_mark.specs.declared.power.Power.TheVariants as power
use Rattle.bz_ring.specs.declared.marks.QMark.TheVariants.{Memory}
use Rattle.bz_ring.specs.Follows.{IsAfterRecovering}
use Rattle.bz_ring.specs.Journal.{with_mark}
use Rattle.bz_swap.specs.Power.{after_cut, renewed}
use Rattle.bz_swap.specs.Steps.{IsRawStep}
use Rattle.bz_swap_acts.specs.declared.acted.Act.{Act}
use Rattle.bz_swap_machine.specs.declared.done.Done.{Done}
use Rattle.bz_swap_machine.specs.declared.done.Done.TheVariants.{Busy}
use Rattle.bz_swap_marks.specs.Marks.{mark_of}
use Rattle.bz_swap_recovery.specs.Recovering.{Asked}
use Rattle.bz_sweep.specs.Duties.{asks_of}
use Rattle.bz_sweep.specs.declared.ask.Ask.{Ask}
use Rattle.bz_sweep.specs.declared.ask.Ask.TheVariants.{Finish}
use Rattle.bz_queue.specs.Inside.Kept.{IsAwake, IsStarted, IsSwept}
use Rattle.bz_queue.specs.declared.parts.Parts.{Parts}

-- the durable words are all that is left, and no call is served
pub record IsCut (old new : Parts) : Type 0 where
  pub size : length new.workers.items ≡ length old.workers.items
  pub none : (w : ℕ) → get_or new.workers.items w None ≡ None
  pub rest : new ≡ record old { access = after_cut old.access; journal = with_mark old.journal (Memory Cut); power = power.Off; workers = new.workers }

-- worker 0 made an act, and its mark was added
pub record IsRawAct (old : Parts) (made : Act) (done : Done) (told : Option ℕ) (new : Parts) : Type 0 where
  pub step : IsRawStep old.access 0 made done told new.access
  pub rest : new ≡ record old { access = new.access; journal = with_mark old.journal (Memory (mark_of 0 made)) }

-- and the sweep was told what came of it, and asks for this next
pub record HasAsked (old : Parts) (ask : Ask) (new : Parts) : Type 0 where
  pub made : Act
  pub done : Done
  pub told : Option ℕ
  pub mid : Parts
  pub act : IsRawAct old made done told mid
  pub rest : new ≡ record mid { sweep = new.sweep }
  pub swept : IsSwept new Asked
  pub asks : asks_of new.sweep ≡ Some ask
  pub after : IsAfterRecovering new.journal.past

-- or it has asked for the line of a flush, which goes on
pub record HasGoneOn (old new : Parts) : Type 0 where
  pub made : Act
  pub told : Option ℕ
  pub act : IsRawAct old made Busy told new
  pub started : IsStarted new

-- directly after an act of worker 0 the sweep asks for nothing more
pub record MustWake (p : Parts) : Type 0 where
  pub swept : IsSwept p Asked
  pub asks : asks_of p.sweep ≡ Some Finish
  pub after : IsAfterRecovering p.journal.past

-- so the power is on
pub record Wakes (old new : Parts) : Type 0 where
  pub awake : IsAwake new
  pub rest : new ≡ record old { access = renewed old.access; journal = with_mark old.journal (Memory Ready); power = power.On }
