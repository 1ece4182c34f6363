-- Whichever task it is: it goes on where its worker is alone.
use Rattle.bz_any_task.specs.Duties.{config_of, asks_of, made_of, facts_of, differs_of}
use Rattle.bz_any_task.specs.declared.running.AnyTask.{AnyTask}
use Rattle.bz_undisturbed.specs.Undisturbed.{GoesOnUndisturbed}

-- where nobody else's swap took effect since the look-up began, what it has read stands: the expected values of each swap that it asks for
-- stand, and no load differs
abbrev pub UndisturbedTasksGoOn : Type 0
UndisturbedTasksGoOn = (t : AnyTask) → GoesOnUndisturbed (made_of t) (config_of t) (asks_of t) (facts_of t) (differs_of t)
