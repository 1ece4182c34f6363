-- How the parts of a run of `queue` end, from the script on.
use Rattle.std.specs.Prelude.{◌≡◌, ◌≤◌, ◌+◌, ◌⊎◌, ℕ, List, ◌++◌, length, Option, Some, None, Result, Ok, Err, codes}
use Rattle.bz_io.specs.Faults.{Rose}
use Rattle.bz_io.specs.Transfers.{IsReadWhole, GaveCount}
use Rattle.bz_qrun.specs.Run.{RunsScript, RanWhole, RanInPart}
use Rattle.bz_qrun.specs.declared.fault.QueueFault.{QueueFault}
use Rattle.bz_qrun.specs.declared.fault.QueueFault.TheVariants as fault
use Rattle.bz_qscript.specs.Script.{QJob, script_of}
use Rattle.bz_queue.specs.QueueView.{QueueView}
use Rattle.bz_queue.specs.declared.answers.QLimit.{QLimit}
use Rattle.bz_script.specs.declared.fault.ScriptRule.{ScriptRule}
use Rattle.bz_script.specs.declared.read.TheConstants.{SCRIPT_BYTES}
use Rattle.bz_sched.specs.FromWorld.WorldView.{WorldView}
use Rattle.bz_top.specs.Faults.{fault_line, broken_text}
use Rattle.bz_top.specs.Parts.{Given, Sunk, Says, SaysOrWants, FailsToRead, RunsOver, Wants}
use Rattle.bz_top.specs.QueueEndings.{IsRight, queue_limit_text, report_from}

-- a script was run to its end
pub record QueueFinishes (marks : ℕ) (job : QJob) (k : Sunk) (status : ℕ) (queue : Option QueueView) : Type 0 where
  pub view : QueueView
  pub is_queue : queue ≡ Some view
  pub right : IsRight view
  pub ran : RanWhole job marks view
  pub said : Says k 0 (report_from view) status

-- up to a limit
pub record QueueStops (marks : ℕ) (job : QJob) (k : Sunk) (status : ℕ) (queue : Option QueueView) : Type 0 where
  pub view : QueueView
  pub is_queue : queue ≡ Some view
  pub right : IsRight view
  pub which : QLimit
  pub ran : RanInPart job marks which view
  pub said : Says k 5 (report_from view ++ fault_line (queue_limit_text which)) status

-- memory was wanting for its report
pub record QueueGivesUp (marks : ℕ) (job : QJob) (k : Sunk) (status : ℕ) (queue : Option QueueView) : Type 0 where
  pub view : QueueView
  pub is_queue : queue ≡ Some view
  pub right : IsRight view
  pub ran : RanWhole job marks view ⊎ ((which : QLimit) × RanInPart job marks which view)
  pub said : Says k 7 (fault_line (codes "memory")) status

-- memory was wanting before there was a queue
pub record QueueWants (k : Sunk) (status : ℕ) (queue : Option QueueView) : Type 0 where
  pub no_queue : queue ≡ None
  pub said : Says k 7 (fault_line (codes "memory")) status

-- bytes were read as a script and run
pub record QueueRuns (marks : ℕ) (bytes : List ℕ) (k : Sunk) (status : ℕ) (queue : Option QueueView) : Type 0 where
  pub job : QJob
  pub is_script : script_of bytes ≡ Ok job
  pub ran : QueueFinishes marks job k status queue ⊎ (QueueStops marks job k status queue ⊎ QueueGivesUp marks job k status queue)

-- they were no script
pub record QueueRefuses (bytes : List ℕ) (k : Sunk) (status : ℕ) (queue : Option QueueView) : Type 0 where
  pub line : ℕ
  pub rule : ScriptRule
  pub is_fault : script_of bytes ≡ Err (record { line = line; rule = rule })
  pub no_queue : queue ≡ None
  pub said : SaysOrWants k 3 (fault_line (broken_text line rule)) status

abbrev pub RanQueueBytes : ℕ → List ℕ → Sunk → ℕ → Option WorldView → Option QueueView → Type 0
RanQueueBytes marks bytes k status lab queue =
    (lab ≡ None) × (QueueRuns marks bytes k status queue ⊎ (QueueRefuses bytes k status queue ⊎ QueueWants k status queue))

-- it was read to its end
pub record IsQueueReadOut (marks : ℕ) (g : Given) (k : Sunk) (status : ℕ) (lab : Option WorldView) (queue : Option QueueView) : Type 0 where
  pub bytes : List ℕ
  pub whole : IsReadWhole g.left g.left_after bytes
  pub fits : length bytes ≤ SCRIPT_BYTES
  pub ran : RanQueueBytes marks bytes k status lab queue

-- what becomes of what the source has left
abbrev pub RanQueueSource : ℕ → Given → Sunk → ℕ → Option WorldView → Option QueueView → Type 0
RanQueueSource marks g k status lab queue =
    ((FailsToRead g k status lab ⊎ (RunsOver g k status lab ⊎ Wants k status lab)) × (queue ≡ None)) ⊎ IsQueueReadOut marks g k status lab queue

-- what is told behind the report of a script that was done with this answer; without a report it stands alone
abbrev pub IsTold : Option QueueView → Result (Unit {0}) QueueFault → Sunk → ℕ → Option WorldView → Option QueueView → Type 0
IsTold queue (Ok done) k status lab left = (lab ≡ None) × (left ≡ queue) × (status ≡ 0) × (k.held_after ≡ k.held) × (k.faults_after ≡ k.faults)
IsTold queue (Err (fault.Limit which)) k status lab left = (lab ≡ None) × (left ≡ queue) × Says k 5 (fault_line (queue_limit_text which)) status
IsTold queue (Err fault.Write) k status lab left = (lab ≡ None) × (left ≡ queue) × (status ≡ 4) × (k.held_after ≡ k.held) × (k.faults_after ≡ k.faults)
IsTold queue (Err fault.Memory) k status lab left = (lab ≡ None) × (left ≡ queue) × Says k 7 (fault_line (codes "memory")) status
IsTold queue (Err (fault.Line line rule)) k status lab left = (lab ≡ None) × (left ≡ None) × SaysOrWants k 3 (fault_line (broken_text line rule)) status
