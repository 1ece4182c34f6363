-- How the command `queue` ends: the cause of each status, and what is then written.
use Rattle.std.specs.Prelude.{◌≡◌, ◌≢◌, ◌≤◌, ◌+◌, ◌⊎◌, ℕ, List, ◌++◌, length, Option, Some, None, Ok, Err, codes}
use Rattle.std.specs.Io.KnownBytes.{Consumes}
use Rattle.bz_cli.specs.CommandLine.{IsCommandLine}
use Rattle.bz_cli.specs.declared.command.Command.TheVariants.{Queue}
use Rattle.bz_io.specs.Faults.{Rose}
use Rattle.bz_io.specs.Transfers.{IsReadWhole, GaveCount}
use Rattle.bz_qrun.specs.Run.{RanWhole, RanInPart}
use Rattle.bz_qscript.specs.Script.{QJob, script_of}
use Rattle.bz_qtext.specs.Report.{report_of}
use Rattle.bz_queue.specs.QueueView.{QueueView}
use Rattle.bz_queue.specs.declared.answers.QLimit.{QLimit}
use Rattle.bz_queue.specs.declared.answers.QLimit.TheVariants.{Marks, Calls}
use Rattle.bz_ring.specs.Solitary.{IsSparing}
use Rattle.bz_ring.specs.Sound.{IsSound}
use Rattle.bz_script.specs.declared.fault.ScriptRule.{ScriptRule}
use Rattle.bz_script.specs.declared.read.TheConstants.{SCRIPT_BYTES}
use Rattle.bz_sched.specs.FromWorld.WorldView.{WorldView}
use Rattle.bz_top.specs.Endings.{Outside, WritesWhole, WritesPart, IsEnded}
use Rattle.bz_top.specs.Faults.{fault_line, broken_text}

-- the words are `queue`, with this limit on marks
abbrev pub IsQueue : List (List ℕ) → ℕ → Type 0
IsQueue words marks = IsCommandLine words (record { command = Queue; marks = marks })

abbrev pub queue_limit_text : QLimit → List ℕ
queue_limit_text Marks = codes "limit marks"
queue_limit_text Calls = codes "limit calls"

-- the source was read to its end, and gave these bytes: at most so many as a script may have
pub record IsQueueInput (o : Outside) (bytes : List ℕ) : Type 0 where
  pub whole : IsReadWhole o.left o.left_after bytes
  pub fits : length bytes ≤ SCRIPT_BYTES

-- the words are `queue`, and the source's bytes are this script
pub record AsksQueue (o : Outside) (marks : ℕ) (job : QJob) : Type 0 where
  pub command : IsQueue o.words marks
  pub bytes : List ℕ
  pub input : IsQueueInput o bytes
  pub is_script : script_of bytes ≡ Ok job

-- its journal is sound, and a call beside which no other was open took no descriptor more than it needed
pub record IsRight (q : QueueView) : Type 0 where
  pub sound : IsSound q.numbers.ring q.log.start q.log.past
  pub sparing : IsSparing q.numbers.ring q.log.past

-- the same where there is a queue
abbrev pub IsRightIn : Option QueueView → Type 0
IsRightIn None = Unit {0}
IsRightIn (Some q) = IsRight q

-- the report of its journal
abbrev pub report_from : QueueView → List ℕ
report_from q = report_of q.numbers.ring q.log.start q.log.past

-- done: the queue was opened for the script with this limit on marks, its journal follows the whole script, and its report is written
pub record IsQueueDone (o : Outside) (queue : Option QueueView) (text : List ℕ) : Type 0 where
  pub marks : ℕ
  pub job : QJob
  pub asks : AsksQueue o marks job
  pub view : QueueView
  pub is_queue : queue ≡ Some view
  pub right : IsRight view
  pub ran : RanWhole job marks view
  pub writes : text ≡ report_from view

-- a limit was met: its journal follows the script up to there, and its report is written and then the fault line
pub record IsQueueLimited (o : Outside) (queue : Option QueueView) (text : List ℕ) : Type 0 where
  pub marks : ℕ
  pub job : QJob
  pub asks : AsksQueue o marks job
  pub view : QueueView
  pub is_queue : queue ≡ Some view
  pub right : IsRight view
  pub which : QLimit
  pub ran : RanInPart job marks which view
  pub writes : text ≡ report_from view ++ fault_line (queue_limit_text which)

-- reading failed
pub record IsQueueUnread (o : Outside) (queue : Option QueueView) (text : List ℕ) : Type 0 where
  pub marks : ℕ
  pub command : IsQueue o.words marks
  pub rose : Rose o.read_faults o.read_faults_after
  pub no_queue : queue ≡ None
  pub writes : text ≡ fault_line (codes "read")

-- the bytes break a rule: the first line that breaks one, and the first rule that it breaks
pub record IsQueueBroken (o : Outside) (queue : Option QueueView) (text : List ℕ) : Type 0 where
  pub marks : ℕ
  pub command : IsQueue o.words marks
  pub bytes : List ℕ
  pub input : IsQueueInput o bytes
  pub line : ℕ
  pub rule : ScriptRule
  pub is_fault : script_of bytes ≡ Err (record { line = line; rule = rule })
  pub no_queue : queue ≡ None
  pub writes : text ≡ fault_line (broken_text line rule)

-- they are more than a script may have
pub record IsQueueTooLong (o : Outside) (queue : Option QueueView) (text : List ℕ) : Type 0 where
  pub marks : ℕ
  pub command : IsQueue o.words marks
  pub more : GaveCount o.left o.left_after (SCRIPT_BYTES + 1)
  pub no_queue : queue ≡ None
  pub writes : text ≡ fault_line (codes "script too long")

-- memory was wanting before there was a queue
pub record WantsQueue (o : Outside) (queue : Option QueueView) (text : List ℕ) : Type 0 where
  pub marks : ℕ
  pub command : IsQueue o.words marks
  pub no_queue : queue ≡ None
  pub writes : text ≡ fault_line (codes "memory")

-- memory was wanting for its report, and the queue is told: its journal follows the script to its end, or up to a limit
pub record WantsReport (o : Outside) (queue : Option QueueView) (text : List ℕ) : Type 0 where
  pub marks : ℕ
  pub job : QJob
  pub asks : AsksQueue o marks job
  pub view : QueueView
  pub is_queue : queue ≡ Some view
  pub right : IsRight view
  pub ran : RanWhole job marks view ⊎ ((which : QLimit) × RanInPart job marks which view)
  pub writes : text ≡ fault_line (codes "memory")

abbrev pub IsQueueWant : Outside → Option QueueView → List ℕ → Type 0
IsQueueWant o queue text = WantsQueue o queue text ⊎ WantsReport o queue text

-- what is to be written, whatever the ending
abbrev pub IsQueueToBeWritten : Outside → Option QueueView → List ℕ → Type 0
IsQueueToBeWritten o queue text =
    IsQueueDone o queue text
    ⊎ (IsQueueUnread o queue text ⊎ (IsQueueBroken o queue text ⊎ (IsQueueTooLong o queue text ⊎ (IsQueueLimited o queue text ⊎ IsQueueWant o queue text))))

-- Each status has its cause, and with each the sink has grown by exactly what is said. Status 4 comes only where the sink failed; it then has a part of what another
-- ending whose cause holds writes.
pub record IsQueueEnded (o : Outside) (status : ℕ) (queue : Option QueueView) : Type 0 where
  pub done : status ≡ 0 → WritesWhole (IsQueueDone o queue) o
  pub read : status ≡ 1 → WritesWhole (IsQueueUnread o queue) o
  pub refused : status ≡ 3 → WritesWhole (IsQueueBroken o queue) o ⊎ WritesWhole (IsQueueTooLong o queue) o
  pub write : status ≡ 4 → Rose o.write_faults o.write_faults_after × WritesPart (IsQueueToBeWritten o queue) o
  pub limit : status ≡ 5 → WritesWhole (IsQueueLimited o queue) o
  pub memory : status ≡ 7 → WritesWhole (IsQueueWant o queue) o
  pub no_usage : status ≢ 2
  pub no_image : status ≢ 6
  pub no_other : status ≤ 7

-- Only `queue` has a queue, and it has no world.
abbrev pub EndsBy : Outside → ℕ → Option WorldView → Option QueueView → Type 0
EndsBy o status lab queue = (IsEnded o status lab × (queue ≡ None)) ⊎ (IsQueueEnded o status queue × (lab ≡ None))
