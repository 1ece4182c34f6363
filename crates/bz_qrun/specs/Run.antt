-- What comes of a queue's script: the answer, the queue, and what the sink has taken.
use Rattle.std.specs.Prelude.{◌≡◌, ℕ, List, [], ◌⊎◌, Option, Some, None, Result, Ok, Err}
use Rattle.std.specs.Io.KnownBytes.{Appends}
use Rattle.bz_io.specs.Faults.{Rose}
use Rattle.bz_io.specs.Transfers.{GrewByFront}
use Rattle.bz_layout.specs.declared.limits.TheConstants.{MAX_WORKERS, MAX_CALLS}
use Rattle.bz_qscript.specs.Script.{QJob, script_of}
use Rattle.bz_qsched.specs.Scripts.{Follows, FollowsInPart}
use Rattle.bz_qsched.specs.declared.items.ItemsEnd.{ItemsEnd}
use Rattle.bz_qsched.specs.declared.items.ItemsEnd.TheVariants as end
use Rattle.bz_qtext.specs.Report.{report_of}
use Rattle.bz_queue.specs.QueueView.{QueueView, new_view}
use Rattle.bz_queue.specs.declared.answers.QLimit.{QLimit}
use Rattle.bz_queue.specs.declared.open.Numbers.{Numbers}
use Rattle.bz_ring.specs.Content.{size_of}
use Rattle.bz_ring.specs.Fresh.{fresh_words}
use Rattle.bz_ring.specs.declared.ring.Ring.{Ring}
use Rattle.bz_script.specs.Script.{Fault}
use Rattle.bz_qrun.specs.declared.fault.QueueFault.{QueueFault}
use Rattle.bz_qrun.specs.declared.fault.QueueFault.TheVariants as fault

-- the ring that a script asks for, and how many words its memory has
abbrev pub ring_of : QJob → Ring
ring_of job = record { capacity = job.capacity; swaps = job.swaps }

abbrev pub size_in : QJob → ℕ
size_in job = size_of (ring_of job)

-- the numbers of its queue: 64 workers, so many marks, and 65,536 calls
abbrev pub numbers_of : QJob → ℕ → Numbers
numbers_of job marks = record { ring = ring_of job; workers = MAX_WORKERS; marks = marks; calls = MAX_CALLS }

-- a queue over fresh memory, in which nothing has happened
abbrev pub IsNewFor : QJob → ℕ → QueueView → Type 0
IsNewFor job marks q = q ≡ new_view (numbers_of job marks)

-- a queue that was such a one, with the start of fresh memory: three in word 0, the sizes in words 3 and 4, and zeros
pub record IsOf (job : QJob) (marks : ℕ) (q : QueueView) : Type 0 where
  pub numbers : q.numbers ≡ numbers_of job marks
  pub start : q.log.start ≡ fresh_words (ring_of job)
  pub most : q.log.most ≡ marks

-- its journal follows the whole script
pub record RanWhole (job : QJob) (marks : ℕ) (q : QueueView) : Type 0 where
  pub is : IsOf job marks q
  pub follows : Follows (fresh_words (ring_of job)) (size_in job) job.items q.log.past

-- or up to a limit
pub record RanInPart (job : QJob) (marks : ℕ) (why : QLimit) (q : QueueView) : Type 0 where
  pub is : IsOf job marks q
  pub follows : FollowsInPart why marks MAX_CALLS (fresh_words (ring_of job)) (size_in job) job.items q.log.past

abbrev pub RanTo : QJob → ℕ → ItemsEnd → QueueView → Type 0
RanTo job marks end.Finished q = RanWhole job marks q
RanTo job marks (end.Limit why) q = RanInPart job marks why q

-- the report of a queue's journal; without a queue there is none
abbrev pub report_in : Option QueueView → List ℕ
report_in None = []
report_in (Some q) = report_of q.numbers.ring q.log.start q.log.past

-- what writing the report of a run that ended so answers: the sink has grown by it; or by a part of it, and has failed; or memory was wanting
abbrev pub Tells : ItemsEnd → List ℕ → Option (List ℕ) → Option (List ℕ) → ℕ → ℕ → Result (Unit {0}) QueueFault → Type 0
Tells how text old new before after (Ok done) = (how ≡ end.Finished) × Appends old new text
Tells how text old new before after (Err (fault.Limit why)) = (how ≡ end.Limit why) × Appends old new text
Tells how text old new before after (Err fault.Write) = Rose before after × GrewByFront old new text
Tells how text old new before after (Err fault.Memory) = Unit {0}
Tells how text old new before after (Err (fault.Line line rule)) = ⊥

-- so a script has run over a queue
pub record HasRun (job : QJob) (marks : ℕ) (q : QueueView) (old new : Option (List ℕ)) (before after : ℕ) (answer : Result (Unit {0}) QueueFault) : Type 0 where
  pub how : ItemsEnd
  pub ran : RanTo job marks how q
  pub tells : Tells how (report_in (Some q)) old new before after answer

-- or over none, for want of memory
abbrev pub RunsJob : QJob → ℕ → Option QueueView → Option (List ℕ) → Option (List ℕ) → ℕ → ℕ → Result (Unit {0}) QueueFault → Type 0
RunsJob job marks None old new before after answer = answer ≡ Err fault.Memory
RunsJob job marks (Some q) old new before after answer = HasRun job marks q old new before after answer

-- a fault of reading: the first broken rule; want of memory says nothing of the bytes
abbrev pub IsLineFault : Result QJob Fault → QueueFault → Type 0
IsLineFault found (fault.Line line rule) = found ≡ Err (record { line = line; rule = rule })
IsLineFault found fault.Memory = Unit {0}
IsLineFault found other = ⊥

-- bytes that are a script have run; those that are none are told by their first fault
abbrev pub RunsBy : Result QJob Fault → ℕ → Option QueueView → Option (List ℕ) → Option (List ℕ) → ℕ → ℕ → Result (Unit {0}) QueueFault → Type 0
RunsBy (Ok job) marks queue old new before after answer = RunsJob job marks queue old new before after answer
RunsBy (Err first) marks queue old new before after answer =
    (queue ≡ None) × ((answer ≡ Err (fault.Line first.line first.rule)) ⊎ (answer ≡ Err fault.Memory))

abbrev pub RunsScript : List ℕ → ℕ → Option QueueView → Option (List ℕ) → Option (List ℕ) → ℕ → ℕ → Result (Unit {0}) QueueFault → Type 0
RunsScript bytes = RunsBy (script_of bytes)
