-- What comes of a command line without threads: the program ends, or a script with a run on threads is handed back.
use Rattle.std.specs.Prelude.{◌≡◌, ◌≤◌, ℕ, List, true, length, Ok}
use Rattle.bz_io.specs.Transfers.{IsReadWhole}
use Rattle.bz_layout.specs.declared.limits.TheConstants.{MIN_MARKS, MAX_MARKS}
use Rattle.bz_script.specs.Script.{Job, job_of, script_of}
use Rattle.bz_script.specs.declared.read.TheConstants.{SCRIPT_BYTES}
use Rattle.bz_cli.specs.declared.command.CommandLine.{CommandLine}
use Rattle.bz_top.specs.Bases.{Base, numbers_over}
use Rattle.bz_top.specs.Endings.{Outside, Asks, IsEnded}
use Rattle.bz_top.specs.QueueEndings.{EndsBy}
use Rattle.bz_top.specs.Parts.{Given, Sunk, RanScript, RanBytes, RanSource}
use Rattle.bz_top.specs.Threads.{has_threads}
use Rattle.bz_top.specs.declared.answer.Answer.{Answer}
use Rattle.bz_top.specs.declared.answer.Answer.TheVariants as answer
use Rattle.bz_top.specs.declared.answer.WorldAnswer.{WorldAnswer}
use Rattle.bz_top.specs.declared.answer.WorldAnswer.TheVariants.{Ended, NeedsThreads}
use Rattle.bz_top.specs.declared.answer.Waiting.{Waiting}

-- the script of the command has a run on threads, and nothing was written; the limit on marks lies in its range
pub record NeedsRun (o : Outside) (waiting : Waiting) : Type 0 where
  pub asks : Asks o waiting.line waiting.base (job_of waiting.script)
  pub marks : (MIN_MARKS ≤ waiting.line.marks) × (waiting.line.marks ≤ MAX_MARKS)
  pub threads : has_threads (job_of waiting.script).items ≡ true
  pub held : o.held_after ≡ o.held
  pub faults : o.write_faults_after ≡ o.write_faults

-- the program has ended, each status with its cause; or it is such a script
abbrev pub IsAnswered : Outside → Answer → Type 0
IsAnswered o (answer.Ended outcome) = EndsBy o outcome.status outcome.lab outcome.queue
IsAnswered o (answer.NeedsThreads waiting) = NeedsRun o waiting

-- the same of a command that has no queue
abbrev pub IsAnsweredInWorld : Outside → WorldAnswer → Type 0
IsAnsweredInWorld o (Ended end) = IsEnded o end.status end.lab
IsAnsweredInWorld o (NeedsThreads waiting) = NeedsRun o waiting

-- a script was handed back as it came, with a run on threads, and nothing was written
pub record HandsBack (line : CommandLine) (base : Base) (script : Job) (k : Sunk) (waiting : Waiting) : Type 0 where
  pub is_line : waiting.line ≡ line
  pub is_base : waiting.base ≡ base
  pub is_script : job_of waiting.script ≡ script
  pub threads : has_threads script.items ≡ true
  pub held : k.held_after ≡ k.held
  pub faults : k.faults_after ≡ k.faults

-- what comes of a script
abbrev pub AnswersScript : CommandLine → Base → Job → Sunk → WorldAnswer → Type 0
AnswersScript line base script k (Ended outcome) = RanScript line.command line.marks base script k outcome.status outcome.lab
AnswersScript line base script k (NeedsThreads waiting) = HandsBack line base script k waiting

-- of bytes
pub record ReadsBack (line : CommandLine) (base : Base) (bytes : List ℕ) (k : Sunk) (waiting : Waiting) : Type 0 where
  pub script : Job
  pub is_script : script_of (numbers_over base) bytes ≡ Ok script
  pub back : HandsBack line base script k waiting

abbrev pub AnswersBytes : CommandLine → Base → List ℕ → Sunk → WorldAnswer → Type 0
AnswersBytes line base bytes k (Ended outcome) = RanBytes line.command line.marks base bytes k outcome.status outcome.lab
AnswersBytes line base bytes k (NeedsThreads waiting) = ReadsBack line base bytes k waiting

-- of what the source has left
pub record IsReadBack (line : CommandLine) (base : Base) (g : Given) (k : Sunk) (waiting : Waiting) : Type 0 where
  pub bytes : List ℕ
  pub whole : IsReadWhole g.left g.left_after bytes
  pub fits : length bytes ≤ SCRIPT_BYTES
  pub back : ReadsBack line base bytes k waiting

abbrev pub AnswersSource : CommandLine → Base → Given → Sunk → WorldAnswer → Type 0
AnswersSource line base g k (Ended outcome) = RanSource line.command line.marks base g k outcome.status outcome.lab
AnswersSource line base g k (NeedsThreads waiting) = IsReadBack line base g k waiting
