-- What came of a command line without threads, and then on threads.
use Rattle.std.proofs.Common.{◌≡◌, ◌≤◌, ◌⊎◌, inl, inr, ℕ, List, refl, sym, ap, ◌∙◌, subst}
use Rattle.std.specs.Prelude.{Option, Some, None, true, length, Ok}
use Rattle.std.specs.Io.KnownBytes.{Consumes}
use Rattle.bz_io.proofs.Consumed.{consumes_twice}
use Rattle.bz_io.specs.Transfers.{IsReadWhole}
use Rattle.bz_layout.specs.declared.limits.TheConstants.{MIN_MARKS, MAX_MARKS}
use Rattle.bz_script.specs.ItemLaws.{IsJob, scripts_are_jobs}
use Rattle.bz_script.specs.Script.{Job, job_of, script_of}
use Rattle.bz_script.specs.declared.read.TheConstants.{SCRIPT_BYTES}
use Rattle.bz_cli.specs.CommandLine.{IsCommandLine}
use Rattle.bz_cli.specs.declared.command.Command.{Command}
use Rattle.bz_cli.specs.declared.command.Command.TheVariants.{Run, Dump, Load, Trace, Queue, Work}
use Rattle.bz_cli.specs.declared.command.CommandLine.{CommandLine}
use Rattle.bz_sched.specs.FromWorld.WorldView.{WorldView}
use Rattle.bz_top.specs.Answers.{NeedsRun, IsAnsweredInWorld, AnswersScript, AnswersBytes, AnswersSource}
use Rattle.bz_top.specs.Bases.{Base, front_over, numbers_over, IsBase, IsBaseOf, Reads, ReadsOver}
use Rattle.bz_top.specs.Commands.{config_of}
use Rattle.bz_top.specs.Endings.{Outside, IsReading, ReadsScript, HasScript, Asks, IsEnded}
use Rattle.bz_top.specs.Parts.{Given, Sunk, given, sunk, RanScript}
use Rattle.bz_top.specs.Threads.{has_threads}
use Rattle.bz_top.specs.declared.answer.WorldAnswer.{WorldAnswer}
use Rattle.bz_top.specs.declared.answer.WorldAnswer.TheVariants.{Ended, NeedsThreads}
use Rattle.bz_top.specs.declared.answer.Waiting.{Waiting}
use Rattle.bz_top.proofs.BaseLemmas.{base_of_script}
use Rattle.bz_top.proofs.EndLemmas.{has_script, ended-script, ended-source}
use Rattle.bz_top.proofs.ThreadLemmas.{threads_drawn}

-- what came of a script came of its bytes, and of the source that gave them
pub bytes_answered : (line : CommandLine) (base : Base) (bytes : List ℕ) (k : Sunk) (script : Job) (answer : WorldAnswer) → script_of (numbers_over base) bytes ≡ Ok script → AnswersScript line base script k answer → AnswersBytes line base bytes k answer
bytes_answered line base bytes k script (Ended outcome) is ran = inl (record { script = script; is_script = is; ran = ran })
bytes_answered line base bytes k script (NeedsThreads waiting) is back = record { script = script; is_script = is; back = back }

pub source_answered : (line : CommandLine) (base : Base) (g : Given) (k : Sunk) (bytes : List ℕ) (answer : WorldAnswer) → IsReadWhole g.left g.left_after bytes → length bytes ≤ SCRIPT_BYTES → AnswersBytes line base bytes k answer → AnswersSource line base g k answer
source_answered line base g k bytes (Ended outcome) whole fits ran = inr (inr (inl (record { bytes = bytes; whole = whole; fits = fits; ran = ran })))
source_answered line base g k bytes (NeedsThreads waiting) whole fits back = record { bytes = bytes; whole = whole; fits = fits; back = back }

-- what stands before the script was given, and this came of the rest
module _ (o : Outside) (line : CommandLine) (command : IsCommandLine o.words line) (base : Base) (reads : ReadsOver line.command base) (is_base : IsBase line.marks base) (range : (MIN_MARKS ≤ line.marks) × (line.marks ≤ MAX_MARKS))
    (mid : Option (List ℕ)) (faults : ℕ) (front : Consumes o.left mid (front_over base)) (later : o.read_faults ≤ faults) where
  asks_for : (script : Job) → ReadsScript o base script → Asks o line base script
  asks_for script has = record { command = command; is_base = is_base; has_script = has_script o line.command base script reads has }

  pub answered_source : (answer : WorldAnswer) → AnswersSource line base (given mid o.left_after faults o.read_faults_after) (sunk o.held o.held_after o.write_faults o.write_faults_after) answer → IsAnsweredInWorld o answer
  answered_source (Ended outcome) ran = ended-source o outcome.status outcome.lab line command base reads is_base mid faults front later ran
  answered_source (NeedsThreads waiting) read =
      let back = read.back.back in
      let has : ReadsScript o base read.back.script = record {
        bytes = read.bytes;
        input = record { whole = record { given = consumes_twice o.left mid o.left_after (front_over base) read.bytes front read.whole.given; ended = read.whole.ended }; fits = read.fits };
        is_script = read.back.is_script;
      } in
      record {
        asks = subst (λ (l : CommandLine). Asks o l waiting.base (job_of waiting.script)) (sym back.is_line)
            (subst (λ (b : Base). Asks o line b (job_of waiting.script)) (sym back.is_base)
            (subst (Asks o line base) (sym back.is_script) (asks_for read.back.script has)));
        marks = subst (λ (l : CommandLine). (MIN_MARKS ≤ l.marks) × (l.marks ≤ MAX_MARKS)) (sym back.is_line) range;
        threads = ap (λ (job : Job). has_threads job.items) back.is_script ∙ back.threads;
        held = back.held;
        faults = back.faults;
      }

-- a script that is asked for is one, for a memory that its base fits
script_is : (line : CommandLine) (base : Base) (script : Job) (o : Outside) → IsBase line.marks base → ReadsScript o base script → IsJob script × IsBaseOf (config_of line.marks script.nodes script.swaps) base
script_is line base script o is_base reads =
    (scripts_are_jobs (numbers_over base) reads.bytes script reads.is_script, base_of_script line.marks base reads.bytes script is_base reads.is_script)

asked_by : (o : Outside) (line : CommandLine) (command : Command) (base : Base) (script : Job) → IsBase line.marks base → HasScript o command base script → has_threads script.items ≡ true → IsJob script × IsBaseOf (config_of line.marks script.nodes script.swaps) base
asked_by o line Run base script is_base (none, reads) threads = script_is line base script o is_base (subst (λ (b : Base). ReadsScript o b script) (sym none) reads)
asked_by o line Dump base script is_base (none, reads) threads = script_is line base script o is_base (subst (λ (b : Base). ReadsScript o b script) (sym none) reads)
asked_by o line Load base script is_base (image, is, reads) threads = script_is line base script o is_base (subst (λ (b : Base). ReadsScript o b script) (sym is) reads)
asked_by o line Trace base script is_base (none, reads) threads = script_is line base script o is_base (subst (λ (b : Base). ReadsScript o b script) (sym none) reads)
asked_by o line Queue base script is_base has threads = absurd has
asked_by o line (Work seed calls workers) base script is_base (none, left, is) threads = absurd (threads_drawn seed calls workers (ap (λ (job : Job). has_threads job.items) (sym is) ∙ threads))

pub asked_job : (o : Outside) (waiting : Waiting) → NeedsRun o waiting → IsJob (job_of waiting.script)
asked_job o waiting n = (asked_by o waiting.line waiting.line.command waiting.base (job_of waiting.script) n.asks.is_base n.asks.has_script n.threads).0

pub asked_base : (o : Outside) (waiting : Waiting) → NeedsRun o waiting → IsBaseOf (config_of waiting.line.marks (job_of waiting.script).nodes (job_of waiting.script).swaps) waiting.base
asked_base o waiting n = (asked_by o waiting.line waiting.line.command waiting.base (job_of waiting.script) n.asks.is_base n.asks.has_script n.threads).1

-- the sink has no part in what was asked for
module _ (o : Outside) (mid : Option (List ℕ)) (faults : ℕ) where
  abbrev before : Outside
  before = record o { held_after = mid; write_faults_after = faults }

  reads_still : (base : Base) (script : Job) → ReadsScript before base script → ReadsScript o base script
  reads_still base script reads = record { bytes = reads.bytes; input = record { whole = reads.input.whole; fits = reads.input.fits }; is_script = reads.is_script }

  has_still : (command : Command) (base : Base) (script : Job) → HasScript before command base script → HasScript o command base script
  has_still Run base script (none, reads) = (none, reads_still None script reads)
  has_still Dump base script (none, reads) = (none, reads_still None script reads)
  has_still Load base script (image, is, reads) = (image, is, reads_still (Some image) script reads)
  has_still Trace base script (none, reads) = (none, reads_still None script reads)
  has_still Queue base script has = has
  has_still (Work seed calls workers) base script has = has

  asked_source : (line : CommandLine) (command : Command) (base : Base) (script : Job) → IsCommandLine o.words line → line.command ≡ command → HasScript o command base script → IsReading o.words ⊎ (o.left_after ≡ o.left)
  asked_source line Run base script is e has = inl (line, is, subst Reads (sym e) tt)
  asked_source line Dump base script is e has = inl (line, is, subst Reads (sym e) tt)
  asked_source line Load base script is e has = inl (line, is, subst Reads (sym e) tt)
  asked_source line Trace base script is e has = inl (line, is, subst Reads (sym e) tt)
  asked_source line Queue base script is e has = absurd has
  asked_source line (Work seed calls workers) base script is e (none, left, same) = inr left

  -- a script that was handed back, and then run
  pub ended_threads : (waiting : Waiting) (status : ℕ) (lab : Option WorldView) → NeedsRun before waiting → RanScript waiting.line.command waiting.line.marks waiting.base (job_of waiting.script) (sunk mid o.held_after faults o.write_faults_after) status lab → IsEnded o status lab
  ended_threads waiting status lab n ran =
      let script = job_of waiting.script in
      let has = has_still waiting.line.command waiting.base script n.asks.has_script in
      ended-script o status lab waiting.line waiting.base script (record { command = n.asks.command; is_base = n.asks.is_base; has_script = has })
      (asked_source waiting.line waiting.line.command waiting.base script n.asks.command refl has)
      (subst (λ (held : Option (List ℕ)). RanScript waiting.line.command waiting.line.marks waiting.base script (sunk held o.held_after o.write_faults o.write_faults_after) status lab) n.held
      (subst (λ (f : ℕ). RanScript waiting.line.command waiting.line.marks waiting.base script (sunk mid o.held_after f o.write_faults_after) status lab) n.faults ran))
