-- How the endings of the parts are those of the program.
use Rattle.std.proofs.Common.{◌≡◌, ◌≤◌, ◌⊎◌, inl, inr, ℕ, List, ◌++◌, refl, sym, subst}
use Rattle.std.specs.Prelude.{Option, Some, None, codes}
use Rattle.std.specs.Io.KnownBytes.{Consumes}
use Rattle.bz_io.specs.Faults.{Rose}
use Rattle.bz_io.proofs.Consumed.{consumes_twice}
use Rattle.bz_script.specs.Script.{Job}
use Rattle.bz_cli.specs.CommandLine.{IsCommandLine}
use Rattle.bz_cli.specs.declared.command.Command.{Command}
use Rattle.bz_cli.specs.declared.command.Command.TheVariants.{Run, Dump, Load, Trace, Queue, Work}
use Rattle.bz_cli.specs.declared.command.CommandLine.{CommandLine}
use Rattle.bz_sched.specs.FromWorld.WorldView.{WorldView}
use Rattle.bz_gen.specs.Workload.{workload_of}
use Rattle.bz_top.specs.Bases.{Base, front_over, IsBase, Reads, ReadsOver}
use Rattle.bz_top.specs.Faults.{fault_line, broken_text, limit_text}
use Rattle.bz_top.specs.Endings.{Outside, IsCommand, IsReading, ComesTo, IsInput, ReadsScript, HasScript, Asks, printed, printed_before, IsEnded}
use Rattle.bz_top.specs.Parts.{given, sunk, Wants, RanWorld, RanScript, Refuses, RanBytes, RanSource}
use Rattle.bz_top.proofs.StatusLemmas.{Said, is_done, is_read, is_usage, is_broken, is_too_long, is_limited, is_want}
use Rattle.bz_top.proofs.WriteLemmas.{rose_later}

pub ended_usage : (o : Outside) (status : ℕ) (lab : Option WorldView) → ¬ IsCommand o.words → o.left_after ≡ o.left → lab ≡ None → Said o 2 (fault_line (codes "usage")) status → IsEnded o status lab
ended_usage o status lab words left none said = is_usage o status lab _ (record { no_command = words; left = left; no_lab = none; writes = refl }) said

pub ended_read : (o : Outside) (status : ℕ) (lab : Option WorldView) → IsReading o.words → Rose o.read_faults o.read_faults_after → lab ≡ None → Said o 1 (fault_line (codes "read")) status → IsEnded o status lab
ended_read o status lab words rose none said = is_read o status lab _ (record { command = words; rose = rose; no_lab = none; writes = refl }) said

-- memory was wanting before there was a world
pub ended_early : (o : Outside) (status : ℕ) (lab : Option WorldView) → IsReading o.words ⊎ (o.left_after ≡ o.left) → lab ≡ None → Said o 7 (fault_line (codes "memory")) status → IsEnded o status lab
ended_early o status lab asked none said = is_want o status lab _ (inl (record { no_lab = none; asked = asked; writes = refl })) said

-- the script of a command
module _ (o : Outside) (status : ℕ) (lab : Option WorldView) (line : CommandLine) (base : Base) (script : Job) (asks : Asks o line base script) where
  ended-world : RanWorld line.command line.marks base script (sunk o.held o.held_after o.write_faults o.write_faults_after) status lab → IsEnded o status lab
  ended-world (inl done) =
      is_done o status lab (printed line.command done.world)
      (record { line = line; base = base; script = script; asks = asks; world = done.world; is_lab = done.is_lab; finished = done.finished; writes = refl })
      done.said
  ended-world (inr (inl stopped)) =
      is_limited o status lab (printed_before line.command stopped.world ++ fault_line (limit_text stopped.which))
      (record { line = line; base = base; script = script; asks = asks; world = stopped.world; is_lab = stopped.is_lab; which = stopped.which; cut_short = stopped.cut_short; writes = refl })
      stopped.said
  ended-world (inr (inr gives_up)) =
      is_want o status lab (gives_up.before ++ fault_line (codes "memory"))
      (inr (record { line = line; base = base; script = script; asks = asks; world = gives_up.world; is_lab = gives_up.is_lab; led = gives_up.led; before = gives_up.before; left = gives_up.left; writes = refl }))
      gives_up.said

  pub ended-script : IsReading o.words ⊎ (o.left_after ≡ o.left) → RanScript line.command line.marks base script (sunk o.held o.held_after o.write_faults o.write_faults_after) status lab → IsEnded o status lab
  ended-script asked (inl ran) = ended-world ran
  ended-script asked (inr w) = ended_early o status lab asked w.no_lab w.said

-- a command that reads a script has that script
pub has_script : (o : Outside) (command : Command) (base : Base) (script : Job) → ReadsOver command base → ReadsScript o base script → HasScript o command base script
has_script o Run base script is reads = (is, subst (λ (b : Base). ReadsScript o b script) is reads)
has_script o Dump base script is reads = (is, subst (λ (b : Base). ReadsScript o b script) is reads)
has_script o Load base script (image, is) reads = (image, is, subst (λ (b : Base). ReadsScript o b script) is reads)
has_script o Trace base script is reads = (is, subst (λ (b : Base). ReadsScript o b script) is reads)
has_script o Queue base script is reads = absurd is
has_script o (Work seed calls workers) base script is reads = absurd is

reads_source : (command : Command) (base : Base) → ReadsOver command base → Reads command
reads_source Run base is = tt
reads_source Dump base is = tt
reads_source Load base is = tt
reads_source Trace base is = tt
reads_source Queue base is = absurd is
reads_source (Work seed calls workers) base is = absurd is

-- the source has given what stands before the script, and this becomes of the rest
module _ (o : Outside) (status : ℕ) (lab : Option WorldView) (line : CommandLine) (command : IsCommandLine o.words line) (base : Base) (reads : ReadsOver line.command base) (is_base : IsBase line.marks base)
    (mid : Option (List ℕ)) (faults : ℕ) (front : Consumes o.left mid (front_over base)) (later : o.read_faults ≤ faults) where
  reading : IsReading o.words
  reading = (line, command, reads_source line.command base reads)

  comes : ComesTo o base
  comes = record { line = line; command = command; reads = reads; is_base = is_base }

  wants : Wants (sunk o.held o.held_after o.write_faults o.write_faults_after) status lab → IsEnded o status lab
  wants w = ended_early o status lab (inl reading) w.no_lab w.said

  refused : (bytes : List ℕ) → IsInput o base bytes → Refuses base bytes (sunk o.held o.held_after o.write_faults o.write_faults_after) status lab → IsEnded o status lab
  refused bytes input refuses = elim refuses.said [
    | inl said ↦
        is_broken o status lab (fault_line (broken_text refuses.line refuses.rule))
        (record { base = base; comes = comes; bytes = bytes; input = input; line = refuses.line; rule = refuses.rule; is_fault = refuses.is_fault; no_lab = refuses.no_lab; writes = refl })
        said
    | inr said ↦ wants (record { no_lab = refuses.no_lab; said = said })
  ]

  bytes_ran : (bytes : List ℕ) → IsInput o base bytes → RanBytes line.command line.marks base bytes (sunk o.held o.held_after o.write_faults o.write_faults_after) status lab → IsEnded o status lab
  bytes_ran bytes input (inl runs) =
      ended-script o status lab line base runs.script
      (record { command = command; is_base = is_base; has_script = has_script o line.command base runs.script reads (record { bytes = bytes; input = input; is_script = runs.is_script }) })
      (inl reading) runs.ran
  bytes_ran bytes input (inr (inl refuses)) = refused bytes input refuses
  bytes_ran bytes input (inr (inr w)) = wants w

  pub ended-source : RanSource line.command line.marks base (given mid o.left_after faults o.read_faults_after) (sunk o.held o.held_after o.write_faults o.write_faults_after) status lab → IsEnded o status lab
  ended-source (inl fails) = ended_read o status lab reading (rose_later o.read_faults faults o.read_faults_after later fails.rose) fails.no_lab fails.said
  ended-source (inr (inl over)) =
      is_too_long o status lab _
      (record {
        base = base;
        comes = comes;
        more = record { bytes = over.more.bytes; given = consumes_twice o.left mid o.left_after (front_over base) over.more.bytes front over.more.given; counted = over.more.counted };
        no_lab = over.no_lab;
        writes = refl;
      }) over.said
  ended-source (inr (inr (inl out))) =
      bytes_ran out.bytes
      (record { whole = record { given = consumes_twice o.left mid o.left_after (front_over base) out.bytes front out.whole.given; ended = out.whole.ended }; fits = out.fits })
      out.ran
  ended-source (inr (inr (inr w))) = wants w

-- nothing stands before the script of `run`, `dump` and `trace`
pub none_before : (left : Option (List ℕ)) → Consumes left left (front_over None)
none_before None = tt
none_before (Some bytes) = refl

-- the workload of a seed, for which nothing was read
pub ended-workload : (o : Outside) (status : ℕ) (lab : Option WorldView) (line : CommandLine) (seed calls workers : ℕ) → IsCommandLine o.words line → line.command ≡ Work seed calls workers → o.left_after ≡ o.left
    → RanScript line.command line.marks None (workload_of seed calls workers) (sunk o.held o.held_after o.write_faults o.write_faults_after) status lab → IsEnded o status lab
ended-workload o status lab line seed calls workers command is left ran =
    let has : HasScript o line.command None (workload_of seed calls workers) = subst (λ (c : Command). HasScript o c None (workload_of seed calls workers)) (sym is) (refl, left, refl) in
    ended-script o status lab line None (workload_of seed calls workers) (record { command = command; is_base = tt; has_script = has }) (inr left) ran
