-- How `load` ends where it runs no script.
use Rattle.std.proofs.Common.{◌≡◌, ◌≢◌, ◌⊎◌, ◌∙◌, inl, inr, ℕ, List, refl, subst}
use Rattle.std.specs.Prelude.{Option, Some, None, codes, slice_index}
use Rattle.std.specs.Io.KnownBytes.{Consumes}
use Rattle.bz_content.specs.declared.outcomes.CheckError.{CheckError}
use Rattle.bz_content.specs.declared.outcomes.CheckError.TheVariants.{Shape}
use Rattle.bz_image.specs.Fetches.{GaveFault}
use Rattle.bz_image.specs.Form.{file_of_image, IsSized}
use Rattle.bz_image.specs.declared.fault.ImageFault.{ImageFault}
use Rattle.bz_image.specs.declared.fault.ImageFault.TheVariants.{Short, Magic, Version, Sizes, Long, Memory}
use Rattle.bz_image.specs.declared.image.Image.{Image}
use Rattle.bz_judge.specs.Judgement.{IsFirstFault}
use Rattle.bz_layout.specs.declared.config.Config.{Config}
use Rattle.bz_tree.specs.declared.rule.ShapeFault.{ShapeFault}
use Rattle.bz_cli.specs.CommandLine.{IsCommandLine}
use Rattle.bz_cli.specs.declared.command.Command.{Command}
use Rattle.bz_cli.specs.declared.command.Command.TheVariants.{Load}
use Rattle.bz_cli.specs.declared.command.CommandLine.{CommandLine}
use Rattle.bz_sched.specs.FromWorld.WorldView.{WorldView}
use Rattle.bz_top.specs.Bases.{ReadsOver}
use Rattle.bz_top.specs.Commands.{config_of}
use Rattle.bz_top.specs.Endings.{Outside, IsLoad, IsReading, IsEnded}
use Rattle.bz_top.specs.Faults.{fault_line, image_text, shape_text}
use Rattle.bz_top.specs.Parts.{sunk, SaysOrWants}
use Rattle.bz_top.proofs.EndLemmas.{ended_early}
use Rattle.bz_top.proofs.StatusLemmas.{Said, is_no_image, is_misshapen}

known_or_not : (fault : ImageFault) → (fault ≡ Memory) ⊎ (fault ≢ Memory)
known_or_not Short = inr (λ e. absurd cc)
known_or_not Magic = inr (λ e. absurd cc)
known_or_not Version = inr (λ e. absurd cc)
known_or_not Sizes = inr (λ e. absurd cc)
known_or_not Long = inr (λ e. absurd cc)
known_or_not Memory = inl refl

-- `load` reads a script behind an image
pub load_reads_over : (command : Command) (image : Image) → command ≡ Load → ReadsOver command (Some image)
load_reads_over command image is = rw is (image, refl)

pub load_reading : (words : List (List ℕ)) (line : CommandLine) → IsCommandLine words line → line.command ≡ Load → IsReading words
load_reading words line command is = (line, command, rw is tt)

module _ (o : Outside) (status : ℕ) (lab : Option WorldView) (line : CommandLine) (command : IsCommandLine o.words line) (is : line.command ≡ Load) (none : lab ≡ None) where
  is-load : IsLoad o.words line.marks
  is-load = subst (λ (c : Command). IsCommandLine o.words (record { command = c; marks = line.marks })) is command

  reading : IsReading o.words
  reading = load_reading o.words line command is

  pub ended-fetch : (fault told : ImageFault) → told ≡ fault → (fault ≢ Memory → GaveFault o.left o.left_after fault) → (told ≡ Memory → Said o 7 (fault_line (codes "memory")) status)
      → (told ≢ Memory → Said o 6 (fault_line (image_text told)) status) → IsEnded o status lab
  ended-fetch fault told same gave wants said = elim (known_or_not told) [
    | inl memory ↦ ended_early o status lab (inl reading) none (wants memory)
    | inr known ↦
        is_no_image o status lab _
        (record { marks = line.marks; command = is-load; fault = told; gave = rw same (gave (λ memory. known (same ∙ memory))); no_lab = none; writes = refl }) (said known)
  ]

  pub ended-misshapen : (image : Image) → IsSized image → Consumes o.left o.left_after (file_of_image image) → (config : Config) (words : List ℕ) (error : CheckError) (fault told : ShapeFault) → told ≡ fault → error ≡ Shape fault
      → config ≡ config_of line.marks image.nodes image.swaps → words ≡ image.words → IsFirstFault config (slice_index words) error
      → SaysOrWants (sunk o.held o.held_after o.write_faults o.write_faults_after) 6 (fault_line (shape_text told)) status → IsEnded o status lab
  ended-misshapen image sized given config words error fault told same is-shape sizes all first says = elim says [
    | inl said ↦
        is_misshapen o status lab _
        (record { marks = line.marks; command = is-load; image = image; sized = sized; given = given; fault = told; is_fault = rw same (rw (is-shape, sizes, all) at first); no_lab = none; writes = refl })
        said
    | inr said ↦ ended_early o status lab (inl reading) none said
  ]
