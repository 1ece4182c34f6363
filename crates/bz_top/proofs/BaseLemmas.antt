-- What is known of the memory that a script runs over.
use Rattle.std.proofs.Common.{◌≡◌, ◌≢◌, ◌≤◌, ℕ, Bool, true, false, List, [], ◌∷◌, length, refl, sym, ap, subst, ◌∙◌, arith, Option, Some, None, ◌==◌}
use Rattle.std.specs.Prelude.{Result, Ok, Err, if◌then◌else◌, ◌&&◌, codes}
use Rattle.std.proofs.lemmas.Bool.Decides.{nat_tests}
use Rattle.bz_image.specs.Form.{IsSized}
use Rattle.bz_image.specs.declared.image.Image.{Image}
use Rattle.bz_judge.specs.Held.{IsImageOf}
use Rattle.bz_layout.specs.Addresses.{words_of as size_of}
use Rattle.bz_layout.specs.Config.{IsConfig, IsFirstOutOfRange}
use Rattle.bz_layout.specs.declared.config.Config.{Config}
use Rattle.bz_layout.specs.declared.error.ConfigError.{ConfigError}
use Rattle.bz_layout.specs.declared.error.ConfigError.TheVariants.{Nodes, Swaps, Workers, Marks, Calls, Pages}
use Rattle.bz_layout.specs.declared.limits.TheConstants.{MIN_NODES, MAX_NODES, MIN_SWAPS, MAX_SWAPS, MIN_MARKS, MAX_MARKS}
use Rattle.bz_script.specs.Forms.{memory_of}
use Rattle.bz_script.specs.Order.{at_first}
use Rattle.bz_script.specs.Script.{Job, Fault, IsFault, same_as, first_of, items_of, then_job, script_of_lines, script_of}
use Rattle.bz_script.specs.Words.{is_word, lines_of, words_in_line}
use Rattle.bz_script.specs.declared.fault.ScriptFault.{ScriptFault}
use Rattle.bz_script.specs.declared.fault.ScriptFault.TheVariants.{Rule}
use Rattle.bz_script.specs.declared.fault.ScriptRule.{ScriptRule}
use Rattle.bz_script.specs.declared.fault.ScriptRule.TheVariants.{Number, NoMemoryLine}
use Rattle.bz_script.specs.declared.item.Item.{Item}
use Rattle.bz_sched.specs.Runs.{Stays}
use Rattle.bz_mark.specs.declared.power.Power.TheVariants as power
use Rattle.bz_sched.specs.FromWorld.WorldView.{WorldView, view_over, image_view}
use Rattle.bz_top.specs.Bases.{Base, power_over, words_over, numbers_over, IsBase, IsBaseOf}
use Rattle.bz_top.specs.Commands.{config_of}
use Rattle.bz_top.specs.Endings.{IsMadeFor}
use Rattle.bz_top.specs.Faults.{fault_line, broken_text}
use Rattle.bz_top.specs.Parts.{Sunk, SaysOrWants, Refuses}

same_number : (a b : ℕ) → (a == b) ≡ true → a ≡ b
same_number a b e = grind (arith, nat_tests)

same_job : (n s : ℕ) (items : List Item) (job : Job) → ◌≡◌ {A = Result Job Fault} (Ok (record { nodes = n; swaps = s; items = items })) (Ok job) → (job.nodes ≡ n) × (job.swaps ≡ s)
same_job n s items job is =
    let same : ◌≡◌ {A = Job} (record { nodes = n; swaps = s; items = items }) job = cc in
    (ap (λ (j : Job). j.nodes) (sym same), ap (λ (j : Job). j.swaps) (sym same))

-- sizes that go on only where they are an image's
chosen : {S : Type 0} (found : S) (n s : S → ℕ) (rule : ScriptRule) (image : ℕ × ℕ) (goes : Result S ScriptRule → Result Job Fault) (job : Job)
    → (goes (Ok found) ≡ Ok job → (job.nodes ≡ n found) × (job.swaps ≡ s found)) → ¬ (goes (Err rule) ≡ Ok job)
    → goes (if (n found == image.0) && (s found == image.1) then Ok found else Err rule) ≡ Ok job → (job.nodes ≡ image.0) × (job.swaps ≡ image.1)
chosen {S} found n s rule image goes job good bad is = by (n found == image.0) (s found == image.1) refl refl is
  where
    by : (b c : Bool) → (n found == image.0) ≡ b → (s found == image.1) ≡ c → goes (if b && c then Ok found else Err rule) ≡ Ok job → (job.nodes ≡ image.0) × (job.swaps ≡ image.1)
    by true true e f is = let made = good is in (made.0 ∙ same_number (n found) image.0 e, made.1 ∙ same_number (s found) image.1 f)
    by true false e f is = absurd (bad is)
    by false c e f is = absurd (bad is)

lines_numbers : (image : ℕ × ℕ) (lines : List (List ℕ)) (job : Job) → script_of_lines (Some image) lines ≡ Ok job → (job.nodes ≡ image.0) × (job.swaps ≡ image.1)
lines_numbers image [] job is = absurd cc
lines_numbers image (bytes ∷ []) job is = absurd cc
lines_numbers image (line ∷ next ∷ lines) job is =
    let rest : Result (List Item) Fault = items_of 2 at_first (next ∷ lines) in
    let first : then_job (first_of (Some image) (words_in_line line)) rest ≡ Ok job → (job.nodes ≡ image.0) × (job.swaps ≡ image.1) =
    elim (is_word (words_in_line line) 0 (codes "memory")) as (λ b. then_job (if b then same_as (Some image) (memory_of (words_in_line line)) else Err NoMemoryLine) rest ≡ Ok job → (job.nodes ≡ image.0) × (job.swaps ≡ image.1)) [
      | true ↦ elim (memory_of (words_in_line line)) as (λ found. then_job (same_as (Some image) found) rest ≡ Ok job → (job.nodes ≡ image.0) × (job.swaps ≡ image.1)) [
        | Ok sizes ↦ λ made. chosen sizes (λ x. x.nodes) (λ x. x.swaps) Number image (λ r. then_job r rest) job
            (elim rest as (λ r. then_job (Ok sizes) r ≡ Ok job → (job.nodes ≡ sizes.nodes) × (job.swaps ≡ sizes.swaps)) [
              | Ok items ↦ λ is. same_job sizes.nodes sizes.swaps items job is
              | Err fault ↦ λ is. absurd cc
            ])
            (λ bad. absurd cc) made
        | Err rule ↦ λ made. absurd cc
      ]
      | false ↦ λ made. absurd cc
    ] in
    first is

-- the script of an image has its numbers
script_numbers : (image : ℕ × ℕ) (bytes : List ℕ) (job : Job) → script_of (Some image) bytes ≡ Ok job → (job.nodes ≡ image.0) × (job.swaps ≡ image.1)
script_numbers image bytes job is = lines_numbers image (lines_of bytes) job is

-- and so a world of the script may run over it
pub base_of_script : (marks : ℕ) (base : Base) (bytes : List ℕ) (job : Job) → IsBase marks base → script_of (numbers_over base) bytes ≡ Ok job → IsBaseOf (config_of marks job.nodes job.swaps) base
base_of_script marks None bytes job is script = tt
base_of_script marks (Some image) bytes job is script =
    let numbers = script_numbers (image.nodes, image.swaps) bytes job script in
    subst (λ (n : ℕ). IsImageOf (config_of marks n job.swaps) image.words) (sym numbers.0) (subst (λ (n : ℕ). IsImageOf (config_of marks image.nodes n) image.words) (sym numbers.1) is)

-- the numbers of a world are in their ranges
pub config_ok : (marks nodes swaps : ℕ) → MIN_MARKS ≤ marks → marks ≤ MAX_MARKS → MIN_NODES ≤ nodes → nodes ≤ MAX_NODES → MIN_SWAPS ≤ swaps → swaps ≤ MAX_SWAPS → IsConfig (config_of marks nodes swaps)
config_ok marks nodes swaps m m' n n' s s' = record {
  nodes_in_range = record { at_least = n; at_most = n' };
  swaps_in_range = record { at_least = s; at_most = s' };
  workers_in_range = record { at_least = omega arith; at_most = omega arith };
  marks_in_range = record { at_least = m; at_most = m' };
  calls_in_range = record { at_least = omega arith; at_most = omega arith };
  pages_in_range = record { at_least = omega arith; at_most = omega arith };
}

-- those of an image that was fetched are, and it has the words of such a memory
pub fetched_config : (marks : ℕ) (image : Image) → MIN_MARKS ≤ marks → marks ≤ MAX_MARKS → IsSized image → IsConfig (config_of marks image.nodes image.swaps)
fetched_config marks image m m' sized = config_ok marks image.nodes image.swaps m m' sized.sizes.some_nodes sized.sizes.nodes_fit sized.sizes.some_swaps sized.sizes.swaps_fit

pub fetched_words : (marks : ℕ) (image : Image) → IsSized image → length image.words ≡ size_of (config_of marks image.nodes image.swaps)
fetched_words marks image sized = omega (arith, sized.counted)

-- numbers in their ranges are not refused
pub none_out : (config : Config) (error : ConfigError) → IsConfig config → ¬ IsFirstOutOfRange config error
none_out config Nodes is out = out.this is.nodes_in_range
none_out config Swaps is out = out.this is.swaps_in_range
none_out config Workers is out = out.this is.workers_in_range
none_out config Marks is out = out.this is.marks_in_range
none_out config Calls is out = out.this is.calls_in_range
none_out config Pages is out = out.this is.pages_in_range

-- a world that was booted on an image
pub booted_over : (config : Config) (base : Base) (image : Image) (words : List ℕ) (world : WorldView) → base ≡ Some image → words ≡ image.words → world ≡ image_view config words → world ≡ view_over config (words_over config base) (power_over base)
booted_over config base image words world is same booted = rw is (rw same at booted)

pub booted_image : (config : Config) (base : Base) (image : Image) (words : List ℕ) (world : WorldView) → base ≡ Some image → words ≡ image.words → IsBaseOf config base → world ≡ image_view config words → IsImageOf world.config world.log.start
booted_image config base image words world is same right booted = rw (booted, same) (rw is at right)

pub not_recovering : (base : Base) → power_over base ≢ power.Recovering
not_recovering None is = absurd cc
not_recovering (Some image) is = absurd cc

-- a world that was opened for a script
pub made_for : (marks : ℕ) (base : Base) (job : Job) (config : Config) (world : WorldView) → config ≡ config_of marks job.nodes job.swaps → world ≡ view_over config (words_over config base) (power_over base) → IsMadeFor marks base job world
made_for marks base job config world e is = rw (is, e) (record { config = refl; at_start = refl; start = refl; limits = refl })

-- is still one of the script when it has gone on
pub made_still : (marks : ℕ) (base : Base) (job : Job) (old new : WorldView) → IsMadeFor marks base job old → Stays old new → IsMadeFor marks base job new
made_still marks base job old new made on = record {
  config = on.config ∙ made.config;
  at_start = on.at_start ∙ made.at_start;
  start = on.start ∙ (made.start ∙ ap (λ (c : Config). words_over c base) (sym on.config));
  limits = on.limits ∙ (made.limits ∙ ap (λ (c : Config). record { marks = c.marks; calls = c.calls; pages = c.pages }) (sym on.config));
}

pub image_still : (old new : WorldView) → IsImageOf old.config old.log.start → Stays old new → IsImageOf new.config new.log.start
image_still old new is on = subst (λ (c : Config). IsImageOf c new.log.start) (sym on.config) (subst (λ (start : List ℕ). IsImageOf old.config start) (sym on.start) is)

-- bytes that the reader of scripts refuses, where it was given these numbers
pub refused_bytes : (base : Base) (bytes : List ℕ) (k : Sunk) (status : ℕ) (lab : Option WorldView) (memory : Option (ℕ × ℕ)) (fault : ScriptFault) (line told : ℕ) (rule named : ScriptRule) → told ≡ line → named ≡ rule → fault ≡ Rule line rule
    → memory ≡ numbers_over base → IsFault (script_of memory bytes) fault → lab ≡ None → SaysOrWants k 3 (fault_line (broken_text told named)) status → Refuses base bytes k status lab
refused_bytes base bytes k status lab memory fault line told rule named same alike is numbers found none said = record {
  line = told;
  rule = named;
  is_fault = rw (same, alike) (rw (is, numbers) at found);
  no_lab = none;
  said = said;
}
