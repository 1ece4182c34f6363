-- The first line, and then the later ones.
use Rattle.std.proofs.Common.{◌≡◌, ◌≤◌, ◌<◌, ℕ, ◌+◌, List, [], ◌∷◌, length, drop, get_or, refl, sym, ap, ◌∙◌, Bool, Bor, Option, Result, Ok, Err, arith}
use Rattle.std.specs.List.{slice_split}
use Rattle.std.proofs.lemmas.List.{length-map}
use Rattle.std.proofs.lemmas.List.Splits.{length-slice_split}
use Rattle.std.proofs.lemmas.List.Sums.{count_by-le-length}
use Rattle.bz_script.specs.Order.{at_first}
use Rattle.bz_script.specs.Words.{texts_of, words_in_line}
use Rattle.bz_script.specs.Script.{Fault, IsFault, first_of, items_of, then_job, script_of_lines}
use Rattle.bz_script.specs.declared.fault.ScriptFault.{ScriptFault}
use Rattle.bz_script.specs.declared.fault.ScriptRule.{ScriptRule}
use Rattle.bz_script.specs.declared.fault.ScriptFault.TheVariants.{Rule, Memory}
use Rattle.bz_script.specs.declared.forms.Sizes.{Sizes}
use Rattle.bz_script.specs.declared.item.Item.{Item}

-- there is a part, and at most one more than there are bytes
pub record IsCounted (parts : List (Bor (List ℕ))) (bytes : List ℕ) : Type 0 where
  pub some : 0 < length parts
  pub fits : length parts ≤ length bytes + 1

pub parts_counted : (p : ℕ → Bool) (parts : List (Bor (List ℕ))) (bytes : List ℕ) → texts_of parts ≡ slice_split p bytes → IsCounted parts bytes
parts_counted p parts bytes same =
    let count = ap length same ∙ length-slice_split p bytes in
    let counted = sym (length-map parts (λ part. part.now)) ∙ count in
    let below = count_by-le-length p bytes in
    record { some = omega arith; fits = omega arith }

-- where a further part follows, the first line is read and then the later ones
two_parts : (image : Option (ℕ × ℕ)) (parts : List (Bor (List ℕ))) (d : Bor (List ℕ)) → 1 < length parts
    → script_of_lines image (texts_of parts) ≡ then_job (first_of image (words_in_line (get_or parts 0 d).now)) (items_of 2 at_first (texts_of (drop 1 parts)))
two_parts image [] d h = absurd (omega arith)
two_parts image (line ∷ []) d h = absurd (omega arith)
two_parts image (line ∷ next ∷ lines) d h = refl

-- a first line that breaks a rule
pub first_fault : (image : Option (ℕ × ℕ)) (parts : List (Bor (List ℕ))) (d : Bor (List ℕ)) (rule : ScriptRule) → 1 < length parts → first_of image (words_in_line (get_or parts 0 d).now) ≡ Err rule
    → script_of_lines image (texts_of parts) ≡ Err (record { line = 1; rule = rule })
first_fault image parts d rule more read = two_parts image parts d more ∙ rw read refl

-- a first line that breaks none
pub first_read : (image : Option (ℕ × ℕ)) (parts : List (Bor (List ℕ))) (d : Bor (List ℕ)) (sizes : Sizes) → 1 < length parts → first_of image (words_in_line (get_or parts 0 d).now) ≡ Ok sizes
    → script_of_lines image (texts_of parts) ≡ then_job (Ok sizes) (items_of 2 at_first (texts_of (drop 1 parts)))
first_read image parts d sizes more read = two_parts image parts d more ∙ rw read refl

-- a fault of the later lines is that of the script, where the first line breaks no rule
pub fault_behind : (sizes : Sizes) (found : Result (List Item) Fault) (fault : ScriptFault) → IsFault found fault → IsFault (then_job (Ok sizes) found) fault
fault_behind sizes found (Rule line rule) is = rw is refl
fault_behind sizes found Memory is = is
