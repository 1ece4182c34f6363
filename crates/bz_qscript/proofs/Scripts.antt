-- The first line, and then the later ones.
use Rattle.std.proofs.Common.{◌≡◌, ◌<◌, ℕ, List, [], ◌∷◌, length, drop, get_or, refl, ◌∙◌, Bor, Result, Ok, Err, arith}
use Rattle.bz_script.specs.Order.{at_first}
use Rattle.bz_script.specs.Words.{texts_of, words_in_line}
use Rattle.bz_script.specs.Script.{Fault, IsFault}
use Rattle.bz_qscript.specs.Script.{first_of, items_of, then_job, script_of_lines}
use Rattle.bz_script.specs.declared.fault.ScriptFault.{ScriptFault}
use Rattle.bz_script.specs.declared.fault.ScriptRule.{ScriptRule}
use Rattle.bz_script.specs.declared.fault.ScriptFault.TheVariants.{Rule, Memory}
use Rattle.bz_qscript.specs.declared.forms.QSizes.{QSizes}
use Rattle.bz_qscript.specs.declared.item.QItem.{QItem}

-- where a further part follows, the first line is read and then the later ones
two_parts : (parts : List (Bor (List ℕ))) (d : Bor (List ℕ)) → 1 < length parts
    → script_of_lines (texts_of parts) ≡ then_job (first_of (words_in_line (get_or parts 0 d).now)) (items_of 2 at_first (texts_of (drop 1 parts)))
two_parts [] d h = absurd (omega arith)
two_parts (line ∷ []) d h = absurd (omega arith)
two_parts (line ∷ next ∷ lines) d h = refl

-- a first line that breaks a rule
pub first_fault : (parts : List (Bor (List ℕ))) (d : Bor (List ℕ)) (rule : ScriptRule) → 1 < length parts → first_of (words_in_line (get_or parts 0 d).now) ≡ Err rule
    → script_of_lines (texts_of parts) ≡ Err (record { line = 1; rule = rule })
first_fault parts d rule more read = two_parts parts d more ∙ rw read refl

-- a first line that breaks none
pub first_read : (parts : List (Bor (List ℕ))) (d : Bor (List ℕ)) (sizes : QSizes) → 1 < length parts → first_of (words_in_line (get_or parts 0 d).now) ≡ Ok sizes
    → script_of_lines (texts_of parts) ≡ then_job (Ok sizes) (items_of 2 at_first (texts_of (drop 1 parts)))
first_read parts d sizes more read = two_parts parts d more ∙ rw read refl

-- a fault of the later lines is that of the script, where the first line breaks no rule
pub fault_behind : (sizes : QSizes) (found : Result (List QItem) Fault) (fault : ScriptFault) → IsFault found fault → IsFault (then_job (Ok sizes) found) fault
fault_behind sizes found (Rule line rule) is = rw is refl
fault_behind sizes found Memory is = is
