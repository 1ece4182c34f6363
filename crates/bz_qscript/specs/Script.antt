-- What bytes are a queue's script, and the first rule that others break.
use Rattle.std.specs.Prelude.{ℕ, ◌+◌, if◌then◌else◌, true, List, [], ◌∷◌, codes, Result, Ok, Err}
use Rattle.bz_script.specs.Order.{at_first, may_come, after_kind}
use Rattle.bz_script.specs.Script.{Fault, unended}
use Rattle.bz_script.specs.Words.{lines_of, words_in_line, is_word}
use Rattle.bz_script.specs.declared.fault.ScriptRule.{ScriptRule}
use Rattle.bz_script.specs.declared.fault.ScriptRule.TheVariants.{NoMemoryLine, Order, NoEnd}
use Rattle.bz_script.specs.declared.order.LineKind.{LineKind}
use Rattle.bz_script.specs.declared.order.LineKind.TheVariants as kind
use Rattle.bz_script.specs.declared.order.Standing.{Standing}
use Rattle.bz_qscript.specs.Forms.{memory_of, line_of}
use Rattle.bz_qscript.specs.declared.forms.QLine.{QLine}
use Rattle.bz_qscript.specs.declared.forms.QLine.TheVariants.{Memory, Entry}
use Rattle.bz_qscript.specs.declared.forms.QSizes.{QSizes}
use Rattle.bz_qscript.specs.declared.item.QItem.{QItem}
use Rattle.bz_qscript.specs.declared.item.QItem.TheVariants.{Queue, Arm, Run, Power}
use Rattle.bz_qscript.specs.declared.item.QScript.{QScript}

-- what a script asks for: the sizes of the memory, and one item for each line after the first
pub record QJob : Type 0 where
  pub capacity : ℕ
  pub swaps : ℕ
  pub items : List QItem

-- what an item's line is, as far as where it may stand: each run takes a cut
abbrev pub kind_of : QItem → LineKind
kind_of (Queue w call) = kind.Call
kind_of (Arm cut) = kind.Cut
kind_of (Run plan) = kind.Run true
kind_of Power = kind.Power

-- the first line
abbrev pub first_of : List (List ℕ) → Result QSizes ScriptRule
first_of words = if is_word words 0 (codes "memory") then memory_of words else Err NoMemoryLine

-- Order, which comes last: a later line is no `memory` line, and one that may stand behind the lines before it
abbrev pub in_order : Standing → Result QLine ScriptRule → Result QItem ScriptRule
in_order standing (Err rule) = Err rule
in_order standing (Ok (Memory sizes)) = Err Order
in_order standing (Ok (Entry item)) = if may_come standing (kind_of item) then Ok item else Err Order

-- a later line
abbrev pub item_of : Standing → List (List ℕ) → Result QItem ScriptRule
item_of standing words = in_order standing (line_of words)

-- what the line leaves for the next one
abbrev pub standing_by : Standing → Result QItem ScriptRule → Standing
standing_by standing (Err rule) = standing
standing_by standing (Ok item) = after_kind standing (kind_of item)

-- the fault of this line, or else what the lines behind it give
abbrev pub then_items : ℕ → Result QItem ScriptRule → Result (List QItem) Fault → Result (List QItem) Fault
then_items number (Err rule) rest = Err (record { line = number; rule = rule })
then_items number (Ok item) (Err fault) = Err fault
then_items number (Ok item) (Ok items) = Ok (item ∷ items)

-- the items of later lines, the first of which has this number and stands so; behind the last line feed nothing stands
abbrev pub items_of : ℕ → Standing → List (List ℕ) → Result (List QItem) Fault
items_of number standing [] = Ok []
items_of number standing ([] ∷ []) = Ok []
items_of number standing ((b ∷ line) ∷ []) = Err (record { line = number; rule = NoEnd })
items_of number standing (line ∷ next ∷ lines) =
    then_items number (item_of standing (words_in_line line)) (items_of (number + 1) (standing_by standing (item_of standing (words_in_line line))) (next ∷ lines))

-- the fault of the first line, or else the script that it makes with the items
abbrev pub then_job : Result QSizes ScriptRule → Result (List QItem) Fault → Result QJob Fault
then_job (Err rule) rest = Err (record { line = 1; rule = rule })
then_job (Ok sizes) (Err fault) = Err fault
then_job (Ok sizes) (Ok items) = Ok (record { capacity = sizes.capacity; swaps = sizes.swaps; items = items })

-- the script that these parts are. Where a further part follows, the first one has its line feed.
abbrev pub script_of_lines : List (List ℕ) → Result QJob Fault
script_of_lines [] = Err (record { line = 1; rule = NoMemoryLine })
script_of_lines (bytes ∷ []) = Err (record { line = 1; rule = unended bytes })
script_of_lines (line ∷ next ∷ lines) = then_job (first_of (words_in_line line)) (items_of 2 at_first (next ∷ lines))

-- the script that the bytes are, or the first rule that they break
abbrev pub script_of : List ℕ → Result QJob Fault
script_of bytes = script_of_lines (lines_of bytes)

-- what a script that was read asks for
abbrev pub job_of : QScript → QJob
job_of script = record { capacity = script.capacity; swaps = script.swaps; items = script.items.items }
