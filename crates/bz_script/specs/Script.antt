-- What bytes are a script, and the first rule that others break.
use Rattle.std.specs.Prelude.{◌≡◌, ℕ, ◌+◌, ◌==◌, ◌&&◌, if◌then◌else◌, List, [], ◌∷◌, codes, Option, Some, None, Result, Ok, Err}
use Rattle.bz_script.specs.Words.{lines_of, words_in_line, is_word}
use Rattle.bz_script.specs.Forms.{memory_of, line_of}
use Rattle.bz_script.specs.Order.{at_first, may_stand, after}
use Rattle.bz_script.specs.declared.fault.ScriptRule.{ScriptRule}
use Rattle.bz_script.specs.declared.fault.ScriptRule.TheVariants.{NoMemoryLine, Number, Order, NoEnd}
use Rattle.bz_script.specs.declared.fault.ScriptFault.{ScriptFault}
use Rattle.bz_script.specs.declared.fault.ScriptFault.TheVariants.{Rule, Memory as NoMemory}
use Rattle.bz_script.specs.declared.forms.Line.{Line}
use Rattle.bz_script.specs.declared.forms.Line.TheVariants.{Memory, Entry}
use Rattle.bz_script.specs.declared.forms.Sizes.{Sizes}
use Rattle.bz_script.specs.declared.item.Item.{Item}
use Rattle.bz_script.specs.declared.order.Standing.{Standing}
use Rattle.bz_script.specs.declared.script.Script.{Script}

-- what a script asks for: the sizes of the memory, and one item for each line after the first
pub record Job : Type 0 where
  pub nodes : ℕ
  pub swaps : ℕ
  pub items : List Item

-- a broken rule, and its line, counted from 1
pub record Fault : Type 0 where
  pub line : ℕ
  pub rule : ScriptRule

-- the numbers of the first line are those of the image, where one is given
abbrev pub same_as : Option (ℕ × ℕ) → Result Sizes ScriptRule → Result Sizes ScriptRule
same_as image (Err rule) = Err rule
same_as None (Ok sizes) = Ok sizes
same_as (Some image) (Ok sizes) = if (sizes.nodes == image.0) && (sizes.swaps == image.1) then Ok sizes else Err Number

-- the first line
abbrev pub first_of : Option (ℕ × ℕ) → List (List ℕ) → Result Sizes ScriptRule
first_of image words =
    if is_word words 0 (codes "memory") then same_as image (memory_of words)
    else Err NoMemoryLine

-- Order, which comes last: a later line is no `memory` line, and one that may stand behind the lines before it
abbrev pub in_order : Standing → Result Line ScriptRule → Result Item ScriptRule
in_order standing (Err rule) = Err rule
in_order standing (Ok (Memory sizes)) = Err Order
in_order standing (Ok (Entry item)) = if may_stand standing item then Ok item else Err Order

-- a later line
abbrev pub item_of : Standing → List (List ℕ) → Result Item ScriptRule
item_of standing words = in_order standing (line_of words)

-- what the line leaves for the next one
abbrev pub standing_by : Standing → Result Item ScriptRule → Standing
standing_by standing (Err rule) = standing
standing_by standing (Ok item) = after standing item

-- the fault of this line, or else what the lines behind it give
abbrev pub then_items : ℕ → Result Item ScriptRule → Result (List Item) Fault → Result (List Item) Fault
then_items number (Err rule) rest = Err (record { line = number; rule = rule })
then_items number (Ok item) (Err fault) = Err fault
then_items number (Ok item) (Ok items) = Ok (item ∷ items)

-- the items of later lines, the first of which has this number and stands so; behind the last line feed nothing stands
abbrev pub items_of : ℕ → Standing → List (List ℕ) → Result (List Item) Fault
items_of number standing [] = Ok []
items_of number standing ([] ∷ []) = Ok []
items_of number standing ((b ∷ line) ∷ []) = Err (record { line = number; rule = NoEnd })
items_of number standing (line ∷ next ∷ lines) =
    then_items number (item_of standing (words_in_line line)) (items_of (number + 1) (standing_by standing (item_of standing (words_in_line line))) (next ∷ lines))

-- the fault of the first line, or else the script that it makes with the items
abbrev pub then_job : Result Sizes ScriptRule → Result (List Item) Fault → Result Job Fault
then_job (Err rule) rest = Err (record { line = 1; rule = rule })
then_job (Ok sizes) (Err fault) = Err fault
then_job (Ok sizes) (Ok items) = Ok (record { nodes = sizes.nodes; swaps = sizes.swaps; items = items })

-- the rule that bytes without any line feed break
abbrev pub unended : List ℕ → ScriptRule
unended [] = NoMemoryLine
unended (b ∷ bytes) = NoEnd

-- the script that these parts are. Where a further part follows, the first one has its line feed.
abbrev pub script_of_lines : Option (ℕ × ℕ) → List (List ℕ) → Result Job Fault
script_of_lines image [] = Err (record { line = 1; rule = NoMemoryLine })
script_of_lines image (bytes ∷ []) = Err (record { line = 1; rule = unended bytes })
script_of_lines image (line ∷ next ∷ lines) = then_job (first_of image (words_in_line line)) (items_of 2 at_first (next ∷ lines))

-- the script that the bytes are, or the first rule that they break. Where an image is given, with its
-- numbers of nodes and swaps, the script is for that image.
abbrev pub script_of : Option (ℕ × ℕ) → List ℕ → Result Job Fault
script_of image bytes = script_of_lines image (lines_of bytes)

-- what a script that was read asks for
abbrev pub job_of : Script → Job
job_of script = record { nodes = script.nodes; swaps = script.swaps; items = script.items.items }

-- the fault is the first broken rule; want of memory says nothing of the bytes
abbrev pub IsFault : {Read : Type 0} → Result Read Fault → ScriptFault → Type 0
IsFault found (Rule line rule) = found ≡ Err (record { line = line; rule = rule })
IsFault found NoMemory = Unit {0}
