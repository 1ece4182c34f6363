-- The forms of a line, from its words, and the first rule that a line breaks by itself.
use Rattle.std.specs.Prelude.{ℕ, ◌-◌, ◌^◌, ◌==◌, nat_lt, if◌then◌else◌, List, length, codes, Option, Some, None, Result, Ok, Err}
use Rattle.bz_layout.specs.declared.limits.TheConstants.{MAX_CAPACITY, MAX_SWAPS}
use Rattle.bz_ring.specs.declared.calls.QCall.{QCall}
use Rattle.bz_ring.specs.declared.calls.QCall.TheVariants.{Put, Take}
use Rattle.bz_script.specs.Number.{number_of, within, worker_of}
use Rattle.bz_script.specs.PowerForms.{cut_of, is_power}
use Rattle.bz_script.specs.RunForms.{is_alone, list_turns}
use Rattle.bz_script.specs.Words.{word, is_word}
use Rattle.bz_script.specs.declared.cut_plan.CutPlan.{CutPlan}
use Rattle.bz_script.specs.declared.fault.ScriptRule.{ScriptRule}
use Rattle.bz_script.specs.declared.fault.ScriptRule.TheVariants.{Unknown, Words, Number, Worker}
use Rattle.bz_script.specs.declared.turn_list.Turn.{Turn}
use Rattle.bz_qscript.specs.declared.forms.QLine.{QLine}
use Rattle.bz_qscript.specs.declared.forms.QLine.TheVariants.{Memory, Entry}
use Rattle.bz_qscript.specs.declared.forms.QSizes.{QSizes}
use Rattle.bz_qscript.specs.declared.item.QItem.{QItem}
use Rattle.bz_qscript.specs.declared.item.QItem.TheVariants.{Queue, Arm, Run, Power}
use Rattle.bz_qscript.specs.declared.item.QPlan.TheVariants.{Alone, List as Listed}

-- the numbers of a `memory` line, looked at from left to right
abbrev pub sizes_by : Option ℕ → Option ℕ → Result QSizes ScriptRule
sizes_by None swaps = Err Number
sizes_by (Some capacity) None = Err Number
sizes_by (Some capacity) (Some swaps) = Ok (record { capacity = capacity; swaps = swaps })

-- `memory CAP SWAPS`
abbrev pub memory_of : List (List ℕ) → Result QSizes ScriptRule
memory_of words =
    if length words == 3
    then sizes_by (within 1 MAX_CAPACITY (number_of (word words 1))) (within 1 MAX_SWAPS (number_of (word words 2)))
    else Err Words

-- the number that a put takes
abbrev pub item_number : List ℕ → Option ℕ
item_number text = within 0 (2 ^ 60 - 1) (number_of text)

-- the worker and the number of a put, looked at from left to right
abbrev pub put_by : Option ℕ → Option ℕ → Result QItem ScriptRule
put_by None number = Err Worker
put_by (Some w) None = Err Number
put_by (Some w) (Some number) = Ok (Queue w (Put number))

-- `w N put X`
abbrev pub put_of : List (List ℕ) → Result QItem ScriptRule
put_of words = if length words == 4 then put_by (worker_of (word words 1)) (item_number (word words 3)) else Err Words

-- the worker of a take
abbrev pub take_by : Option ℕ → Result QItem ScriptRule
take_by None = Err Worker
take_by (Some w) = Ok (Queue w Take)

-- `w N take`
abbrev pub take_of : List (List ℕ) → Result QItem ScriptRule
take_of words = if length words == 3 then take_by (worker_of (word words 1)) else Err Words

-- a line that begins with `w`, by its third word
abbrev pub call_of : List (List ℕ) → Result QItem ScriptRule
call_of words =
    if nat_lt (length words) 3 then Err Words
    else (if is_word words 2 (codes "put") then put_of words
    else (if is_word words 2 (codes "take") then take_of words
    else Err Unknown))

-- `run alone`
abbrev pub alone_of : List (List ℕ) → Result QItem ScriptRule
alone_of words = if is_alone words then Ok (Run Alone) else Err Words

-- a run by these turns, once they were read
abbrev pub listed : Result (List Turn) ScriptRule → Result QItem ScriptRule
listed (Err rule) = Err rule
listed (Ok turns) = Ok (Run (Listed turns))

-- `run list T T T`
abbrev pub list_of : List (List ℕ) → Result QItem ScriptRule
list_of words = listed (list_turns words)

-- a line that begins with `run`, by its second word
abbrev pub run_of : List (List ℕ) → Result QItem ScriptRule
run_of words =
    if nat_lt (length words) 2 then Err Words
    else (if is_word words 1 (codes "alone") then alone_of words
    else (if is_word words 1 (codes "list") then list_of words
    else Err Unknown))

-- the item of a cut, once it was read
abbrev pub armed : Result CutPlan ScriptRule → Result QItem ScriptRule
armed (Err rule) = Err rule
armed (Ok cut) = Ok (Arm cut)

-- `cut FENCE SEED`
abbrev pub cut_item_of : List (List ℕ) → Result QItem ScriptRule
cut_item_of words = armed (cut_of words)

-- `power`
abbrev pub power_of : List (List ℕ) → Result QItem ScriptRule
power_of words = if is_power words then Ok Power else Err Words

-- a `memory` line, once it was read
abbrev pub sized : Result QSizes ScriptRule → Result QLine ScriptRule
sized (Err rule) = Err rule
sized (Ok sizes) = Ok (Memory sizes)

-- any other line, once it was read
abbrev pub entered : Result QItem ScriptRule → Result QLine ScriptRule
entered (Err rule) = Err rule
entered (Ok item) = Ok (Entry item)

-- any line, by its first word
abbrev pub line_of : List (List ℕ) → Result QLine ScriptRule
line_of words =
    if is_word words 0 (codes "memory") then sized (memory_of words)
    else (if is_word words 0 (codes "w") then entered (call_of words)
    else (if is_word words 0 (codes "run") then entered (run_of words)
    else (if is_word words 0 (codes "cut") then entered (cut_item_of words)
    else (if is_word words 0 (codes "power") then entered (power_of words)
    else Err Unknown))))
