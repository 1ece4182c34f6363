-- The forms of a line, from its words, and the first rule that a line breaks by itself.
use Rattle.std.specs.Prelude.{ℕ, ◌==◌, nat_lt, if◌then◌else◌, List, length, codes, Option, Some, None, Result, Ok, Err}
use Rattle.bz_key.specs.Spelling.{key_of_word, payload_of_word}
use Rattle.bz_call.specs.declared.calls.Call.{Call}
use Rattle.bz_call.specs.declared.calls.Call.TheVariants.{Insert, Delete, Update, Upsert, Get, Page}
use Rattle.bz_script.specs.Number.{number_of, within, worker_of}
use Rattle.bz_script.specs.PowerForms.{cut_of, armed, power_of}
use Rattle.bz_script.specs.RunForms.{run_of}
use Rattle.bz_script.specs.Words.{word, is_word}
use Rattle.bz_script.specs.declared.fault.ScriptRule.{ScriptRule}
use Rattle.bz_script.specs.declared.fault.ScriptRule.TheVariants.{Unknown, Words, Number, Key, Payload, Worker}
use Rattle.bz_script.specs.declared.forms.Line.{Line}
use Rattle.bz_script.specs.declared.forms.Line.TheVariants.{Memory, Entry}
use Rattle.bz_script.specs.declared.forms.Sizes.{Sizes}
use Rattle.bz_script.specs.declared.item.Item.{Item}
use Rattle.bz_script.specs.declared.item.Item.TheVariants.{Queue}

-- the numbers of a `memory` line, looked at from left to right
abbrev pub sizes_by : Option ℕ → Option ℕ → Result Sizes ScriptRule
sizes_by None swaps = Err Number
sizes_by (Some nodes) None = Err Number
sizes_by (Some nodes) (Some swaps) = Ok (record { nodes = nodes; swaps = swaps })

-- `memory NODES SWAPS`
abbrev pub memory_of : List (List ℕ) → Result Sizes ScriptRule
memory_of words =
    if length words == 3
    then sizes_by (within 1 16384 (number_of (word words 1))) (within 1 65536 (number_of (word words 2)))
    else Err Words

-- the call that a line asks for, once it was read
abbrev pub queued : Result (ℕ × Call) ScriptRule → Result Item ScriptRule
queued (Err rule) = Err rule
queued (Ok called) = Ok (Queue called.0 called.1)

-- the worker, the key and the payload of a call that puts one, looked at from left to right
abbrev pub put_by : (List ℕ → List ℕ → Call) → Option ℕ → Option (List ℕ) → Option (List ℕ) → Result (ℕ × Call) ScriptRule
put_by call None key payload = Err Worker
put_by call (Some w) None payload = Err Key
put_by call (Some w) (Some key) None = Err Payload
put_by call (Some w) (Some key) (Some payload) = Ok (w, call key payload)

-- `w N insert K V`, and likewise `update` and `upsert`
abbrev pub put_of : (List ℕ → List ℕ → Call) → List (List ℕ) → Result Item ScriptRule
put_of call words =
    if length words == 5
    then queued (put_by call (worker_of (word words 1)) (key_of_word (word words 3)) (payload_of_word (word words 4)))
    else Err Words

-- the worker and the key of a call that puts none, looked at from left to right
abbrev pub keyed_by : (List ℕ → Call) → Option ℕ → Option (List ℕ) → Result (ℕ × Call) ScriptRule
keyed_by call None key = Err Worker
keyed_by call (Some w) None = Err Key
keyed_by call (Some w) (Some key) = Ok (w, call key)

-- `w N get K`, and likewise `delete` and `page`
abbrev pub keyed_of : (List ℕ → Call) → List (List ℕ) → Result Item ScriptRule
keyed_of call words =
    if length words == 4
    then queued (keyed_by call (worker_of (word words 1)) (key_of_word (word words 3)))
    else Err Words

-- a line that begins with `w`, by its third word
abbrev pub call_of : List (List ℕ) → Result Item ScriptRule
call_of words =
    if nat_lt (length words) 3 then Err Words
    else (if is_word words 2 (codes "insert") then put_of Insert words
    else (if is_word words 2 (codes "delete") then keyed_of Delete words
    else (if is_word words 2 (codes "update") then put_of Update words
    else (if is_word words 2 (codes "upsert") then put_of Upsert words
    else (if is_word words 2 (codes "get") then keyed_of Get words
    else (if is_word words 2 (codes "page") then keyed_of Page words
    else Err Unknown))))))

-- a `memory` line, once it was read
abbrev pub sized : Result Sizes ScriptRule → Result Line ScriptRule
sized (Err rule) = Err rule
sized (Ok sizes) = Ok (Memory sizes)

-- any other line, once it was read
abbrev pub entered : Result Item ScriptRule → Result Line ScriptRule
entered (Err rule) = Err rule
entered (Ok item) = Ok (Entry item)

-- any line, by its first word
abbrev pub line_of : List (List ℕ) → Result Line ScriptRule
line_of words =
    if is_word words 0 (codes "memory") then sized (memory_of words)
    else (if is_word words 0 (codes "w") then entered (call_of words)
    else (if is_word words 0 (codes "run") then entered (run_of words)
    else (if is_word words 0 (codes "cut") then entered (armed (cut_of words))
    else (if is_word words 0 (codes "power") then entered (power_of words)
    else Err Unknown))))
