-- The forms of a line that runs calls, and the turn words of a list.
use Rattle.std.specs.Prelude.{ℕ, ◌+◌, ◌==◌, nat_lt, if◌then◌else◌, Bool, List, [], ◌∷◌, length, take, drop, codes, Option, Some, None, Result, Ok, Err}
use Rattle.std.specs.List.{position}
use Rattle.bz_script.specs.Number.{number_of, within, worker_of}
use Rattle.bz_script.specs.Words.{word, is_word}
use Rattle.bz_script.specs.declared.fault.ScriptRule.{ScriptRule}
use Rattle.bz_script.specs.declared.fault.ScriptRule.TheVariants.{Unknown, Words, Number, Worker}
use Rattle.bz_script.specs.declared.item.Item.{Item}
use Rattle.bz_script.specs.declared.item.Item.TheVariants.{Run}
use Rattle.bz_script.specs.declared.item.Plan.TheVariants.{Alone, List as Listed, Turns, Threads}
use Rattle.bz_script.specs.declared.turn_list.Turn.{Turn}
use Rattle.bz_script.specs.declared.turn_list.Turn.TheVariants.{Times}

-- the place of the first star of a word
abbrev pub first_star : List ℕ → Option ℕ
first_star text = position (λ b. b == 42) text

-- the worker and the number of turns, looked at from left to right
abbrev pub times_by : Option ℕ → Option ℕ → Result Turn ScriptRule
times_by None count = Err Worker
times_by (Some w) None = Err Number
times_by (Some w) (Some count) = Ok (Times w count)

-- how many turns a word gives
abbrev pub count_of : List ℕ → Option ℕ
count_of text = within 1 65536 (number_of text)

-- a turn word, by its first star: `N`, or `N*K`
abbrev pub turn_at : List ℕ → Option ℕ → Result Turn ScriptRule
turn_at text None = times_by (worker_of text) (Some 1)
turn_at text (Some star) = times_by (worker_of (take star text)) (count_of (drop (star + 1) text))

-- the turns that a turn word gives
abbrev pub turn_of : List ℕ → Result Turn ScriptRule
turn_of text = turn_at text (first_star text)

-- the fault of this word, or else what the words behind it give
abbrev pub then_turns : Result Turn ScriptRule → Result (List Turn) ScriptRule → Result (List Turn) ScriptRule
then_turns (Err rule) rest = Err rule
then_turns (Ok turn) (Err rule) = Err rule
then_turns (Ok turn) (Ok turns) = Ok (turn ∷ turns)

-- turn words, looked at from left to right
abbrev pub turns_of : List (List ℕ) → Result (List Turn) ScriptRule
turns_of [] = Ok []
turns_of (text ∷ words) = then_turns (turn_of text) (turns_of words)

-- a run by these turns, once they were read
abbrev pub listed : Result (List Turn) ScriptRule → Result Item ScriptRule
listed (Err rule) = Err rule
listed (Ok turns) = Ok (Run (Listed turns))

-- a run by the generator, once its seed was read
abbrev pub drawn : Option ℕ → Result Item ScriptRule
drawn None = Err Number
drawn (Some seed) = Ok (Run (Turns seed))

-- `run alone`: no word follows
abbrev pub is_alone : List (List ℕ) → Bool
is_alone words = length words == 2

abbrev pub alone_of : List (List ℕ) → Result Item ScriptRule
alone_of words = if is_alone words then Ok (Run Alone) else Err Words

-- the turns of `run list T T T`, of at least one turn word
abbrev pub list_turns : List (List ℕ) → Result (List Turn) ScriptRule
list_turns words = if nat_lt (length words) 3 then Err Words else turns_of (drop 2 words)

-- `run list T T T`
abbrev pub list_of : List (List ℕ) → Result Item ScriptRule
list_of words = listed (list_turns words)

-- `run turns SEED`
abbrev pub drawn_of : List (List ℕ) → Result Item ScriptRule
drawn_of words = if length words == 3 then drawn (number_of (word words 2)) else Err Words

-- `run threads`
abbrev pub threads_of : List (List ℕ) → Result Item ScriptRule
threads_of words = if length words == 2 then Ok (Run Threads) else Err Words

-- a line that begins with `run`, by its second word
abbrev pub run_of : List (List ℕ) → Result Item ScriptRule
run_of words =
    if nat_lt (length words) 2 then Err Words
    else (if is_word words 1 (codes "alone") then alone_of words
    else (if is_word words 1 (codes "list") then list_of words
    else (if is_word words 1 (codes "turns") then drawn_of words
    else (if is_word words 1 (codes "threads") then threads_of words
    else Err Unknown))))
