-- What the runs of a script are: the turns of a list are of workers from 1 to 64, and from 1 to 65536 each.
use Rattle.std.proofs.Common.{◌≡◌, ◌≤◌, ℕ, List, [], ◌∷◌, refl, sym, arith, Option, Some, None, ◌==◌}
use Rattle.std.specs.Prelude.{nat_lt, ◌+◌, length, take, drop, codes, Ok, Err, Result}
use Rattle.bz_script.specs.declared.item.Item.{Item}
use Rattle.bz_script.specs.declared.item.Item.TheVariants.{Run}
use Rattle.bz_script.specs.declared.item.Plan.{Plan}
use Rattle.bz_script.specs.declared.item.Plan.TheVariants.{Alone, List as Listed, Turns, Threads}
use Rattle.bz_script.specs.declared.turn_list.Turn.{Turn}
use Rattle.bz_script.specs.declared.turn_list.Turn.TheVariants.{Times}
use Rattle.bz_script.specs.declared.fault.ScriptRule.{ScriptRule}
use Rattle.bz_script.specs.declared.fault.ScriptRule.TheVariants.{Unknown, Words}
use Rattle.bz_script.specs.Number.{number_of, worker_of}
use Rattle.bz_script.specs.RangeLaws.{either_way, in_range}
use Rattle.bz_script.specs.RunForms.{first_star, times_by, count_of, turn_at, turn_of, then_turns, turns_of, listed, list_turns, drawn, alone_of, list_of, drawn_of, threads_of, run_of}
use Rattle.bz_script.specs.Words.{word, is_word}

-- a turn of a script
abbrev pub IsTurn : Turn → Type 0
IsTurn (Times w count) = (1 ≤ w) × (w ≤ 64) × (1 ≤ count) × (count ≤ 65536)

abbrev pub AreTurns : List Turn → Type 0
AreTurns [] = Unit {0}
AreTurns (turn ∷ turns) = IsTurn turn × AreTurns turns

-- a plan of a script
abbrev pub IsPlan : Plan → Type 0
IsPlan Alone = Unit {0}
IsPlan (Listed turns) = AreTurns turns
IsPlan (Turns seed) = Unit {0}
IsPlan Threads = Unit {0}

times_turn : (worker count : Option ℕ) (turn : Turn) → ((w : ℕ) → worker ≡ Some w → (1 ≤ w) × (w ≤ 64)) → ((k : ℕ) → count ≡ Some k → (1 ≤ k) × (k ≤ 65536)) → times_by worker count ≡ Ok turn → IsTurn turn
times_turn None count turn h k is = absurd cc
times_turn (Some w) None turn h k is = absurd cc
times_turn (Some w) (Some count) turn h k is =
    let same : Times w count ≡ turn = cc in
    let few = h w refl in
    let less = k count refl in
    rw (← same) (few.0, few.1, less.0, less.1)

one_turn : (k : ℕ) → ◌≡◌ {A = Option ℕ} (Some 1) (Some k) → (1 ≤ k) × (k ≤ 65536)
one_turn k is = let same : 1 ≡ k = cc in rw (← same) (omega arith, omega arith)

turn_is_at : (text : List ℕ) (star : Option ℕ) (turn : Turn) → turn_at text star ≡ Ok turn → IsTurn turn
turn_is_at text None turn = times_turn (worker_of text) (Some 1) turn (in_range 1 64 (number_of text)) one_turn
turn_is_at text (Some star) turn = times_turn (worker_of (take star text)) (count_of (drop (star + 1) text)) turn (in_range 1 64 (number_of (take star text))) (in_range 1 65536 (number_of (drop (star + 1) text)))

turns_then : (found : Result Turn ScriptRule) (rest : Result (List Turn) ScriptRule) (turns : List Turn) → ((turn : Turn) → found ≡ Ok turn → IsTurn turn)
    → ((more : List Turn) → rest ≡ Ok more → AreTurns more) → then_turns found rest ≡ Ok turns → AreTurns turns
turns_then (Err rule) rest turns h k is = absurd cc
turns_then (Ok turn) (Err rule) turns h k is = absurd cc
turns_then (Ok turn) (Ok more) turns h k is = let same : turn ∷ more ≡ turns = cc in rw (← same) (h turn refl, k more refl)

turns_are : (words : List (List ℕ)) (turns : List Turn) → turns_of words ≡ Ok turns → AreTurns turns
turns_are [] turns is = let same : [] ≡ turns = cc in rw (← same) tt
turns_are (text ∷ words) turns is = turns_then (turn_of text) (turns_of words) turns (turn_is_at text (first_star text)) (turns_are words) is

no_turns : (rule : ScriptRule) (turns : List Turn) → ◌≡◌ {A = Result (List Turn) ScriptRule} (Err rule) (Ok turns) → AreTurns turns
no_turns rule turns is = absurd cc

-- the turns of a line that runs by a list are turns of a script
pub list_turns_are : (words : List (List ℕ)) (turns : List Turn) → list_turns words ≡ Ok turns → AreTurns turns
list_turns_are words turns = either_way AreTurns (nat_lt (length words) 3) (Err Words) (turns_of (drop 2 words)) turns (no_turns Words turns) (turns_are (drop 2 words) turns)

-- an item that is a run of a script
pub record IsRun (item : Item) : Type 0 where
  pub plan : Plan
  pub is : item ≡ Run plan
  pub sound : IsPlan plan

no_run : (rule : ScriptRule) (item : Item) → ◌≡◌ {A = Result Item ScriptRule} (Err rule) (Ok item) → IsRun item
no_run rule item is = absurd cc

some_run : (plan : Plan) (item : Item) → IsPlan plan → ◌≡◌ {A = Result Item ScriptRule} (Ok (Run plan)) (Ok item) → IsRun item
some_run plan item sound is = let same : Run plan ≡ item = cc in record { plan = plan; is = sym same; sound = sound }

listed_run : (found : Result (List Turn) ScriptRule) (item : Item) → ((turns : List Turn) → found ≡ Ok turns → AreTurns turns) → listed found ≡ Ok item → IsRun item
listed_run (Err rule) item h is = absurd cc
listed_run (Ok turns) item h is = some_run (Listed turns) item (h turns refl) is

drawn_run : (seed : Option ℕ) (item : Item) → drawn seed ≡ Ok item → IsRun item
drawn_run None item is = absurd cc
drawn_run (Some seed) item is = some_run (Turns seed) item tt is

-- what is read of a line that begins with `run` is a run of a script
pub run_runs : (words : List (List ℕ)) (item : Item) → run_of words ≡ Ok item → IsRun item
run_runs words item =
    either_way IsRun (nat_lt (length words) 2) (Err Words) _ item (no_run Words item)
    (either_way IsRun (is_word words 1 (codes "alone")) (alone_of words) _ item
    (either_way IsRun (length words == 2) (Ok (Run Alone)) (Err Words) item (some_run Alone item tt) (no_run Words item))
    (either_way IsRun (is_word words 1 (codes "list")) (list_of words) _ item
    (listed_run (list_turns words) item (list_turns_are words))
    (either_way IsRun (is_word words 1 (codes "turns")) (drawn_of words) _ item
    (either_way IsRun (length words == 3) (drawn (number_of (word words 2))) (Err Words) item (drawn_run (number_of (word words 2)) item) (no_run Words item))
    (either_way IsRun (is_word words 1 (codes "threads")) (threads_of words) (Err Unknown) item
    (either_way IsRun (length words == 2) (Ok (Run Threads)) (Err Words) item (some_run Threads item tt) (no_run Words item))
    (no_run Unknown item)))))
