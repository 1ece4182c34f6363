-- What the parts of a queue's script are.
use Rattle.std.proofs.Common.{◌≡◌, ◌≤◌, ◌<◌, ◌^◌, ◌-◌, ℕ, ◌+◌, Bool, true, false, List, [], ◌∷◌, refl, Option, Some, None, ◌==◌, arith}
use Rattle.std.specs.Prelude.{if◌then◌else◌, nat_lt, length, codes, Ok, Err, Result}
use Rattle.bz_layout.specs.declared.limits.TheConstants.{MAX_CAPACITY, MAX_SWAPS}
use Rattle.bz_ring.specs.declared.calls.QCall.TheVariants.{Put, Take}
use Rattle.bz_script.specs.ItemLaws.{IsCut, cuts_are}
use Rattle.bz_script.specs.Number.{within, number_of, worker_of}
use Rattle.bz_script.specs.Order.{at_first, may_come, after_kind}
use Rattle.bz_script.specs.PowerForms.{cut_of, is_power}
use Rattle.bz_script.specs.RangeLaws.{either_way, in_range}
use Rattle.bz_script.specs.RunForms.{is_alone, list_turns}
use Rattle.bz_script.specs.RunLaws.{AreTurns, list_turns_are}
use Rattle.bz_script.specs.Script.{Fault}
use Rattle.bz_script.specs.Words.{word, is_word, words_in_line, lines_of}
use Rattle.bz_script.specs.declared.cut_plan.CutPlan.{CutPlan}
use Rattle.bz_script.specs.declared.fault.ScriptRule.{ScriptRule}
use Rattle.bz_script.specs.declared.fault.ScriptRule.TheVariants.{Unknown, Words, Number, NoMemoryLine, Order}
use Rattle.bz_script.specs.declared.order.Standing.{Standing}
use Rattle.bz_script.specs.declared.turn_list.Turn.{Turn}
use Rattle.bz_qscript.specs.Forms.{sizes_by, memory_of, item_number, put_by, put_of, take_by, take_of, call_of, alone_of, listed, list_of, run_of, armed, cut_item_of, power_of, sized, entered, line_of}
use Rattle.bz_qscript.specs.ItemLaws.{IsItem, AreItems, AreInOrder, IsJob, ScriptsAreJobs}
use Rattle.bz_qscript.specs.Script.{QJob, kind_of, first_of, in_order, item_of, standing_by, then_items, items_of, then_job, script_of_lines, script_of}
use Rattle.bz_qscript.specs.declared.forms.QLine.{QLine}
use Rattle.bz_qscript.specs.declared.forms.QLine.TheVariants.{Memory, Entry}
use Rattle.bz_qscript.specs.declared.forms.QSizes.{QSizes}
use Rattle.bz_qscript.specs.declared.item.QItem.{QItem}
use Rattle.bz_qscript.specs.declared.item.QItem.TheVariants.{Queue, Arm, Run, Power}
use Rattle.bz_qscript.specs.declared.item.QPlan.TheVariants.{Alone, List as Listed}

no_item : (rule : ScriptRule) (item : QItem) → ◌≡◌ {A = Result QItem ScriptRule} (Err rule) (Ok item) → IsItem item
no_item rule item is = absurd cc

put_by_item : (worker number : Option ℕ) (item : QItem) → ((w : ℕ) → worker ≡ Some w → (1 ≤ w) × (w ≤ 64)) → ((x : ℕ) → number ≡ Some x → (0 ≤ x) × (x ≤ 2 ^ 60 - 1)) → put_by worker number ≡ Ok item → IsItem item
put_by_item None number item h k is = absurd cc
put_by_item (Some w) None item h k is = absurd cc
put_by_item (Some w) (Some x) item h k is =
    let same : Queue w (Put x) ≡ item = cc in
    let few = h w refl in
    let small = k x refl in
    rw (← same) (few.0, few.1, omega (arith, small.1))

put_item : (words : List (List ℕ)) (item : QItem) → put_of words ≡ Ok item → IsItem item
put_item words item = either_way IsItem (length words == 4) _ (Err Words) item
    (put_by_item (worker_of (word words 1)) (item_number (word words 3)) item (in_range 1 64 (number_of (word words 1))) (in_range 0 (2 ^ 60 - 1) (number_of (word words 3)))) (no_item Words item)

take_by_item : (worker : Option ℕ) (item : QItem) → ((w : ℕ) → worker ≡ Some w → (1 ≤ w) × (w ≤ 64)) → take_by worker ≡ Ok item → IsItem item
take_by_item None item h is = absurd cc
take_by_item (Some w) item h is =
    let same : Queue w Take ≡ item = cc in
    let few = h w refl in
    rw (← same) (few.0, few.1, tt)

take_item : (words : List (List ℕ)) (item : QItem) → take_of words ≡ Ok item → IsItem item
take_item words item = either_way IsItem (length words == 3) _ (Err Words) item (take_by_item (worker_of (word words 1)) item (in_range 1 64 (number_of (word words 1)))) (no_item Words item)

call_item : (words : List (List ℕ)) (item : QItem) → call_of words ≡ Ok item → IsItem item
call_item words item =
    either_way IsItem (nat_lt (length words) 3) (Err Words) _ item (no_item Words item)
    (either_way IsItem (is_word words 2 (codes "put")) (put_of words) _ item (put_item words item)
    (either_way IsItem (is_word words 2 (codes "take")) (take_of words) (Err Unknown) item (take_item words item)
    (no_item Unknown item)))

listed_item : (found : Result (List Turn) ScriptRule) (item : QItem) → ((turns : List Turn) → found ≡ Ok turns → AreTurns turns) → listed found ≡ Ok item → IsItem item
listed_item (Err rule) item h is = absurd cc
listed_item (Ok turns) item h is = let same : Run (Listed turns) ≡ item = cc in rw (← same) (h turns refl)

run_item : (words : List (List ℕ)) (item : QItem) → run_of words ≡ Ok item → IsItem item
run_item words item =
    either_way IsItem (nat_lt (length words) 2) (Err Words) _ item (no_item Words item)
    (either_way IsItem (is_word words 1 (codes "alone")) (alone_of words) _ item
    (either_way IsItem (is_alone words) (Ok (Run Alone)) (Err Words) item (λ is. let same : Run Alone ≡ item = cc in rw (← same) tt) (no_item Words item))
    (either_way IsItem (is_word words 1 (codes "list")) (list_of words) (Err Unknown) item (listed_item (list_turns words) item (list_turns_are words))
    (no_item Unknown item)))

armed_item : (found : Result CutPlan ScriptRule) (item : QItem) → ((cut : CutPlan) → found ≡ Ok cut → IsCut cut) → armed found ≡ Ok item → IsItem item
armed_item (Err rule) item h is = absurd cc
armed_item (Ok cut) item h is = let same : Arm cut ≡ item = cc in rw (← same) (h cut refl)

cut_item : (words : List (List ℕ)) (item : QItem) → cut_item_of words ≡ Ok item → IsItem item
cut_item words item = armed_item (cut_of words) item (cuts_are words)

power_item : (words : List (List ℕ)) (item : QItem) → power_of words ≡ Ok item → IsItem item
power_item words item = either_way IsItem (is_power words) (Ok Power) (Err Words) item (λ is. let same : Power ≡ item = cc in rw (← same) tt) (no_item Words item)

abbrev IsLine : QLine → Type 0
IsLine (Memory sizes) = Unit {0}
IsLine (Entry item) = IsItem item

no_line : (rule : ScriptRule) (line : QLine) → ◌≡◌ {A = Result QLine ScriptRule} (Err rule) (Ok line) → IsLine line
no_line rule line is = absurd cc

sized_line : (sizes : Result QSizes ScriptRule) (line : QLine) → sized sizes ≡ Ok line → IsLine line
sized_line (Err rule) line is = absurd cc
sized_line (Ok sizes) line is = let same : Memory sizes ≡ line = cc in rw (← same) tt

entered_line : (found : Result QItem ScriptRule) (line : QLine) → ((item : QItem) → found ≡ Ok item → IsItem item) → entered found ≡ Ok line → IsLine line
entered_line (Err rule) line h is = absurd cc
entered_line (Ok item) line h is = let same : Entry item ≡ line = cc in rw (← same) (h item refl)

line_item : (words : List (List ℕ)) (line : QLine) → line_of words ≡ Ok line → IsLine line
line_item words line =
    either_way IsLine (is_word words 0 (codes "memory")) (sized (memory_of words)) _ line (sized_line (memory_of words) line)
    (either_way IsLine (is_word words 0 (codes "w")) (entered (call_of words)) _ line (entered_line (call_of words) line (call_item words))
    (either_way IsLine (is_word words 0 (codes "run")) (entered (run_of words)) _ line (entered_line (run_of words) line (run_item words))
    (either_way IsLine (is_word words 0 (codes "cut")) (entered (cut_item_of words)) _ line (entered_line (cut_item_of words) line (cut_item words))
    (either_way IsLine (is_word words 0 (codes "power")) (entered (power_of words)) (Err Unknown) line (entered_line (power_of words) line (power_item words)) (no_line Unknown line)))))

-- an item that may stand where it does
record Stands (standing : Standing) (item : QItem) : Type 0 where
  sound : IsItem item
  order : may_come standing (kind_of item) ≡ true

entry_stands : (b : Bool) (standing : Standing) (entry item : QItem) → may_come standing (kind_of entry) ≡ b → IsItem entry → (if b then Ok entry else Err Order) ≡ Ok item → Stands standing item
entry_stands true standing entry item may h is = let same : entry ≡ item = cc in rw (← same) (record { sound = h; order = may })
entry_stands false standing entry item may h is = absurd cc

ordered_item : (standing : Standing) (found : Result QLine ScriptRule) (item : QItem) → ((line : QLine) → found ≡ Ok line → IsLine line) → in_order standing found ≡ Ok item → Stands standing item
ordered_item standing (Err rule) item h is = absurd cc
ordered_item standing (Ok (Memory sizes)) item h is = absurd cc
ordered_item standing (Ok (Entry entry)) item h is = entry_stands (may_come standing (kind_of entry)) standing entry item refl (h (Entry entry) refl) is

item_stands : (standing : Standing) (words : List (List ℕ)) (item : QItem) → item_of standing words ≡ Ok item → Stands standing item
item_stands standing words item = ordered_item standing (line_of words) item (line_item words)

-- the items of later lines
record AreGood (standing : Standing) (items : List QItem) : Type 0 where
  sound : AreItems items
  ordered : AreInOrder standing items

items_then : (number : ℕ) (standing : Standing) (found : Result QItem ScriptRule) (rest : Result (List QItem) Fault) (items : List QItem) → ((item : QItem) → found ≡ Ok item → Stands standing item)
    → ((more : List QItem) → rest ≡ Ok more → AreGood (standing_by standing found) more) → then_items number found rest ≡ Ok items → AreGood standing items
items_then number standing (Err rule) rest items h k is = absurd cc
items_then number standing (Ok item) (Err fault) items h k is = absurd cc
items_then number standing (Ok item) (Ok more) items h k is =
    let same : item ∷ more ≡ items = cc in
    let one = h item refl in
    let others = k more refl in
    rw (← same) (record { sound = (one.sound, others.sound); ordered = (one.order, others.ordered) })

no_items : (standing : Standing) (items : List QItem) → [] ≡ items → AreGood standing items
no_items standing items same = rw (← same) (record { sound = tt; ordered = tt })

items_are : (number : ℕ) (standing : Standing) (lines : List (List ℕ)) (items : List QItem) → items_of number standing lines ≡ Ok items → AreGood standing items
items_are number standing [] items is = no_items standing items cc
items_are number standing ([] ∷ []) items is = no_items standing items cc
items_are number standing ((b ∷ line) ∷ []) items is = absurd cc
items_are number standing ([] ∷ next ∷ lines) items is =
    items_then number standing (item_of standing (words_in_line [])) (items_of (number + 1) (standing_by standing (item_of standing (words_in_line []))) (next ∷ lines)) items (item_stands standing (words_in_line []))
    (items_are (number + 1) (standing_by standing (item_of standing (words_in_line []))) (next ∷ lines)) is
items_are number standing ((b ∷ line) ∷ next ∷ lines) items is =
    items_then number standing (item_of standing (words_in_line (b ∷ line))) (items_of (number + 1) (standing_by standing (item_of standing (words_in_line (b ∷ line)))) (next ∷ lines)) items (item_stands standing (words_in_line (b ∷ line)))
    (items_are (number + 1) (standing_by standing (item_of standing (words_in_line (b ∷ line)))) (next ∷ lines)) is

record AreSizes (sizes : QSizes) : Type 0 where
  some_cells : 1 ≤ sizes.capacity
  few_cells : sizes.capacity ≤ MAX_CAPACITY
  some_swaps : 1 ≤ sizes.swaps
  few_swaps : sizes.swaps ≤ MAX_SWAPS

sizes_are : (capacity swaps : Option ℕ) (sizes : QSizes) → ((n : ℕ) → capacity ≡ Some n → (1 ≤ n) × (n ≤ MAX_CAPACITY)) → ((n : ℕ) → swaps ≡ Some n → (1 ≤ n) × (n ≤ MAX_SWAPS)) → sizes_by capacity swaps ≡ Ok sizes → AreSizes sizes
sizes_are None swaps sizes h k is = absurd cc
sizes_are (Some capacity) None sizes h k is = absurd cc
sizes_are (Some capacity) (Some swaps) sizes h k is =
    let same : ◌≡◌ {A = QSizes} (record { capacity = capacity; swaps = swaps }) sizes = cc in
    let few = h capacity refl in
    let less = k swaps refl in
    rw (← same) (record { some_cells = few.0; few_cells = few.1; some_swaps = less.0; few_swaps = less.1 })

no_sizes : (rule : ScriptRule) (sizes : QSizes) → ◌≡◌ {A = Result QSizes ScriptRule} (Err rule) (Ok sizes) → AreSizes sizes
no_sizes rule sizes is = absurd cc

memory_sizes : (words : List (List ℕ)) (sizes : QSizes) → memory_of words ≡ Ok sizes → AreSizes sizes
memory_sizes words sizes = either_way AreSizes (length words == 3) _ (Err Words) sizes
    (sizes_are (within 1 MAX_CAPACITY (number_of (word words 1))) (within 1 MAX_SWAPS (number_of (word words 2))) sizes (in_range 1 MAX_CAPACITY (number_of (word words 1))) (in_range 1 MAX_SWAPS (number_of (word words 2)))) (no_sizes Words sizes)

first_sizes : (words : List (List ℕ)) (sizes : QSizes) → first_of words ≡ Ok sizes → AreSizes sizes
first_sizes words sizes = either_way AreSizes (is_word words 0 (codes "memory")) (memory_of words) (Err NoMemoryLine) sizes (memory_sizes words sizes) (no_sizes NoMemoryLine sizes)

job_is : (first : Result QSizes ScriptRule) (rest : Result (List QItem) Fault) (job : QJob) → ((sizes : QSizes) → first ≡ Ok sizes → AreSizes sizes) → ((items : List QItem) → rest ≡ Ok items → AreGood at_first items) → then_job first rest ≡ Ok job → IsJob job
job_is (Err rule) rest job h k is = absurd cc
job_is (Ok sizes) (Err fault) job h k is = absurd cc
job_is (Ok sizes) (Ok items) job h k is =
    let same : ◌≡◌ {A = QJob} (record { capacity = sizes.capacity; swaps = sizes.swaps; items = items }) job = cc in
    let s = h sizes refl in
    let good = k items refl in
    rw (← same) (record { some_cells = s.some_cells; few_cells = s.few_cells; some_swaps = s.some_swaps; few_swaps = s.few_swaps; items = good.sound; ordered = good.ordered })

lines_job : (lines : List (List ℕ)) (job : QJob) → script_of_lines lines ≡ Ok job → IsJob job
lines_job [] job is = absurd cc
lines_job (bytes ∷ []) job is = absurd cc
lines_job (line ∷ next ∷ lines) job is = job_is (first_of (words_in_line line)) (items_of 2 at_first (next ∷ lines)) job (first_sizes (words_in_line line)) (items_are 2 at_first (next ∷ lines)) is

-- a script's sizes are in range, its items are those that scripts have, and each may stand where it does
pub scripts_are_jobs : ScriptsAreJobs
scripts_are_jobs bytes job is = lines_job (lines_of bytes) job is
