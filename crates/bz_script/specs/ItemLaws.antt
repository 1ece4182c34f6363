-- What the parts of a script are: its sizes are in range, its queued calls and the turns of its runs are of workers from 1
-- to 64, its cuts wait for a fence from 1 on, and each line may stand where it does.
use Rattle.std.proofs.Common.{◌≡◌, ◌≤◌, ℕ, ◌+◌, Bool, true, false, List, [], ◌∷◌, refl, Option, Some, None, ◌==◌}
use Rattle.std.specs.Prelude.{if◌then◌else◌, nat_lt, ◌&&◌, length, codes, Ok, Err, Result}
use Rattle.bz_key.specs.Spelling.{key_of_word, payload_of_word}
use Rattle.bz_call.specs.declared.calls.Call.{Call}
use Rattle.bz_call.specs.declared.calls.Call.TheVariants.{Insert, Delete, Update, Upsert, Get, Page}
use Rattle.bz_script.specs.declared.item.Item.{Item}
use Rattle.bz_script.specs.declared.item.Item.TheVariants.{Queue, Arm, Run, Power}
use Rattle.bz_script.specs.declared.forms.Line.{Line}
use Rattle.bz_script.specs.declared.forms.Line.TheVariants.{Memory, Entry}
use Rattle.bz_script.specs.declared.forms.Sizes.{Sizes}
use Rattle.bz_script.specs.declared.fault.ScriptRule.{ScriptRule}
use Rattle.bz_script.specs.declared.fault.ScriptRule.TheVariants.{Unknown, Words, Number, NoMemoryLine, Order}
use Rattle.bz_script.specs.declared.cut_plan.CutPlan.{CutPlan}
use Rattle.bz_script.specs.declared.order.Standing.{Standing}
use Rattle.bz_script.specs.Number.{within, number_of, worker_of}
use Rattle.bz_script.specs.Words.{word, is_word, words_in_line, lines_of}
use Rattle.bz_script.specs.Forms.{sizes_by, memory_of, queued, put_by, put_of, keyed_by, keyed_of, call_of, sized, entered, line_of}
use Rattle.bz_script.specs.Order.{at_first, may_stand, AreInOrder}
use Rattle.bz_script.specs.PowerForms.{cut_by, cut_of, armed, power_of}
use Rattle.bz_script.specs.RangeLaws.{either_way, in_range}
use Rattle.bz_script.specs.RunForms.{run_of}
use Rattle.bz_script.specs.RunLaws.{IsPlan, run_runs}
use Rattle.bz_script.specs.Script.{Job, Fault, same_as, first_of, in_order, item_of, standing_by, then_items, items_of, then_job, script_of_lines, script_of}

abbrev pub IsItem : Item → Type 0
IsItem (Queue w call) = (1 ≤ w) × (w ≤ 64)
IsItem (Arm flush seed) = (1 ≤ flush) × (flush ≤ 33554432)
IsItem (Run plan) = IsPlan plan
IsItem Power = Unit {0}

abbrev pub AreItems : List Item → Type 0
AreItems [] = Unit {0}
AreItems (item ∷ items) = IsItem item × AreItems items

pub record IsJob (job : Job) : Type 0 where
  pub some_nodes : 1 ≤ job.nodes
  pub few_nodes : job.nodes ≤ 16384
  pub some_swaps : 1 ≤ job.swaps
  pub few_swaps : job.swaps ≤ 65536
  pub items : AreItems job.items
  pub ordered : AreInOrder at_first job.items

-- a call of a worker, once it was read
queued_item : (found : Result (ℕ × Call) ScriptRule) (item : Item) → ((called : ℕ × Call) → found ≡ Ok called → (1 ≤ called.0) × (called.0 ≤ 64)) → queued found ≡ Ok item → IsItem item
queued_item (Err rule) item h is = absurd cc
queued_item (Ok called) item h is =
    let same : Queue called.0 called.1 ≡ item = cc in
    rw (← same) (h called refl)

put_worker : (call : List ℕ → List ℕ → Call) (worker : Option ℕ) (key payload : Option (List ℕ)) (called : ℕ × Call) → ((w : ℕ) → worker ≡ Some w → (1 ≤ w) × (w ≤ 64)) → put_by call worker key payload ≡ Ok called → (1 ≤ called.0) × (called.0 ≤ 64)
put_worker call None key payload called h is = absurd cc
put_worker call (Some w) None payload called h is = absurd cc
put_worker call (Some w) (Some key) None called h is = absurd cc
put_worker call (Some w) (Some key) (Some payload) called h is =
    let same : (w, call key payload) ≡ called = cc in
    rw (← same) (h w refl)

keyed_worker : (call : List ℕ → Call) (worker : Option ℕ) (key : Option (List ℕ)) (called : ℕ × Call) → ((w : ℕ) → worker ≡ Some w → (1 ≤ w) × (w ≤ 64)) → keyed_by call worker key ≡ Ok called → (1 ≤ called.0) × (called.0 ≤ 64)
keyed_worker call None key called h is = absurd cc
keyed_worker call (Some w) None called h is = absurd cc
keyed_worker call (Some w) (Some key) called h is =
    let same : (w, call key) ≡ called = cc in
    rw (← same) (h w refl)

no_item : (rule : ScriptRule) (item : Item) → ◌≡◌ {A = Result Item ScriptRule} (Err rule) (Ok item) → IsItem item
no_item rule item is = absurd cc

put_item : (call : List ℕ → List ℕ → Call) (words : List (List ℕ)) (item : Item) → put_of call words ≡ Ok item → IsItem item
put_item call words item =
    either_way IsItem (length words == 5) _ (Err Words) item
    (queued_item (put_by call (worker_of (word words 1)) (key_of_word (word words 3)) (payload_of_word (word words 4))) item
    (λ called. put_worker call (worker_of (word words 1)) (key_of_word (word words 3)) (payload_of_word (word words 4)) called (in_range 1 64 (number_of (word words 1))))) (no_item Words item)

keyed_item : (call : List ℕ → Call) (words : List (List ℕ)) (item : Item) → keyed_of call words ≡ Ok item → IsItem item
keyed_item call words item =
    either_way IsItem (length words == 4) _ (Err Words) item
    (queued_item (keyed_by call (worker_of (word words 1)) (key_of_word (word words 3))) item
    (λ called. keyed_worker call (worker_of (word words 1)) (key_of_word (word words 3)) called (in_range 1 64 (number_of (word words 1))))) (no_item Words item)

call_item : (words : List (List ℕ)) (item : Item) → call_of words ≡ Ok item → IsItem item
call_item words item =
    either_way IsItem (nat_lt (length words) 3) (Err Words) _ item (no_item Words item)
    (either_way IsItem (is_word words 2 (codes "insert")) (put_of Insert words) _ item (put_item Insert words item)
    (either_way IsItem (is_word words 2 (codes "delete")) (keyed_of Delete words) _ item (keyed_item Delete words item)
    (either_way IsItem (is_word words 2 (codes "update")) (put_of Update words) _ item (put_item Update words item)
    (either_way IsItem (is_word words 2 (codes "upsert")) (put_of Upsert words) _ item (put_item Upsert words item)
    (either_way IsItem (is_word words 2 (codes "get")) (keyed_of Get words) _ item (keyed_item Get words item)
    (either_way IsItem (is_word words 2 (codes "page")) (keyed_of Page words) (Err Unknown) item (keyed_item Page words item)
    (no_item Unknown item)))))))

run_item : (words : List (List ℕ)) (item : Item) → run_of words ≡ Ok item → IsItem item
run_item words item is = let run = run_runs words item is in rw run.is run.sound

-- a cut of a script
abbrev pub IsCut : CutPlan → Type 0
IsCut cut = (1 ≤ cut.flush) × (cut.flush ≤ 33554432)

cut_numbers : (flush seed : Option ℕ) (cut : CutPlan) → ((n : ℕ) → flush ≡ Some n → (1 ≤ n) × (n ≤ 33554432)) → cut_by flush seed ≡ Ok cut → IsCut cut
cut_numbers None seed cut h is = absurd cc
cut_numbers (Some flush) None cut h is = absurd cc
cut_numbers (Some flush) (Some seed) cut h is =
    let same : ◌≡◌ {A = CutPlan} (record { flush = flush; seed = seed }) cut = cc in
    rw (← same) (h flush refl)

no_cut : (rule : ScriptRule) (cut : CutPlan) → ◌≡◌ {A = Result CutPlan ScriptRule} (Err rule) (Ok cut) → IsCut cut
no_cut rule cut is = absurd cc

-- what is read of a line that cuts the power is a cut of a script
pub cuts_are : (words : List (List ℕ)) (cut : CutPlan) → cut_of words ≡ Ok cut → IsCut cut
cuts_are words cut =
    either_way IsCut (length words == 3) _ (Err Words) cut (cut_numbers (within 1 33554432 (number_of (word words 1))) (number_of (word words 2)) cut (in_range 1 33554432 (number_of (word words 1)))) (no_cut Words cut)

armed_item : (found : Result CutPlan ScriptRule) (item : Item) → ((cut : CutPlan) → found ≡ Ok cut → IsCut cut) → armed found ≡ Ok item → IsItem item
armed_item (Err rule) item h is = absurd cc
armed_item (Ok cut) item h is = let same : Arm cut.flush cut.seed ≡ item = cc in rw (← same) (h cut refl)

cut_item : (words : List (List ℕ)) (item : Item) → armed (cut_of words) ≡ Ok item → IsItem item
cut_item words item = armed_item (cut_of words) item (cuts_are words)

power_item : (words : List (List ℕ)) (item : Item) → power_of words ≡ Ok item → IsItem item
power_item words item = either_way IsItem (length words == 1) (Ok Power) (Err Words) item (λ is. let same : Power ≡ item = cc in rw (← same) tt) (no_item Words item)

abbrev IsLine : Line → Type 0
IsLine (Memory sizes) = Unit {0}
IsLine (Entry item) = IsItem item

no_line : (rule : ScriptRule) (line : Line) → ◌≡◌ {A = Result Line ScriptRule} (Err rule) (Ok line) → IsLine line
no_line rule line is = absurd cc

sized_line : (sizes : Result Sizes ScriptRule) (line : Line) → sized sizes ≡ Ok line → IsLine line
sized_line (Err rule) line is = absurd cc
sized_line (Ok sizes) line is = let same : Memory sizes ≡ line = cc in rw (← same) tt

entered_line : (found : Result Item ScriptRule) (line : Line) → ((item : Item) → found ≡ Ok item → IsItem item) → entered found ≡ Ok line → IsLine line
entered_line (Err rule) line h is = absurd cc
entered_line (Ok item) line h is = let same : Entry item ≡ line = cc in rw (← same) (h item refl)

line_item : (words : List (List ℕ)) (line : Line) → line_of words ≡ Ok line → IsLine line
line_item words line =
    either_way IsLine (is_word words 0 (codes "memory")) (sized (memory_of words)) _ line (sized_line (memory_of words) line)
    (either_way IsLine (is_word words 0 (codes "w")) (entered (call_of words)) _ line (entered_line (call_of words) line (call_item words))
    (either_way IsLine (is_word words 0 (codes "run")) (entered (run_of words)) _ line (entered_line (run_of words) line (run_item words))
    (either_way IsLine (is_word words 0 (codes "cut")) (entered (armed (cut_of words))) _ line (entered_line (armed (cut_of words)) line (cut_item words))
    (either_way IsLine (is_word words 0 (codes "power")) (entered (power_of words)) (Err Unknown) line (entered_line (power_of words) line (power_item words)) (no_line Unknown line)))))

-- an item that may stand where it does
record Stands (standing : Standing) (item : Item) : Type 0 where
  sound : IsItem item
  order : may_stand standing item ≡ true

entry_stands : (b : Bool) (standing : Standing) (entry item : Item) → may_stand standing entry ≡ b → IsItem entry → (if b then Ok entry else Err Order) ≡ Ok item → Stands standing item
entry_stands true standing entry item may h is = let same : entry ≡ item = cc in rw (← same) (record { sound = h; order = may })
entry_stands false standing entry item may h is = absurd cc

ordered_item : (standing : Standing) (found : Result Line ScriptRule) (item : Item) → ((line : Line) → found ≡ Ok line → IsLine line) → in_order standing found ≡ Ok item → Stands standing item
ordered_item standing (Err rule) item h is = absurd cc
ordered_item standing (Ok (Memory sizes)) item h is = absurd cc
ordered_item standing (Ok (Entry entry)) item h is = entry_stands (may_stand standing entry) standing entry item refl (h (Entry entry) refl) is

item_stands : (standing : Standing) (words : List (List ℕ)) (item : Item) → item_of standing words ≡ Ok item → Stands standing item
item_stands standing words item = ordered_item standing (line_of words) item (line_item words)

-- the items of later lines
record AreGood (standing : Standing) (items : List Item) : Type 0 where
  sound : AreItems items
  ordered : AreInOrder standing items

items_then : (number : ℕ) (standing : Standing) (found : Result Item ScriptRule) (rest : Result (List Item) Fault) (items : List Item) → ((item : Item) → found ≡ Ok item → Stands standing item)
    → ((more : List Item) → rest ≡ Ok more → AreGood (standing_by standing found) more) → then_items number found rest ≡ Ok items → AreGood standing items
items_then number standing (Err rule) rest items h k is = absurd cc
items_then number standing (Ok item) (Err fault) items h k is = absurd cc
items_then number standing (Ok item) (Ok more) items h k is =
    let same : item ∷ more ≡ items = cc in
    let one = h item refl in
    let others = k more refl in
    rw (← same) (record { sound = (one.sound, others.sound); ordered = (one.order, others.ordered) })

no_items : (standing : Standing) (items : List Item) → [] ≡ items → AreGood standing items
no_items standing items same = rw (← same) (record { sound = tt; ordered = tt })

items_are : (number : ℕ) (standing : Standing) (lines : List (List ℕ)) (items : List Item) → items_of number standing lines ≡ Ok items → AreGood standing items
items_are number standing [] items is = no_items standing items cc
items_are number standing ([] ∷ []) items is = no_items standing items cc
items_are number standing ((b ∷ line) ∷ []) items is = absurd cc
items_are number standing ([] ∷ next ∷ lines) items is =
    items_then number standing (item_of standing (words_in_line [])) (items_of (number + 1) (standing_by standing (item_of standing (words_in_line []))) (next ∷ lines)) items (item_stands standing (words_in_line []))
    (items_are (number + 1) (standing_by standing (item_of standing (words_in_line []))) (next ∷ lines)) is
items_are number standing ((b ∷ line) ∷ next ∷ lines) items is =
    items_then number standing (item_of standing (words_in_line (b ∷ line))) (items_of (number + 1) (standing_by standing (item_of standing (words_in_line (b ∷ line)))) (next ∷ lines)) items (item_stands standing (words_in_line (b ∷ line)))
    (items_are (number + 1) (standing_by standing (item_of standing (words_in_line (b ∷ line)))) (next ∷ lines)) is

pub record AreSizes (sizes : Sizes) : Type 0 where
  pub some_nodes : 1 ≤ sizes.nodes
  pub few_nodes : sizes.nodes ≤ 16384
  pub some_swaps : 1 ≤ sizes.swaps
  pub few_swaps : sizes.swaps ≤ 65536

sizes_are : (nodes swaps : Option ℕ) (sizes : Sizes) → ((n : ℕ) → nodes ≡ Some n → (1 ≤ n) × (n ≤ 16384)) → ((n : ℕ) → swaps ≡ Some n → (1 ≤ n) × (n ≤ 65536)) → sizes_by nodes swaps ≡ Ok sizes → AreSizes sizes
sizes_are None swaps sizes h k is = absurd cc
sizes_are (Some nodes) None sizes h k is = absurd cc
sizes_are (Some nodes) (Some swaps) sizes h k is =
    let same : ◌≡◌ {A = Sizes} (record { nodes = nodes; swaps = swaps }) sizes = cc in
    let few = h nodes refl in
    let less = k swaps refl in
    rw (← same) (record { some_nodes = few.0; few_nodes = few.1; some_swaps = less.0; few_swaps = less.1 })

no_sizes : (rule : ScriptRule) (sizes : Sizes) → ◌≡◌ {A = Result Sizes ScriptRule} (Err rule) (Ok sizes) → AreSizes sizes
no_sizes rule sizes is = absurd cc

memory_sizes : (words : List (List ℕ)) (sizes : Sizes) → memory_of words ≡ Ok sizes → AreSizes sizes
memory_sizes words sizes = either_way AreSizes (length words == 3) _ (Err Words) sizes (sizes_are (within 1 16384 (number_of (word words 1))) (within 1 65536 (number_of (word words 2))) sizes (in_range 1 16384 (number_of (word words 1))) (in_range 1 65536 (number_of (word words 2)))) (no_sizes Words sizes)

same_sizes : (image : Option (ℕ × ℕ)) (found : Result Sizes ScriptRule) (sizes : Sizes) → ((other : Sizes) → found ≡ Ok other → AreSizes other) → same_as image found ≡ Ok sizes → AreSizes sizes
same_sizes image (Err rule) sizes h is = absurd cc
same_sizes None (Ok found) sizes h is = let same : found ≡ sizes = cc in rw (← same) (h found refl)
same_sizes (Some image) (Ok found) sizes h is = either_way AreSizes ((found.nodes == image.0) && (found.swaps == image.1)) (Ok found) (Err Number) sizes (λ e. let same : found ≡ sizes = cc in rw (← same) (h found refl)) (no_sizes Number sizes) is

first_sizes : (image : Option (ℕ × ℕ)) (words : List (List ℕ)) (sizes : Sizes) → first_of image words ≡ Ok sizes → AreSizes sizes
first_sizes image words sizes = either_way AreSizes (is_word words 0 (codes "memory")) (same_as image (memory_of words)) (Err NoMemoryLine) sizes (same_sizes image (memory_of words) sizes (memory_sizes words)) (no_sizes NoMemoryLine sizes)

job_is : (first : Result Sizes ScriptRule) (rest : Result (List Item) Fault) (job : Job) → ((sizes : Sizes) → first ≡ Ok sizes → AreSizes sizes) → ((items : List Item) → rest ≡ Ok items → AreGood at_first items) → then_job first rest ≡ Ok job → IsJob job
job_is (Err rule) rest job h k is = absurd cc
job_is (Ok sizes) (Err fault) job h k is = absurd cc
job_is (Ok sizes) (Ok items) job h k is =
    let same : ◌≡◌ {A = Job} (record { nodes = sizes.nodes; swaps = sizes.swaps; items = items }) job = cc in
    let s = h sizes refl in
    let good = k items refl in
    rw (← same) (record { some_nodes = s.some_nodes; few_nodes = s.few_nodes; some_swaps = s.some_swaps; few_swaps = s.few_swaps; items = good.sound; ordered = good.ordered })

lines_job : (image : Option (ℕ × ℕ)) (lines : List (List ℕ)) (job : Job) → script_of_lines image lines ≡ Ok job → IsJob job
lines_job image [] job is = absurd cc
lines_job image (bytes ∷ []) job is = absurd cc
lines_job image (line ∷ next ∷ lines) job is = job_is (first_of image (words_in_line line)) (items_of 2 at_first (next ∷ lines)) job (first_sizes image (words_in_line line)) (items_are 2 at_first (next ∷ lines)) is

-- a script's sizes are in range, its items are those that scripts have, and each may stand where it does
pub scripts_are_jobs : (image : Option (ℕ × ℕ)) (bytes : List ℕ) (job : Job) → script_of image bytes ≡ Ok job → IsJob job
scripts_are_jobs image bytes job is = lines_job image (lines_of bytes) job is
