-- Scripts with a run on threads, and without one.
use Rattle.std.proofs.Common.{◌≡◌, ◌<◌, ◌≤◌, ℕ, zero, suc, ◌+◌, Bool, true, false, List, [], ◌∷◌, ◌++◌, length, get_or, drop, refl, sym, ap, ◌∙◌, arith}
use Rattle.std.specs.Prelude.{not, ◌||◌}
use Rattle.std.proofs.lemmas.Grind.{common_steps}
use Rattle.bz_gen.specs.Workload.{draws_from, state_after, item_drawn, items_drawn, workload_of}
use Rattle.bz_script.specs.Order.{takes_no_cut}
use Rattle.bz_script.specs.declared.item.Item.{Item}
use Rattle.bz_script.specs.declared.item.Item.TheVariants.{Queue, Arm, Run, Power}
use Rattle.bz_script.specs.declared.item.Plan.{Plan}
use Rattle.bz_script.specs.declared.item.Plan.TheVariants.{Alone, List as Listed, Turns, Threads}
use Rattle.bz_top.proofs.FollowLemmas.{here_is}
use Rattle.bz_top.specs.Threads.{asks_threads, needs_threads, has_threads, RunBy, AreRunBy}

pub not_true : (b : Bool) → not b ≡ true → b ≡ false
not_true true is = absurd (cc is)
not_true false is = refl

-- the plan of threads is the one that takes no cut
pub asks-takes : (plan : Plan) → asks_threads plan ≡ takes_no_cut plan
asks-takes Alone = refl
asks-takes (Listed turns) = refl
asks-takes (Turns seed) = refl
asks-takes Threads = refl

neither : (a b : Bool) → (a || b) ≡ false → (a ≡ false) × (b ≡ false)
neither true b is = absurd (cc is)
neither false b is = (refl, is)

pub is_not : (b : Bool) → b ≡ false → not b ≡ true
is_not true is = absurd (cc is)
is_not false is = refl

-- without one all runs are in turns
pub runs_in_turns : (items : List Item) → has_threads items ≡ false → AreRunBy (λ plan. not (takes_no_cut plan)) items
runs_in_turns [] none = tt
runs_in_turns (Run plan ∷ items) none = let (here, later) = neither (asks_threads plan) (has_threads items) none in (is_not (takes_no_cut plan) (sym (asks-takes plan) ∙ here), runs_in_turns items later)
runs_in_turns (Queue w call ∷ items) none = (tt, runs_in_turns items none)
runs_in_turns (Arm flush seed ∷ items) none = (tt, runs_in_turns items none)
runs_in_turns (Power ∷ items) none = (tt, runs_in_turns items none)

pub run_at : (runs : Plan → Bool) (items : List Item) (i : ℕ) (item : Item) → AreRunBy runs items → i < length items → item ≡ get_or items i item → RunBy runs item
run_at runs [] i item all lt is = absurd (omega arith)
run_at runs (x ∷ items) zero item all lt is = rw is all.0
run_at runs (x ∷ items) (suc i) item all lt is = run_at runs items i item all.1 (omega arith) is

-- of two lists
has-append : (xs ys : List Item) → has_threads xs ≡ false → has_threads (xs ++ ys) ≡ has_threads ys
has-append [] ys none = refl
has-append (Run plan ∷ xs) ys none = let (here, later) = neither (asks_threads plan) (has_threads xs) none in rw here (has-append xs ys later)
has-append (Queue w call ∷ xs) ys none = has-append xs ys none
has-append (Arm flush seed ∷ xs) ys none = has-append xs ys none
has-append (Power ∷ xs) ys none = has-append xs ys none

drawn_is : (seed calls workers number done : ℕ) → has_threads (item_drawn calls workers number (draws_from (state_after seed done)) ∷ []) ≡ false
unfolding item_drawn
drawn_is seed calls workers number done = refl

drawn_in_turns : (seed calls workers done : ℕ) → has_threads (items_drawn seed calls workers done) ≡ false
unfolding items_drawn
drawn_in_turns seed calls workers zero = refl
drawn_in_turns seed calls workers (suc done) = has-append (items_drawn seed calls workers done) _ (drawn_in_turns seed calls workers done) ∙ drawn_is seed calls workers (suc done) done

-- a workload runs in turns
pub workload_in_turns : (seed calls workers : ℕ) → AreRunBy (λ plan. not (takes_no_cut plan)) (workload_of seed calls workers).items
workload_in_turns seed calls workers = runs_in_turns _ (has-append (items_drawn seed calls workers calls) _ (drawn_in_turns seed calls workers calls))

pub threads_drawn : (seed calls workers : ℕ) → has_threads (workload_of seed calls workers).items ≡ true → ⊥
threads_drawn seed calls workers some = let none = has-append (items_drawn seed calls workers calls) (Run (Turns seed) ∷ []) (drawn_in_turns seed calls workers calls) in absurd (cc (none, some))

-- an item is looked at
pub skipped : (items : List Item) (i : ℕ) (item : Item) → i < length items → item ≡ get_or items i item → needs_threads item ≡ false → has_threads items ≡ has_threads (drop i items) → has_threads items ≡ has_threads (drop (i + 1) items)
skipped items i item lt is none so_far = so_far ∙ ap has_threads (here_is items i item lt is) ∙ ap (λ (b : Bool). b || has_threads (drop (i + 1) items)) none

pub found : (items : List Item) (i : ℕ) (item : Item) → i < length items → item ≡ get_or items i item → needs_threads item ≡ true → has_threads items ≡ has_threads (drop i items) → has_threads items ≡ true
found items i item lt is some so_far = so_far ∙ ap has_threads (here_is items i item lt is) ∙ ap (λ (b : Bool). b || has_threads (drop (i + 1) items)) some

pub none_found : (items : List Item) (i : ℕ) → length items ≤ i → has_threads items ≡ has_threads (drop i items) → has_threads items ≡ false
none_found items i all so_far = let none : drop i items ≡ [] = grind (arith, common_steps) in so_far ∙ ap has_threads none
