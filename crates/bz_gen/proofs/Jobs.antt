-- The items of a workload are items of a script.
use Rattle.std.proofs.Common.{refl, ◌≤◌, ℕ, zero, suc, ◌+◌, ◌%◌, List, [], ◌∷◌, ◌++◌, arith}
use Rattle.bz_script.specs.ItemLaws.{IsItem, AreItems}
use Rattle.bz_script.specs.Order.{at_first, AreInOrder}
use Rattle.bz_script.specs.declared.item.Item.{Item}
use Rattle.bz_script.specs.declared.item.Item.TheVariants.{Queue, Run}
use Rattle.bz_script.specs.declared.item.Plan.{Plan}
use Rattle.bz_gen.specs.Laws.{WorkloadsAreJobs}
use Rattle.bz_gen.specs.Workload.{draws_from, state_after, item_drawn, items_drawn}
use Rattle.bz_gen.specs.declared.draws.Draws.{Draws}

one_more : (items : List Item) (item : Item) → AreItems items → IsItem item → AreItems (items ++ item ∷ [])
one_more [] item all is = (is, tt)
one_more (first ∷ items) item all is = (all.0, one_more items item all.1 is)

drawn_worker : (worker workers : ℕ) → 1 ≤ workers → workers ≤ 64 → (1 ≤ 1 + worker % workers) × (1 + worker % workers ≤ 64)
drawn_worker worker workers some few = (omega arith, omega arith)

is_item : (calls workers number : ℕ) (draws : Draws) → 1 ≤ workers → workers ≤ 64 → IsItem (item_drawn calls workers number draws)
unfolding item_drawn
is_item calls workers number draws some few = drawn_worker draws.worker workers some few

are_items : (seed calls workers done : ℕ) → 1 ≤ workers → workers ≤ 64 → AreItems (items_drawn seed calls workers done)
unfolding items_drawn
are_items seed calls workers zero some few = tt
are_items seed calls workers (suc done) some few =
    one_more (items_drawn seed calls workers done) (item_drawn calls workers (suc done) (draws_from (state_after seed done))) (are_items seed calls workers done some few)
    (is_item calls workers (suc done) (draws_from (state_after seed done)) some few)

-- calls alone may be queued anywhere, and one run may follow them
abbrev AreCalls : List Item → Type 0
AreCalls [] = Unit {0}
AreCalls (Queue w call ∷ items) = AreCalls items
AreCalls (other ∷ items) = ⊥

one_call : (items : List Item) (calls workers number : ℕ) (draws : Draws) → AreCalls items → AreCalls (items ++ item_drawn calls workers number draws ∷ [])
unfolding item_drawn
one_call [] calls workers number draws all = tt
one_call (Queue w call ∷ items) calls workers number draws all = one_call items calls workers number draws all
one_call (other ∷ items) calls workers number draws all = absurd all

are_calls : (seed calls workers done : ℕ) → AreCalls (items_drawn seed calls workers done)
unfolding items_drawn
are_calls seed calls workers zero = tt
are_calls seed calls workers (suc done) = one_call (items_drawn seed calls workers done) calls workers (suc done) (draws_from (state_after seed done)) (are_calls seed calls workers done)

then_run : (items : List Item) (plan : Plan) → AreCalls items → AreInOrder at_first (items ++ Run plan ∷ [])
then_run [] plan all = (refl, tt)
then_run (Queue w call ∷ items) plan all = (refl, then_run items plan all)
then_run (other ∷ items) plan all = absurd all

pub jobs : WorkloadsAreJobs
jobs seed calls workers some few = record {
  some_nodes = omega arith;
  few_nodes = omega arith;
  some_swaps = omega arith;
  few_swaps = omega arith;
  items = one_more _ _ (are_items seed calls workers calls some few) tt;
  ordered = then_run (items_drawn seed calls workers calls) _ (are_calls seed calls workers calls);
}
