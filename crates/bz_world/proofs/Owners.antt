-- The worker of a swap that takes effect.
use Rattle.std.proofs.Common.{◌≡◌, ℕ, ◌<◌, slice_index, refl, sym, ap, subst, ◌∙◌, Option, Some, None}
use Rattle.std.specs.Prelude.{get_or}
use Rattle.bz_any_task.specs.Duties.{asks_of}
use Rattle.bz_swap.specs.EntryLists.{IsEntryList}
use Rattle.bz_swap.specs.SwapMemory.{Swapping, doing_of, entries_of}
use Rattle.bz_task.specs.declared.todo.Todo.{Todo}
use Rattle.bz_task.specs.declared.todo.Todo.TheVariants as todo
use Rattle.bz_world.specs.Inside.Kept.{IsAwake}
use Rattle.bz_world.specs.Inside.Paid.{stock_of}
use Rattle.bz_world.specs.Inside.Serving.{IsServing, IsDoing, IsSlot}
use Rattle.bz_world.specs.declared.parts.Parts.{Parts}
use Rattle.bz_world.specs.declared.serving.OpenCall.{OpenCall}

-- a worker that does swap s serves a call whose task asked for its entries, and the table names it
pub record IsOwner (p : Parts) (k : IsAwake p) (w s : ℕ) (slot : Option OpenCall) : Type 0 where
  pub serving : OpenCall
  pub is : slot ≡ Some serving
  pub serves : IsServing p.config p.access p.journal k.story p.owners.items (stock_of p) w serving
  pub asks : asks_of serving.task ≡ Some (todo.Swap (entries_of p.access s))
  pub owner : slice_index p.owners.items s ≡ w
  pub begun : s < p.access.taken
  pub list : IsEntryList (entries_of p.access s)

module _ (p : Parts) (k : IsAwake p) (w s : ℕ) (pending : doing_of p.access w ≡ Swapping s) where
  by-asked : (x : OpenCall) (h : IsServing p.config p.access p.journal k.story p.owners.items (stock_of p) w x) (t : Todo) → h.asked ≡ t → IsDoing p.access p.owners.items w t → IsOwner p k w s (Some x)
  by-asked x h (todo.Read c) e d = absurd (cc (d, pending))
  by-asked x h (todo.Load c) e d = absurd d
  by-asked x h (todo.Store a v) e d = absurd (cc (d.0, pending))
  by-asked x h (todo.Flush line) e d = absurd (cc (d.0, pending))
  by-asked x h todo.Finish e d = absurd d
  by-asked x h (todo.Swap entries) e d =
      let same : d.swap ≡ s = cc (d.doing, pending) in
      let entries-are : entries_of p.access s ≡ entries = subst (λ t. entries_of p.access t ≡ entries) same d.same in
      record {
        serving = x;
        is = refl;
        serves = h;
        asks = h.asks ∙ ap Some e ∙ ap (λ l. Some (todo.Swap l)) (sym entries-are);
        owner = subst (λ t. slice_index p.owners.items t ≡ w) same d.owner;
        begun = subst (λ t. t < p.access.taken) same d.begun;
        list = subst IsEntryList (sym entries-are) d.list;
      }

  by-slot : (slot : Option OpenCall) → IsSlot p.config p.access p.journal k.story p.owners.items (stock_of p) w slot → IsOwner p k w s slot
  by-slot None h = absurd (cc (h.idle, pending))
  by-slot (Some x) h = by-asked x h h.asked refl h.doing

  pub is-owner : IsOwner p k w s (get_or p.workers.items w None)
  is-owner = by-slot (get_or p.workers.items w None) (k.workers w)

-- the swaps that workers do have begun
pub pending-begun : (p : Parts) (k : IsAwake p) (v s : ℕ) → doing_of p.access v ≡ Swapping s → s < p.access.taken
pending-begun p k v s pending = (is-owner p k v s pending).begun
