-- Where a recovery has ended, the words meet the condition of a renewal.
use Rattle.std.proofs.Common.{◌≡◌, ℕ, ◌^◌, ◌<◌, List, length, arith, sym, ◌∙◌, inl, inr}
use Rattle.std.specs.Prelude.{slice_index}
use Rattle.std.proofs.lemmas.Bool.{cases_lt}
use Rattle.std.proofs.lemmas.List.{get_or_past}
use Rattle.bz_swap_cells.specs.Store.{IsOutside}
use Rattle.bz_layout.specs.Addresses.{swap_address}
use Rattle.bz_sweep.specs.Areas.{size_of}
use Rattle.bz_sweep.specs.declared.area.Area.{Area}
use Rattle.bz_swap.specs.Power.{AreRecovered}
use Rattle.bz_sweep.specs.Laws.{RecoveredMemoriesMayBeRenewed}
use Rattle.bz_sweep.specs.Words.{IsShared}

shared : (r : Area) (swaps a : ℕ) → swaps ≡ r.swaps → IsOutside swaps a → a < size_of r → IsShared r a
shared r swaps a same outside within = record {
  within = within;
  outside = elim outside [ inl low ↦ inl low | inr high ↦ inr (omega arith) ];
}

-- the words are plain, also past the memory's end
recovered : (r : Area) (v : ℕ → ℕ) (swaps : ℕ) (words : List ℕ) → swaps ≡ r.swaps → length words ≡ size_of r → ((a : ℕ) → IsShared r a → slice_index words a ≡ v a) → ((a : ℕ) → IsShared r a → v a < 2 ^ 61)
    → ((s : ℕ) → s < r.swaps → slice_index words (swap_address s) ≡ 0) → AreRecovered swaps words
recovered r v swaps words same size is plain free = record {
  plain = λ a outside. elim (cases_lt a (size_of r)) [
    | inl within ↦ (let s : IsShared r a = shared r swaps a same outside within in rw (is a s) (plain a s))
    | inr past ↦ rw (get_or_past words a 0 (omega (arith, past, size))) (omega arith)
  ];
  free = λ s below. free s (omega (arith, below, same));
}

pub may-renew : RecoveredMemoriesMayBeRenewed
may-renew r v m same cached durable idle h = record {
  idle = idle;
  same = λ a outside. elim (cases_lt a (size_of r)) [
    | inl within ↦ (let s : IsShared r a = shared r m.swaps a same outside within in h.cached a s ∙ sym (h.durable a s))
    | inr past ↦ get_or_past m.cached a 0 (omega (arith, past, cached)) ∙ sym (get_or_past m.durable a 0 (omega (arith, past, durable)))
  ];
  cached = recovered r v m.swaps m.cached same cached h.cached h.plain h.cached_free;
  durable = recovered r v m.swaps m.durable same durable h.durable h.plain h.durable_free;
}
