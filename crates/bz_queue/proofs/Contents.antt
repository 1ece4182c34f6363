-- The durable words decode to the list exactly where the values of the swap memory hold it.
use Rattle.std.proofs.Common.{◌≡◌, ℕ, List, [], sym, ap, subst, ◌∙◌}
use Rattle.bz_swap_cells.specs.FromPm.Words.{Words}
use Rattle.bz_swap.specs.Resolve.{resolve}
use Rattle.bz_swap.specs.SwapMemory.{SwapMemory, memory_words, value_at}
use Rattle.bz_mark.specs.WordsAfter.{words_after_marks}
use Rattle.bz_ring.specs.declared.marks.QMark.{QMark}
use Rattle.bz_ring.specs.declared.ring.Ring.{Ring}
use Rattle.bz_ring.specs.Calls.{items_after}
use Rattle.bz_ring.specs.ContentLaws.{HoldsItems}
use Rattle.bz_ring.specs.Fresh.{IsRing, fresh_words}
use Rattle.bz_ring.specs.Journal.{memory_of}
use Rattle.bz_ring.specs.Sound.{Decodes, durable_after, first_items, items_or_none}
use Rattle.bz_ring.proofs.Proved.{content_is_these, fresh_memory_is_empty}

-- a queue's list begins empty
pub begins-empty : (r : Ring) (start : List ℕ) → IsRing r → start ≡ fresh_words r → first_items r start ≡ []
begins-empty r start is fresh = ap (first_items r) fresh ∙ ap items_or_none (fresh_memory_is_empty r is)

pub holds-now : (r : Ring) (m : SwapMemory) (start : List ℕ) (past : List QMark) → memory_words m ≡ words_after_marks start (memory_of past) → m.swaps ≡ r.swaps → Decodes r start past
    → HoldsItems r (value_at m) (items_after r.capacity (first_items r start) past)
holds-now r m start past words swaps decodes =
    let items = items_after r.capacity (first_items r start) past in
    let there : HoldsItems r (resolve r.swaps (durable_after start past)) items = (content_is_these r (resolve r.swaps (durable_after start past)) items).0 decodes in
    let here : HoldsItems r (resolve r.swaps m.durable) items = subst (λ (z : Words). HoldsItems r (resolve r.swaps z.durable) items) (sym words) there in
    subst (λ (k : ℕ). HoldsItems r (resolve k m.durable) items) (sym swaps) here

pub decodes-now : (r : Ring) (m : SwapMemory) (start : List ℕ) (past : List QMark) → memory_words m ≡ words_after_marks start (memory_of past) → m.swaps ≡ r.swaps
    → HoldsItems r (value_at m) (items_after r.capacity (first_items r start) past) → Decodes r start past
decodes-now r m start past words swaps holds =
    let items = items_after r.capacity (first_items r start) past in
    let here : HoldsItems r (resolve r.swaps m.durable) items = subst (λ (k : ℕ). HoldsItems r (resolve k m.durable) items) swaps holds in
    let there : HoldsItems r (resolve r.swaps (durable_after start past)) items = subst (λ (z : Words). HoldsItems r (resolve r.swaps z.durable) items) words here in
    (content_is_these r (resolve r.swaps (durable_after start past)) items).1 there
