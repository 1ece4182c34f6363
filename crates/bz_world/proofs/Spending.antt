-- Where no descriptor is left, the others hold those that are not taken.
use Rattle.std.proofs.Common.{◌≡◌, ◌≢◌, ℕ, ◌<◌, ◌≤◌, false, List, slice_index, arith, sym, ap, subst, ◌∙◌, inl, inr, Option, Some, None}
use Rattle.std.specs.Prelude.{get_or}
use Rattle.std.proofs.lemmas.Bool.{cases_eq, cases_lt, true≢false}
use Rattle.bz_layout.specs.declared.config.Config.{Config}
use Rattle.bz_mark.specs.Log.{Log}
use Rattle.bz_sound.specs.Calls.{Open, open_call}
use Rattle.bz_sound.specs.Memory.ImageLaws.{IsOther, AreHeldBy}
use Rattle.bz_mark.specs.Counts.{is_taken}
use Rattle.bz_mark.specs.Times.{since_on}
use Rattle.bz_refinement.specs.Story.{Story}
use Rattle.bz_swap.specs.SwapMemory.{SwapMemory, Swapping, doing_of}
use Rattle.bz_task.specs.declared.todo.Todo.{Todo}
use Rattle.bz_task.specs.declared.todo.Todo.TheVariants as todo
use Rattle.bz_world.specs.Inside.Acted.{IsBetween}
use Rattle.bz_world.specs.Inside.Going.{LacksSwap}
use Rattle.bz_world.specs.Inside.Paid.{Stock, stock_of}
use Rattle.bz_world.specs.Inside.Serving.{IsDoing, IsSlot}
use Rattle.bz_world.specs.declared.parts.Parts.{Parts}
use Rattle.bz_world.specs.declared.serving.OpenCall.{OpenCall}

-- a worker that does a swap has an open call, and the table names it
pub record IsHolder (log : Log) (owners : List ℕ) (v s : ℕ) : Type 0 where
  pub opened : Open
  pub is_open : open_call v log.past ≡ Some opened
  pub owner : slice_index owners s ≡ v

holder-by : (m : SwapMemory) (log : Log) (owners : List ℕ) (v s : ℕ) (opened : Open) → open_call v log.past ≡ Some opened → doing_of m v ≡ Swapping s → (t : Todo) → IsDoing m owners v t → IsHolder log owners v s
holder-by m log owners v s opened is swaps (todo.Read c) d = absurd (cc (d, swaps))
holder-by m log owners v s opened is swaps (todo.Load c) d = absurd d
holder-by m log owners v s opened is swaps (todo.Store a u) d = absurd (cc (d.0, swaps))
holder-by m log owners v s opened is swaps (todo.Flush line) d = absurd (cc (d.0, swaps))
holder-by m log owners v s opened is swaps todo.Finish d = absurd d
holder-by m log owners v s opened is swaps (todo.Swap entries) d =
    let same : d.swap ≡ s = cc (d.doing, swaps) in
    record { opened = opened; is_open = is; owner = subst (λ t. slice_index owners t ≡ v) same d.owner }

slot-holder : (c : Config) (m : SwapMemory) (log : Log) (story : Story) (owners : List ℕ) (stock : Stock) (v s : ℕ) (slot : Option OpenCall) → IsSlot c m log story owners stock v slot → doing_of m v ≡ Swapping s → IsHolder log owners v s
slot-holder c m log story owners stock v s None h swaps = absurd (cc (h.idle, swaps))
slot-holder c m log story owners stock v s (Some x) h swaps = holder-by m log owners v s h.opened h.call_open.is_open swaps h.asked h.doing

-- a worker with an open call, which is not this one, is one of the others
pub is-other : (p : Parts) (w : ℕ) (x : OpenCall) → IsBetween p w x → (v : ℕ) → v ≢ w → (opened : Open) → open_call v p.journal.past ≡ Some opened → IsOther p.config p.journal.past w v
is-other p w x was v other opened is = record { worker = some; configured = within; other = other; calls = record { opened = opened; is_open = is } }
  where
    some : 1 ≤ v
    some = elim (cases_eq v 0) [
      | inl zero ↦ absurd (cc (is, was.tabled.strangers v (inl zero)))
      | inr ne ↦ omega (arith, ne)
    ]

    within : v ≤ p.config.workers
    within = elim (cases_lt p.config.workers v) [
      | inl beyond ↦ absurd (cc (is, was.tabled.strangers v (inr beyond)))
      | inr fits ↦ fits
    ]

module _ (p : Parts) (w : ℕ) (l : LacksSwap p w) where
  abbrev was : IsBetween p w l.on.serving
  was = l.on.between

  -- a descriptor that is not taken is held by another worker
  record Holds (s : ℕ) : Type 0 where
    holder : ℕ
    other : holder ≢ w
    swaps : doing_of p.access holder ≡ Swapping s
    is : IsHolder p.journal p.owners.items holder s

  holds-by : (s v : ℕ) → doing_of p.access v ≡ Swapping s → Holds s
  holds-by s v swaps = record {
    holder = v;
    other = not-it;
    swaps = swaps;
    is = slot-holder p.config p.access p.journal was.story p.owners.items (stock_of p) v s (get_or p.workers.items v None) (was.others v not-it) swaps;
  }
    where
      not-it : v ≢ w
      not-it e = absurd (cc (swaps, ap (doing_of p.access) e, was.idle))

  holds : (s : ℕ) → s < p.config.swaps → is_taken s (since_on p.journal.past) ≡ false → Holds s
  holds s l-is free = elim (was.taken.held s (omega (arith, l-is, l.spent))) [
    | inl swapping ↦ holds-by s swapping.0 swapping.1
    | inr taken ↦ absurd (true≢false (sym (was.taken.shown s l-is taken) ∙ free))
  ]

  holder-is-other : (s : ℕ) (h : Holds s) → IsOther p.config p.journal.past w (slice_index p.owners.items s)
  holder-is-other s h = subst (IsOther p.config p.journal.past w) (sym h.is.owner) (is-other p w l.on.serving was h.holder h.other h.is.opened h.is.is_open)

  same-swap : (s t : ℕ) (h : Holds s) (g : Holds t) → slice_index p.owners.items s ≡ slice_index p.owners.items t → s ≡ t
  same-swap s t h g same =
      let holders : h.holder ≡ g.holder = sym h.is.owner ∙ (same ∙ g.is.owner) in
      let both : Swapping s ≡ Swapping t = sym h.swaps ∙ (ap (doing_of p.access) holders ∙ g.swaps) in
      cc both

  pub are-held : AreHeldBy (λ swap. is_taken swap (since_on p.journal.past)) p.config p.journal.past w (slice_index p.owners.items)
  are-held = record {
    held = λ s below free. holder-is-other s (holds s below free);
    one_each = λ s t s-below t-below s-free t-free same. same-swap s t (holds s s-below s-free) (holds t t-below t-free) same;
  }
