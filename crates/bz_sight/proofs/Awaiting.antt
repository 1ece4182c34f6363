-- What a worker that is to fence a line awaits stays awaited where it stays in the caches.
use Rattle.std.proofs.Common.{◌≡◌, ◌≢◌, ℕ, zero, suc, ◌⊎◌, ◌<◌, ◌||◌, Bool, true, false, List, [], ◌∷◌, ◌++◌, length, slice_index, slice_set, arith, refl, sym, ap, subst, ◌∙◌, inl, inr, Option}
use Rattle.std.proofs.lemmas.Bool.{cases_eq, true≢false}
use Rattle.std.proofs.lemmas.List.{get_or-set_same, get_or-set_other}
use Rattle.bz_layout.specs.Addresses.{line_of}
use Rattle.bz_word.specs.declared.entry.Entry.{Entry}
use Rattle.bz_swap_acts.specs.declared.acted.Act.{Act}
use Rattle.bz_swap_acts.specs.declared.acted.Act.TheVariants.{Ask, Fence}
use Rattle.bz_swap_machine.specs.declared.done.Done.{Done}
use Rattle.bz_swap_machine.specs.declared.done.Done.TheVariants.{Busy, Read, Swapped, Stored, Flushed}
use Rattle.bz_swap.specs.Evictions.{IsEviction}
use Rattle.bz_swap.specs.SettledWords.{IsAwaited}
use Rattle.bz_swap.specs.Starts.{started, swapping}
use Rattle.bz_swap.specs.Steps.{IsOneAct, IsStep, IsAnswer, doing_after}
use Rattle.bz_swap.specs.SwapMemory.{SwapMemory, Doing, Idle, Reading, Swapping, Loading, Storing, Flushing, Working, idle, worker_of, doing_of, is_among, is_target}
use Rattle.bz_swap.proofs.Proved.{settled_words_stay}
use Rattle.bz_sight.specs.Awaiting.{IsToFence, Awaits, StartsKeepAwaits}

-- a flush is an ask, or else a fence
pub flush-part : (m : SwapMemory) (line : ℕ) (made : Act) (done : Done) → IsAnswer m (Flushing line) made done → ((done ≡ Busy) × (made ≡ Ask line)) ⊎ ((done ≡ Flushed) × (made ≡ Fence))
flush-part m line made Busy h = inl (refl, h)
flush-part m line made Flushed h = inr (refl, h)
flush-part m line made (Read u) h = absurd h
flush-part m line made (Swapped t) h = absurd h
flush-part m line made Stored h = absurd h

pub flushing-answer : (m : SwapMemory) (line : ℕ) (doing : Doing) (made : Act) (done : Done) → doing ≡ Flushing line → IsAnswer m doing made done → ((done ≡ Busy) × (made ≡ Ask line)) ⊎ ((done ≡ Flushed) × (made ≡ Fence))
flushing-answer m line doing made done is h = flush-part m line made done (subst (λ d. IsAnswer m d made done) is h)

-- a worker that is to fence a line after its own step has just asked for it
own-step : (old new : SwapMemory) (w : ℕ) (made : Act) (done : Done) (told : Option ℕ) (a : ℕ) → IsStep old w made done told new → IsToFence new w a → IsAwaited new w a
own-step old new w made done told a step at = by-done done refl (sym step.one.doing ∙ at.doing)
  where
    by-done : (d : Done) → done ≡ d → doing_after (doing_of old w) d ≡ Flushing (line_of a) → IsAwaited new w a
    by-done Busy is doing = elim (flushing-answer new (line_of a) (doing_of old w) made done doing step.one.answer) [
      | inl ask ↦ settled_words_stay.asked old new w (line_of a) done a (subst (λ act. IsOneAct old w act done new) ask.1 step.one) refl
      | inr fence ↦ absurd (cc (is, fence.0))
    ]
    by-done (Read u) is doing = absurd (cc doing)
    by-done (Swapped t) is doing = absurd (cc doing)
    by-done Stored is doing = absurd (cc doing)
    by-done Flushed is doing = absurd (cc doing)

pub step-awaits : (old new : SwapMemory) (w : ℕ) (made : Act) (done : Done) (told : Option ℕ) → IsStep old w made done told new → (v a : ℕ) → slice_index new.cached a ≡ slice_index old.cached a → Awaits old v a → Awaits new v a
step-awaits old new w made done told step v a cached before at = elim (cases_eq v w) [
  | inl same ↦ subst (λ u. IsAwaited new u a) (sym same) (own-step old new w made done told a step (subst (λ u. IsToFence new u a) same at))
  | inr other ↦ (
      let stays : worker_of new v ≡ worker_of old v = step.one.others.workers v other in
      settled_words_stay.awaited old new w v made done a step.one (λ is. other (sym is)) cached
      (before (record { doing = ap (λ (u : Working). u.doing) (sym stays) ∙ at.doing; fence = ap (λ (u : Working). u.flush_next) (sym stays) ∙ at.fence })))
]

pub eviction-awaits : (old new : SwapMemory) (e : ℕ) (told : Option ℕ) → IsEviction old e told new → (v a : ℕ) → Awaits old v a → Awaits new v a
eviction-awaits old new e told h v a before at =
    let stays : worker_of new v ≡ worker_of old v = ap (λ (m : SwapMemory). worker_of m v) h.is in
    settled_words_stay.evicted old new e told v a h
    (before (record { doing = ap (λ (u : Working). u.doing) (sym stays) ∙ at.doing; fence = ap (λ (u : Working). u.flush_next) (sym stays) ∙ at.fence }))

-- where one worker begins, and no act is made
begins : (m n : SwapMemory) (w : ℕ) (now : Working) → n.workers ≡ slice_set m.workers w now → now.flush_next ≡ false → w < length m.workers → (v a : ℕ) → (IsAwaited m v a → IsAwaited n v a) → Awaits m v a → Awaits n v a
begins m n w now set not within v a same before at = elim (cases_eq v w) [
  | inl is ↦ (
      let here : worker_of n v ≡ now = ap (λ u. worker_of n u) is ∙ (ap (λ (l : List Working). slice_at l w) set ∙ get_or-set_same m.workers w now idle within) in
      absurd (true≢false (sym at.fence ∙ (ap (λ (u : Working). u.flush_next) here ∙ not))))
  | inr other ↦ (
      let stays : worker_of n v ≡ worker_of m v = ap (λ (l : List Working). slice_at l v) set ∙ get_or-set_other m.workers w v now idle other in
      same (before (record { doing = ap (λ (u : Working). u.doing) (sym stays) ∙ at.doing; fence = ap (λ (u : Working). u.flush_next) (sym stays) ∙ at.fence })))
]
  where
    slice_at : List Working → ℕ → Working
    slice_at l i = worker_of (record m { workers = l }) i

both : (t all front : Bool) → t || all ≡ false → (all ≡ false → front ≡ false) → t || front ≡ false
both true all front none only = absurd cc
both false all front none only = only none

-- what none of all swaps names, none of the first ones does
among-front : (begun more : List (List Entry)) (a : ℕ) → is_among (begun ++ more) a ≡ false → is_among begun a ≡ false
among-front [] more a none = refl
among-front (entries ∷ begun) more a none = both (is_target entries a) (is_among (begun ++ more) a) (is_among begun a) none (among-front begun more a)

pub starts-keep : StartsKeepAwaits
starts-keep = record {
  start = λ m w doing v a within before. begins m (started m w doing) w (record { doing = doing; flush_next = false }) refl refl within v a
      (λ h. record { saved = h.saved; asked = h.asked; value = h.value; durable = h.durable; others = h.others }) before;
  swap = λ m w entries v a within before private. begins m (swapping m w entries) w (record { doing = Swapping m.taken; flush_next = false }) refl refl within v a
      (λ h. record { saved = h.saved; asked = h.asked; value = h.value; durable = h.durable; others = h.others }) (before (among-front m.begun (entries ∷ []) a private));
}
