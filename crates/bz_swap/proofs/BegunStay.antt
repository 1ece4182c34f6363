-- Each swap begun is a worker's operation still, or the status of its descriptor is not free.
use Rattle.std.specs.Prelude.{◌≡◌, ◌≢◌, ◌⊎◌, ℕ, ◌<◌, Bool, true, false, List, length, slice_set}
use Rattle.std.specs.declared.option.Option.{Option}
use Rattle.std.proofs.Common.{arith, refl, ap, sym, subst, ◌∙◌, inl, inr}
use Rattle.std.proofs.lemmas.Bool.{cases_eq, cases_lt}
use Rattle.std.proofs.lemmas.List.{get_or-set_same, get_or-set_other}
use Rattle.bz_word.specs.declared.entry.Entry.{Entry}
use Rattle.bz_swap_acts.specs.declared.acted.Act.{Act}
use Rattle.bz_swap_machine.specs.declared.done.Done.{Done}
use Rattle.bz_swap_machine.specs.declared.done.Done.TheVariants.{Busy, Read, Swapped, Stored, Flushed}
use Rattle.bz_swap.specs.Held.{IsHeld}
use Rattle.bz_swap.specs.Starts.{started, swapping}
use Rattle.bz_swap.specs.Steps.{IsStep, IsAnswer, doing_after}
use Rattle.bz_swap.specs.SwapMemory.{SwapMemory, Doing, Idle, Swapping, Working, idle, doing_of}
use Rattle.bz_swap.specs.TakenStatuses.{IsTaken, BegunAreTaken, BegunStayTaken}
use Rattle.bz_swap.specs.Writes.{IsVerdictWord, IsDecided}
use Rattle.bz_swap.proofs.TakenStay.{taken_statuses_stay}

abbrev BegunOrTaken : SwapMemory → ℕ → Type 0
BegunOrTaken m s = ((w : ℕ) × (doing_of m w ≡ Swapping s)) ⊎ IsTaken m s

-- a verdict is not free
verdict_some : (won : Bool) (x : ℕ) → IsVerdictWord won x → x ≢ 0
verdict_some true x (inl is) = omega (arith, is)
verdict_some true x (inr is) = omega (arith, is)
verdict_some false x (inl is) = omega (arith, is)
verdict_some false x (inr is) = omega (arith, is)

-- the worker that steps goes on with its swap, or answers it, which is decided then
own-step : (old new : SwapMemory) (w : ℕ) (made : Act) (s : ℕ) (done : Done) → doing_of new w ≡ doing_after (Swapping s) done → IsAnswer new (Swapping s) made done
    → ((won : Bool) → done ≡ Swapped won → IsDecided new s won) → BegunOrTaken new s
own-step old new w made s Busy doing answer decided = inl (w, doing)
own-step old new w made s (Read v) doing answer decided = absurd answer
own-step old new w made s (Swapped won) doing answer decided = inr (verdict_some won _ (decided won refl).cached)
own-step old new w made s Stored doing answer decided = absurd answer
own-step old new w made s Flushed doing answer decided = absurd answer

begun-step : (old new : SwapMemory) (w : ℕ) (made : Act) (done : Done) (told : Option ℕ) → IsHeld old → IsStep old w made done told new → BegunAreTaken old → BegunAreTaken new
begun-step old new w made done told held step all s begun = by_old (all s before)
  where
    before : s < old.taken
    before = omega (arith, begun, step.one.others.taken)

    by_worker : (v : ℕ) → doing_of old v ≡ Swapping s → (v ≡ w) ⊎ (v ≢ w) → BegunOrTaken new s
    by_worker v doing (inl same) =
        let mine : doing_of old w ≡ Swapping s = rw same at doing in
        own-step old new w made s done (step.one.doing ∙ ap (λ d. doing_after d done) mine) (subst (λ d. IsAnswer new d made done) mine step.one.answer) (λ won ends. step.decided s won mine ends)
    by_worker v doing (inr other) = inl (v, ap (λ (u : Working). u.doing) (step.one.others.workers v other) ∙ doing)

    by_old : BegunOrTaken old s → BegunOrTaken new s
    by_old (inl worker) = by_worker worker.0 worker.1 (cases_eq worker.0 w)
    by_old (inr taken) = inr (taken_statuses_stay.stays old new w made done told s step (omega (arith, before, held.taken)) taken)

-- what other workers do stays where an idle one begins something
other-doing : (m : SwapMemory) (w v s : ℕ) (begins : Working) → doing_of m w ≡ Idle → doing_of m v ≡ Swapping s → doing_of (record m { workers = slice_set m.workers w begins }) v ≡ Swapping s
other-doing m w v s begins is_idle doing = elim (cases_eq v w) [
  | inl same ↦ (let bad : Swapping s ≡ Idle = sym doing ∙ rw same is_idle in absurd cc)
  | inr other ↦ ap (λ (u : Working). u.doing) (get_or-set_other m.workers w v begins idle other) ∙ doing
]

begun-start : (m : SwapMemory) (w : ℕ) (doing : Doing) → doing_of m w ≡ Idle → BegunAreTaken m → BegunAreTaken (started m w doing)
begun-start m w doing is_idle all s begun = by_old (all s begun)
  where
    by_old : BegunOrTaken m s → BegunOrTaken (started m w doing) s
    by_old (inl worker) = inl (worker.0, other-doing m w worker.0 s (record { doing = doing; flush_next = false }) is_idle worker.1)
    by_old (inr taken) = inr taken

begun-swap : (m : SwapMemory) (w : ℕ) (entries : List Entry) → w < length m.workers → doing_of m w ≡ Idle → BegunAreTaken m → BegunAreTaken (swapping m w entries)
begun-swap m w entries within is_idle all s begun = elim (cases_lt s m.taken) [
  | inl before ↦ begun-start m w (Swapping m.taken) is_idle all s before
  | inr next ↦ (let same : m.taken ≡ s = omega (arith, begun, next) in
      inl (w, ap (λ (u : Working). u.doing) (get_or-set_same m.workers w (record { doing = Swapping m.taken; flush_next = false }) idle within) ∙ ap Swapping same))
]

pub begun_stay_taken : BegunStayTaken
begun_stay_taken = record {
  opening = λ phase start swaps workers s begun. absurd (omega (arith, begun));
  renewal = λ m s begun. absurd (omega (arith, begun));
  step = begun-step;
  eviction = λ old new a told h all. subst BegunAreTaken (sym h.is) all;
  start = begun-start;
  swap = begun-swap;
}
