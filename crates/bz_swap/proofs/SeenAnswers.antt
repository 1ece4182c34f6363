-- What an operation answers, as callers see it.
use Rattle.std.specs.Prelude.{◌≡◌, ℕ, ◌^◌, ◌<◌, true, false}
use Rattle.std.proofs.Common.{refl, sym, ◌∙◌}
use Rattle.bz_swap_machine.specs.declared.worker.Operation.{Operation}
use Rattle.bz_swap_machine.specs.declared.worker.Operation.TheVariants as operation
use Rattle.bz_swap_machine.specs.declared.done.Done.{Done}
use Rattle.bz_swap_machine.specs.declared.done.Done.TheVariants.{Busy, Read, Swapped, Stored, Flushed}
use Rattle.bz_swap_machine.specs.Machine.{Entries, Memory}
use Rattle.bz_swap_machine.specs.Promise.{IsAnswer as IsMachineAnswer}
use Rattle.bz_swap_acts.specs.declared.acted.Act.{Act}
use Rattle.bz_swap_acts.specs.declared.acted.Act.TheVariants.{Load}
use Rattle.bz_swap.specs.Steps.{IsAnswer}
use Rattle.bz_swap.specs.SwapMemory.{SwapMemory}
use Rattle.bz_swap.specs.Inside.Parts.{doing_operation}
use Rattle.bz_swap.specs.Inside.Kept.{IsBusy}
use Rattle.bz_swap.proofs.Shown.{Shows}

-- the answer of a read or a swap
pub answer-shown : (n : SwapMemory) (e : ℕ → Entries) (y : Memory) (o : Operation) (made : Act) (done : Done) → Shows n e y → IsBusy o → IsMachineAnswer e y o done
    → (done ≡ Stored → ⊥) → (done ≡ Flushed → ⊥) → ((a v : ℕ) → o ≡ operation.Reading a → done ≡ Read v → (made ≡ Load a v) × (v < 2 ^ 61)) → IsAnswer n (doing_operation o) made done
answer-shown n e y operation.Nothing made done f busy right stored flushed load = absurd busy
answer-shown n e y (operation.Reading a) made Busy f busy right stored flushed load = tt
answer-shown n e y (operation.Reading a) made (Read v) f busy right stored flushed load =
    let (is, fits) = load a v refl refl in
    record { load = is; plain = fits; value = λ named. f.values a ∙ right.1 (sym (f.named a) ∙ named) }
answer-shown n e y (operation.Reading a) made (Swapped b) f busy right stored flushed load = absurd right
answer-shown n e y (operation.Reading a) made Stored f busy right stored flushed load = absurd (stored refl)
answer-shown n e y (operation.Reading a) made Flushed f busy right stored flushed load = absurd (flushed refl)
answer-shown n e y (operation.Swapping s) made Busy f busy right stored flushed load = tt
answer-shown n e y (operation.Swapping s) made (Read v) f busy right stored flushed load = absurd right
answer-shown n e y (operation.Swapping s) made (Swapped true) f busy right stored flushed load = f.effects s ∙ right.1
answer-shown n e y (operation.Swapping s) made (Swapped false) f busy right stored flushed load = (f.effects s ∙ right.1, f.misses s ∙ right.2)
answer-shown n e y (operation.Swapping s) made Stored f busy right stored flushed load = absurd (stored refl)
answer-shown n e y (operation.Swapping s) made Flushed f busy right stored flushed load = absurd (flushed refl)
