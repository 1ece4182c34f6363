-- What a step answers, and the misses that it notes, as the atomic swap memory says.
use Rattle.std.specs.Prelude.{◌≡◌, ◌≢◌, ℕ, ◌/◌, Bool, true, false, slice_index}
use Rattle.std.proofs.Common.{refl, ap, sym, subst, ◌∙◌}
use Rattle.bz_swap_cells.specs.FromPm.State.{State}
use Rattle.bz_swap_acts.specs.declared.acted.Act.{Act}
use Rattle.bz_swap_acts.specs.declared.acted.Act.TheVariants.{Load, Ask, Fence}
use Rattle.bz_swap_acts.specs.Rule.{after_act, FoundRightly, IsActOf}
use Rattle.bz_swap_cells.specs.Store.{IsOutside}
use Rattle.bz_swap_machine.specs.declared.done.Done.{Done}
use Rattle.bz_swap_machine.specs.declared.done.Done.TheVariants.{Busy, Read, Swapped, Stored, Flushed}
use Rattle.bz_swap.specs.Atomic.{value_of, NotesRightly, Answers}
use Rattle.bz_swap.specs.Effects.{NotesMisses}
use Rattle.bz_swap.specs.Held.{IsHeld}
use Rattle.bz_swap.specs.Steps.{IsAnswer}
use Rattle.bz_swap.specs.SettledWords.{IsAwaited}
use Rattle.bz_swap.specs.SwapMemory.{SwapMemory, Doing, Reading, Swapping, Loading, Storing, Flushing, memory_words, memory_state, value_at, is_named, is_settled_at}
use Rattle.bz_swap.specs.declared.phase.Phase.TheVariants.{Recovering}
use Rattle.bz_swap.proofs.SettledWords.{settled-same}
use Rattle.bz_swap.proofs.AtomicValues.{value-named, value-private, entry-named}

pub notes : (old new : SwapMemory) → NotesMisses old new → NotesRightly old new
notes old new misses = record {
  miss = λ s before after. (let told = misses.lawful s before after in
      (told.0, λ all. told.1 (λ k d below. sym (value-named old _ (entry-named old s k d below)) ∙ all k d below)));
  stays = misses.kept;
}

-- a load finds the cached word, and leaves it
loaded : (old new : SwapMemory) (w : ℕ) (made : Act) (a v : ℕ) → IsActOf (memory_state old) w made (memory_state new) → made ≡ Load a v → slice_index new.cached a ≡ v
loaded old new w made a v act is =
    let found : v ≡ slice_index old.cached a = subst (FoundRightly (memory_words old)) is act.found in
    let after : memory_state new ≡ memory_state old = act.after ∙ ap (after_act w (memory_state old)) is in
    ap (λ (m : State). slice_index m.words.cached a) after ∙ sym found

read-answer : (old new : SwapMemory) (w : ℕ) (made : Act) (a v : ℕ) → new.phase ≢ Recovering → IsActOf (memory_state old) w made (memory_state new) → made ≡ Load a v → (is_named new a ≡ true → value_at new a ≡ v) → value_of new a ≡ v
read-answer old new w made a v works act is value = by_name (is_named new a) refl
  where
    by_name : (b : Bool) → is_named new a ≡ b → value_of new a ≡ v
    by_name true named = value-named new a named ∙ value named
    by_name false private = value-private new a works private ∙ loaded old new w made a v act is

-- after a flush the words of its line that were awaited are durable
flush-answer : (new : SwapMemory) → new.phase ≢ Recovering → IsHeld new → (a : ℕ) → IsOutside new.swaps a → is_settled_at new a ≡ true → value_at new a ≡ value_of new a
flush-answer new works holds a out settled = by_name (is_named new a) refl
  where
    by_name : (b : Bool) → is_named new a ≡ b → value_at new a ≡ value_of new a
    by_name true named = sym (value-named new a named)
    by_name false private = (holds.private a out private).1 ∙ sym (settled-same new a settled) ∙ sym (value-private new a works private)

pub answers : (old new : SwapMemory) (w : ℕ) (made : Act) (doing : Doing) (done : Done) → new.phase ≢ Recovering → IsHeld old → IsHeld new → IsActOf (memory_state old) w made (memory_state new) → ((l : ℕ) → made ≡ Ask l → (a : ℕ) → a / 8 ≡ l → IsAwaited new w a) → (made ≡ Fence → (a : ℕ) → IsAwaited old w a → is_settled_at new a ≡ true)
    → IsAnswer new doing made done → Answers old w new doing done
answers old new w made (Reading a) Busy works held holds act asks fences answer = tt
answers old new w made (Reading a) (Read v) works held holds act asks fences answer = read-answer old new w made a v works act answer.load answer.value
answers old new w made (Swapping s) Busy works held holds act asks fences answer = tt
answers old new w made (Swapping s) (Swapped true) works held holds act asks fences answer = answer
answers old new w made (Swapping s) (Swapped false) works held holds act asks fences answer = answer
answers old new w made (Loading a) (Read v) works held holds act asks fences answer = loaded old new w made a v act answer
answers old new w made (Storing a v) Stored works held holds act asks fences answer = tt
answers old new w made (Flushing line) Busy works held holds act asks fences answer = asks line answer
answers old new w made (Flushing line) Flushed works held holds act asks fences answer = λ a out awaited. flush-answer new works holds a out (fences answer a awaited)
answers old new w made doing done works held holds act asks fences answer = absurd answer
