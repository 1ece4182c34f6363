-- What it takes to go on, by what is asked for.
use Rattle.std.proofs.Common.{◌≡◌, ℕ, List, Option, Some, subst}
use Rattle.bz_word.specs.declared.entry.Entry.{Entry}
use Rattle.bz_task.specs.Requests.{Answers, Tells}
use Rattle.bz_task.specs.Scene.{Scene, Waiting, here}
use Rattle.bz_task.specs.Swaps.{Stand}
use Rattle.bz_task.specs.declared.todo.Seen.{Seen}
use Rattle.bz_task.specs.declared.todo.Seen.TheVariants.{Start, Read as Was, Stored, Flushed, Swapped, NoSwap}
use Rattle.bz_task.specs.declared.todo.Todo.{Todo}
use Rattle.bz_task.specs.declared.todo.Todo.TheVariants.{Read, Swap}
use Rattle.bz_undisturbed.specs.Undisturbed.{GoesOn}

same-entries : (a b : List Entry) → Some (Swap a) ≡ Some (Swap b) → a ≡ b
same-entries a b e = cc

-- no swap, and no answer that could differ
pub idles : (asks : Option Todo) (differs : Seen → Type 0) (s : Scene) → ((entries : List Entry) → asks ≡ Some (Swap entries) → ⊥) → ((seen : Seen) → differs seen → ⊥) → GoesOn asks differs s
idles asks differs s silent alike = record { stands = λ entries e. absurd (silent entries e); same = λ seen t d. alike seen d }

-- a swap whose expected values stand
pub swaps : (entries : List Entry) (differs : Seen → Type 0) (s : Scene) → Stand entries (here s) → ((seen : Seen) → differs seen → ⊥) → GoesOn (Some (Swap entries)) differs s
swaps entries differs s h alike = record { stands = λ other e. subst (λ z. Stand z (here s)) (same-entries entries other e) h; same = λ seen t d. alike seen d }

told : (a : ℕ) (differs : Seen → Type 0) (s : Scene) → ((v : ℕ) → Answers s a v → differs (Was v) → ⊥) → (seen : Seen) → Tells (Some (Read a)) Waiting seen s → differs seen → ⊥
told a differs s h Start t d = t
told a differs s h (Was v) t d = h v t d
told a differs s h Stored t d = t
told a differs s h Flushed t d = t
told a differs s h (Swapped won) t d = t
told a differs s h NoSwap t d = t

-- a read whose answers do not differ
pub reads : (a : ℕ) (differs : Seen → Type 0) (s : Scene) → ((v : ℕ) → Answers s a v → differs (Was v) → ⊥) → GoesOn (Some (Read a)) differs s
reads a differs s h = record { stands = λ entries e. absurd (cc); same = told a differs s h }
