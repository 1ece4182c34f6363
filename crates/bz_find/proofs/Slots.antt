-- The slot that a look-up names is one of the memory.
use Rattle.std.proofs.Common.{◌≡◌, ℕ, ◌<◌, subst}
use Rattle.std.specs.Prelude.{Some}
use Rattle.bz_task.specs.Requests.{Hears}
use Rattle.bz_task.specs.Scene.{Scene, Stage, Waiting, Took}
use Rattle.bz_task.specs.declared.todo.Seen.{Seen}
use Rattle.bz_task.specs.declared.todo.Seen.TheVariants.{Start, Read as Was, Stored, Flushed, Swapped, NoSwap}
use Rattle.bz_task.specs.declared.todo.Todo.TheVariants.{Read, Finish}
use Rattle.bz_find.specs.Facts.{find_facts}
use Rattle.bz_find.specs.Phases.{find_asks}
use Rattle.bz_find.specs.declared.find.Find.{Find}
use Rattle.bz_find.specs.declared.phase.FindPhase.{FindPhase}
use Rattle.bz_find.specs.declared.phase.FindPhase.TheVariants.{Fresh, Status, Header, Searching, Again, Link as Of_link, Guard, Viewed, Changed}

-- an answer to a read
pub read-only : (P : Seen → Type 0) (a : ℕ) → ((v : ℕ) → P (Was v)) → (seen : Seen) → Hears (Some (Read a)) seen → P seen
read-only P a h Start e = absurd (e)
read-only P a h (Was v) e = h v
read-only P a h Stored e = absurd (e)
read-only P a h Flushed e = absurd (e)
read-only P a h (Swapped won) e = absurd (e)
read-only P a h NoSwap e = absurd (e)

-- the end is not answered
pub no-answer : (P : Type 0) (seen : Seen) → Hears (Some Finish) seen → P
no-answer P Start e = absurd (e)
no-answer P (Was v) e = absurd (e)
no-answer P Stored e = absurd (e)
no-answer P Flushed e = absurd (e)
no-answer P (Swapped won) e = absurd (e)
no-answer P NoSwap e = absurd (e)

pub slot-of : (t : Find) (phase : FindPhase) (seen : Seen) (stage : Stage) (s : Scene) → s.past.config ≡ t.config → find_facts t phase stage s → Hears (find_asks t phase) seen → t.link.slot < t.config.nodes
slot-of t phase seen Took s e f h = absurd (f)
slot-of t Fresh seen Waiting s e f h = subst (λ c. t.link.slot < c.nodes) e f.slot
slot-of t Status seen Waiting s e f h = subst (λ c. t.link.slot < c.nodes) e f.1.slot
slot-of t Header seen Waiting s e f h = subst (λ c. t.link.slot < c.nodes) e f.1.reading.known.slot
slot-of t Searching seen Waiting s e f h = subst (λ c. t.link.slot < c.nodes) e f.1.opened.reading.known.slot
slot-of t Again seen Waiting s e f h = subst (λ c. t.link.slot < c.nodes) e f.1.opened.reading.known.slot
slot-of t Of_link seen Waiting s e f h = subst (λ c. t.link.slot < c.nodes) e f.1.opened.reading.known.slot
slot-of t (Guard at) seen Waiting s e f h = subst (λ c. t.link.slot < c.nodes) e f.1.led.leaf.all.known.slot
slot-of t (Viewed at) seen Waiting s e f h = no-answer (t.link.slot < t.config.nodes) seen h
slot-of t Changed seen Waiting s e f h = no-answer (t.link.slot < t.config.nodes) seen h
