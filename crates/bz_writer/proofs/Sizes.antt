-- How much is left in a phase at most, and what is asked for in it.
use Rattle.std.proofs.Common.{◌≡◌, ◌≢◌, ℕ, ◌≤◌, arith, refl}
use Rattle.std.specs.Prelude.{Option, Some, None, true}
use Rattle.bz_layout.specs.declared.config.Config.{Config}
use Rattle.bz_task.specs.Requests.{Hears, effects_in, swaps_in}
use Rattle.bz_task.specs.declared.todo.Outcome.{Outcome}
use Rattle.bz_task.specs.declared.todo.Outcome.TheVariants.{NeedsRoom}
use Rattle.bz_task.specs.declared.todo.Todo.TheVariants.{Swap as Swaps_for}
use Rattle.bz_task.specs.declared.todo.Seen.{Seen}
use Rattle.bz_task.specs.declared.todo.Seen.TheVariants.{Start, Swapped}
use Rattle.bz_task.specs.declared.todo.Todo.{Todo}
use Rattle.bz_writer.specs.Facts.{write_asks}
use Rattle.bz_writer.specs.Phases.{write_acts, write_end, write_left, write_needs, write_swaps}
use Rattle.bz_writer.specs.Plans.{Plan}
use Rattle.bz_writer.specs.declared.phase.WritePhase.{WritePhase}
use Rattle.bz_writer.specs.declared.phase.WritePhase.TheVariants.{Fresh}

pub left-few : (count : ℕ) (p : WritePhase) → write_left count p ≤ write_acts count
left-few count Fresh = omega arith
left-few count p = omega arith

pub swaps-few : (p : WritePhase) → write_swaps p ≤ 1
swaps-few Fresh = omega arith
swaps-few p = omega arith

pub needs-few : (count : ℕ) (p : WritePhase) → write_needs count p ≤ count
needs-few count Fresh = omega arith
needs-few count p = omega arith

pub asked-counted : (c : Config) (P : Plan) (p : WritePhase) → swaps_in (write_asks c P p) ≤ write_swaps p
asked-counted c P Fresh = omega arith
asked-counted c P p = omega arith

-- it never ends for want of room
pub no-room : (p : WritePhase) → write_end p ≡ Some NeedsRoom → ⊥
no-room Fresh e = absurd (cc)
no-room p e = absurd (cc)

-- once it has begun it asks for something
pub asks-some : (c : Config) (P : Plan) (p : WritePhase) → p ≢ Fresh → (todo : Todo) × (write_asks c P p ≡ Some todo)
asks-some c P Fresh ne = absurd (ne refl)
asks-some c P p ne = (_, refl)

-- only one that has asked for nothing is told to begin
pub begins-fresh : (c : Config) (P : Plan) (p : WritePhase) → Hears (write_asks c P p) Start → p ≡ Fresh
begins-fresh c P Fresh h = refl
begins-fresh c P p h = absurd (h)

-- an answer tells of an effect only where a swap was asked for
pub heard-effects : (asked : Option Todo) (seen : Seen) → Hears asked seen → effects_in seen ≤ swaps_in asked
heard-effects (Some (Swaps_for entries)) (Swapped true) h = omega arith
heard-effects asked (Swapped true) h = absurd (h)
heard-effects asked seen h = omega arith

-- what has no end goes on
pub no-end : (e : Option Outcome) → ((outcome : Outcome) → e ≡ Some outcome → ⊥) → e ≡ None
no-end None none = refl
no-end (Some outcome) none = absurd (none outcome refl)
