-- What the private steps ask and ensure, of a seat's view and of the slot that it holds.
use Rattle.std.specs.Prelude.{◌≡◌, ℕ, ◌%◌, ◌^◌, List, [], ◌∷◌, Option, Some}
use Rattle.atomic_table.specs.Table.{Me}
use Rattle.bz_bus.specs.declared.rule.View.{View}
use Rattle.bz_bus.specs.declared.rule.Stage.TheVariants.{Waits, Holds}
use Rattle.bz_bus.specs.Entries.{MayFind}
use Rattle.bz_bus.specs.Inside.Views.{saw}

-- the seat has the slot, and nothing else, and its value is as P says
abbrev pub HasValue : {T V : Type 0} → Me (Option T) V → (T → Type 0) → Type 0
HasValue {T} m P = (y : T) × (m.1 ≡ (0, Some y) ∷ []) × P y

module _ {E F : Type 0} where
  -- a ticket was drawn, and this is its number modulo 2 ^ 64
  abbrev pub IsWaiting : View E F → ℕ → Type 0
  IsWaiting v n = (t : ℕ) × (v.stage ≡ Waits t) × (n ≡ t % 2 ^ 64)

  abbrev pub IsHolding : View E F → Type 0
  IsHolding v = (t : ℕ) × (v.stage ≡ Holds t)

module _ {T E F : Type 0} (entries : T → List E) (fixed : T → F) (owner : E → ℕ) where
  -- the ticket is served: the seat has the slot, and has seen the whole list
  abbrev pub IsServed : Me (Option T) (View E F) → Me (Option T) (View E F) → Type 0
  IsServed m m' = (t : ℕ) × (y : T) × (m.0.stage ≡ Waits t) × (m' ≡ (saw m.0 (Holds t) (entries y), (0, Some y) ∷ []))
      × MayFind owner m.0.number m.0.free m.0.seen (entries y) × (m.0.fixed ≡ Some (fixed y))
