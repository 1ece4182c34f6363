-- What each step tells the pass that makes it.
use Rattle.std.specs.Prelude.{◌≡◌, ◌≢◌, ℕ, ◌%◌, ◌^◌, List, [], ◌∷◌, Option, Some, None}
use Rattle.atomic_table.specs.Table.{Me, Step}
use Rattle.bz_bus.specs.declared.rule.Stage.TheVariants.{Idle, Waits, Holds, Joined}
use Rattle.bz_bus.specs.declared.rule.Gain.{Gain}
use Rattle.bz_bus.specs.declared.rule.View.{View}
use Rattle.bz_bus.specs.Entries.{MayFind, IsJoinOf}
use Rattle.bz_bus.specs.Inside.Views.{staged, saw}

module _ {T E F : Type 0} where
  -- a ticket was drawn, and the word found is its number modulo 2 ^ 64
  abbrev pub drew : Step (Option T) → Me (Option T) (View E F) → ℕ → Me (Option T) (View E F) → Type 0
  drew st m n m' = (t : ℕ) × (n ≡ t % 2 ^ 64) × (m' ≡ (staged m.0 (Waits t), m.1))

  -- the empty slot was taken
  abbrev pub filled : Step (Option T) → Me (Option T) (View E F) → ℕ → Me (Option T) (View E F) → Type 0
  filled st m n m' = m' ≡ (staged m.0 (Holds 0), (0, None) ∷ m.1)

  -- the slot was given back
  abbrev pub gave : Step (Option T) → Me (Option T) (View E F) → ℕ → Me (Option T) (View E F) → Type 0
  gave st m n m' = m' ≡ (staged m.0 Idle, [])

module _ {T E F : Type 0} (entries : T → List E) where
  -- the holder has seen what the value is now
  abbrev pub raised : Step (Option T) → Me (Option T) (View E F) → ℕ → Me (Option T) (View E F) → Type 0
  raised st m n m' = (y : T) → m.1 ≡ (0, Some y) ∷ [] → m' ≡ (saw m.0 m.0.stage (entries y), m.1)

  -- a look that is served takes the slot, and sees the whole list; another changes nothing
  abbrev pub looked : (T → F) → (E → ℕ) → Step (Option T) → Me (Option T) (View E F) → ℕ → Me (Option T) (View E F) → Type 0
  looked fixed owner st m n m' = (t : ℕ) → m.0.stage ≡ Waits t
      → (n ≡ t % 2 ^ 64 → (y : T) × (m' ≡ (saw m.0 (Holds t) (entries y), (0, Some y) ∷ m.1)) × MayFind owner m.0.number m.0.free m.0.seen (entries y) × (m.0.fixed ≡ Some (fixed y)))
      × (n ≢ t % 2 ^ 64 → m' ≡ m)

module _ {T E F : Type 0} (owner : E → ℕ) where
  -- what was gained is what a join gives
  abbrev pub learnt : Step (Option T) → Me (Option T) (View E F) → ℕ → Me (Option T) (View E F) → Type 0
  learnt st m n m' = (m' ≡ (staged m.0 Idle, m.1)) × ((g : Gain E) → m.0.stage ≡ Joined g → IsJoinOf owner g.mine g.theirs g.number g.free m.0.seen)
