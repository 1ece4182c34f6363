-- How a table with one flag a slot is seen: the places of the flags that stand.
use Rattle.std.specs.Prelude.{◌≡◌, ℕ, ◌<◌, Bool, false, List, length, filter, slice_index_or}
use Rattle.std.specs.List.{range_with_len}
use Rattle.bz_layout.specs.Slots.{FreeSlots}

-- the places that are marked free, rising
abbrev pub free_places : List Bool → List ℕ
free_places flags = filter (λ place. slice_index_or flags place false) (range_with_len 0 (length flags))

-- a slot for each flag, free where the flag stands
abbrev pub slots_of : List Bool → FreeSlots
slots_of flags = record { nodes = length flags; free = free_places flags }

-- no place below this one is marked free
abbrev pub NoneFreeBelow : ℕ → List Bool → Type 0
NoneFreeBelow end flags = (place : ℕ) → place < end → slice_index_or flags place false ≡ false
