-- Which node slots are free.
use Rattle.std.specs.Prelude.{◌≢◌, ℕ, ◌<◌, ◌==◌, not, List, length, filter, drop, slice_index, All, Contains}
use Rattle.std.specs.List.{range_with_len}
use Rattle.std.specs.List.Sorted.{IsStrictlyIncreasing}

-- the number of slots, and those that are free
pub record FreeSlots : Type 0 where
  pub nodes : ℕ
  pub free : List ℕ

-- every slot is free
abbrev pub all_free : ℕ → FreeSlots
all_free n = record { nodes = n; free = range_with_len 0 n }

-- the slots without this one
abbrev pub without : ℕ → List ℕ → List ℕ
without slot free = filter (λ s. not (s == slot)) free

-- the free slots rise, and there are such slots
pub record IsInOrder (s : FreeSlots) : Type 0 where
  pub rising : IsStrictlyIncreasing s.free
  pub within : All (λ slot. slot < s.nodes) s.free

-- of slots in order, the k lowest that are taken are different slots, which were free and are so no more
pub record AreTaken (s : FreeSlots) (k : ℕ) : Type 0 where
  pub rising : (i j : ℕ) → i < j → j < length s.free → slice_index s.free i < slice_index s.free j
  pub gone : (i : ℕ) → i < k → ¬ Contains (drop k s.free) (slice_index s.free i)
  pub others : (slot : ℕ) → Contains (drop k s.free) slot → Contains s.free slot

abbrev pub TakenSlotsAreGone : Type 0
TakenSlotsAreGone = (s : FreeSlots) (k : ℕ) → IsInOrder s → AreTaken s k

-- the slot that is held is free no more, and every other is as it was
pub record IsHeld (slot : ℕ) (free : List ℕ) : Type 0 where
  pub gone : ¬ Contains (without slot free) slot
  pub stays : (other : ℕ) → Contains free other → other ≢ slot → Contains (without slot free) other
  pub others : (other : ℕ) → Contains (without slot free) other → Contains free other

abbrev pub HeldSlotIsGone : Type 0
HeldSlotIsGone = (slot : ℕ) (free : List ℕ) → IsHeld slot free

-- where every slot is free, each number below theirs is one
abbrev pub AllSlotsAreFree : Type 0
AllSlotsAreFree = (n slot : ℕ) → slot < n → Contains (all_free n).free slot
