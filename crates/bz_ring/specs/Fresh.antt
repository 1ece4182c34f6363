-- The words of a queue's memory that no call has changed.
use Rattle.std.specs.Prelude.{◌≡◌, ℕ, ◌-◌, ◌≤◌, List, [], ◌∷◌, ◌++◌, replicate, Some}
use Rattle.bz_layout.specs.declared.limits.TheConstants.{MIN_CAPACITY, MAX_CAPACITY, MIN_SWAPS, MAX_SWAPS}
use Rattle.bz_layout.specs.declared.sizes.TheConstants.{SUPERBLOCK_USED}
use Rattle.bz_ring.specs.declared.ring.Ring.{Ring}
use Rattle.bz_ring.specs.declared.ring.TheConstants.{QUEUE_FORMAT}
use Rattle.bz_ring.specs.Content.{size_of, content_in}

-- as many cells and descriptors as a ring may have
pub record IsRing (r : Ring) : Type 0 where
  pub some : MIN_CAPACITY ≤ r.capacity
  pub few : r.capacity ≤ MAX_CAPACITY
  pub one : MIN_SWAPS ≤ r.swaps
  pub numbered : r.swaps ≤ MAX_SWAPS

-- the format, both counters at 0, and the two sizes; and zeros to the end
abbrev pub fresh_words : Ring → List ℕ
fresh_words r = QUEUE_FORMAT ∷ 0 ∷ 0 ∷ r.capacity ∷ r.swaps ∷ [] ++ replicate (size_of r - SUPERBLOCK_USED) 0

-- fresh memory holds the empty list
abbrev pub FreshMemoryIsEmpty : Type 0
FreshMemoryIsEmpty = (r : Ring) → IsRing r → content_in r (fresh_words r) ≡ Some []
