-- Words of a descriptor are stored before the swap is published.
use Rattle.std.proofs.Common.{◌≡◌, ◌≢◌, ℕ, false, arith}
use Rattle.std.proofs.lemmas.Grind.{common_steps}
use Rattle.bz_swap_machine.specs.Machine.{Entries, Memory}
use Rattle.bz_swap_machine.specs.Changes.{with_field}
use Rattle.bz_swap_machine.specs.Sound.{Sound}
use Rattle.bz_swap_machine.specs.Keeps.{Keeps, KeepsDescriptor}

-- a word of a descriptor is stored before its swap is published
pub sound-field : (e : ℕ → Entries) (m : Memory) (s k v : ℕ) → m.published s ≡ false → Sound e m → Sound e (with_field m s k v)
sound-field e m s k v p g = grind (arith, common_steps, g)

pub keeps-field : (e : ℕ → Entries) (m : Memory) (s k v : ℕ) → Keeps e m (with_field m s k v)
keeps-field e m s k v = grind (arith, common_steps)

pub descriptor-field : (m : Memory) (s k v t : ℕ) → t ≢ s → KeepsDescriptor m (with_field m s k v) t
descriptor-field m s k v t ne = grind (arith, common_steps)
