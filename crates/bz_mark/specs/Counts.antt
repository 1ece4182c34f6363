-- What marks show of descriptors, and how many acts a worker made. The newest mark stands first.
use Rattle.std.specs.Prelude.{◌+◌, ◌==◌, ◌&&◌, ◌||◌, if◌then◌else◌, not, ℕ, Bool, false, List, [], ◌∷◌, count_by}
use Rattle.std.specs.List.{range_with_len}
use Rattle.bz_layout.specs.Addresses.{swap_address}
use Rattle.bz_layout.specs.declared.config.Config.{Config}
use Rattle.bz_layout.specs.declared.sizes.TheConstants.{SWAP_STATUS_AT}
use Rattle.bz_mark.specs.declared.marks.Mark.{Mark}
use Rattle.bz_mark.specs.declared.marks.Mark.TheVariants.{Load, Store, Cas, Ask, Fence}

-- the status of a swap that has begun
abbrev pub BEGUN : ℕ
BEGUN = 1

-- a worker, not that of recovery, has begun a swap in a descriptor
abbrev pub is_taken : ℕ → List Mark → Bool
is_taken swap [] = false
is_taken swap (Store w a v ∷ past) = (not (w == 0) && (a == swap_address swap + SWAP_STATUS_AT && v == BEGUN)) || is_taken swap past
is_taken swap (mark ∷ past) = is_taken swap past

-- how many of so many descriptors are taken, and of those of a configuration
abbrev pub taken_among : ℕ → List Mark → ℕ
taken_among swaps past = count_by (λ swap. is_taken swap past) (range_with_len 0 swaps)

abbrev pub count_taken : Config → List Mark → ℕ
count_taken c past = taken_among c.swaps past

-- how many of these marks are acts of a worker
abbrev pub acts_by : ℕ → List Mark → ℕ
acts_by w [] = 0
acts_by w (Load v a x ∷ past) = if v == w then acts_by w past + 1 else acts_by w past
acts_by w (Store v a x ∷ past) = if v == w then acts_by w past + 1 else acts_by w past
acts_by w (Cas v a old new found ∷ past) = if v == w then acts_by w past + 1 else acts_by w past
acts_by w (Ask v line ∷ past) = if v == w then acts_by w past + 1 else acts_by w past
acts_by w (Fence v ∷ past) = if v == w then acts_by w past + 1 else acts_by w past
acts_by w (mark ∷ past) = acts_by w past
