-- How many swaps a merge may still ask for, and how many of them it was told to have taken effect.
use Rattle.std.specs.Prelude.{ℕ, ◌+◌, if◌then◌else◌, slice_index}
use Rattle.bz_layout.specs.declared.sizes.TheConstants.{STATUS_AT}
use Rattle.bz_word.specs.Statuses.{status}
use Rattle.bz_merge.specs.Plans.{Merging}
use Rattle.bz_merge.specs.declared.phase.MergePhase.{MergePhase}
use Rattle.bz_merge.specs.declared.phase.MergePhase.TheVariants.{FreezeBeside, Guard, Store, Flush, Swap, Done, Restart, NoSlot, NoSwap}

-- the freeze of the viewed leaf, that of the neighbour, and the swap of the link to the parent: all three up to the first, also where it ends
-- because no neighbour has room, which is told before any freeze; and none once it has ended in another way. A leaf that was frozen when it
-- was read is passed over
abbrev pub merge_swaps : MergePhase → ℕ
merge_swaps FreezeBeside = 2
merge_swaps Guard = 1
merge_swaps (Store j) = 1
merge_swaps (Flush j) = 1
merge_swaps Swap = 1
merge_swaps Done = 0
merge_swaps Restart = 0
merge_swaps NoSlot = 0
merge_swaps NoSwap = 0
merge_swaps phase = 3

-- the swaps that freeze a leaf with this status: one, unless it is frozen
abbrev pub freezes_of : ℕ → ℕ
freezes_of st = if (status st).frozen then 0 else 1

-- those of the viewed leaf and of the neighbour, by the statuses that were read
abbrev pub both_freezes : Merging → ℕ
both_freezes r = freezes_of r.status + freezes_of (slice_index r.beside STATUS_AT)

-- while it goes on it has frozen the viewed leaf before it freezes the neighbour, and both before it looks at the guard again; the swap of
-- the link is its last act where it takes effect
abbrev pub merge_made : Merging → MergePhase → ℕ
merge_made r FreezeBeside = freezes_of r.status
merge_made r Guard = both_freezes r
merge_made r (Store j) = both_freezes r
merge_made r (Flush j) = both_freezes r
merge_made r Swap = both_freezes r
merge_made r phase = 0
