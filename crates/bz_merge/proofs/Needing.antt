-- A merge takes no more than two slots.
use Rattle.std.proofs.Common.{◌≤◌, arith}
use Rattle.bz_layout.specs.declared.thresholds.TheConstants.{MERGE_SLOTS}
use Rattle.bz_merge.specs.Facts.{merge_needs}
use Rattle.bz_merge.specs.declared.phase.MergePhase.{MergePhase}
use Rattle.bz_merge.specs.declared.phase.MergePhase.TheVariants.{Fresh, Word, Again, Beside, Parent, Still, Freeze, FreezeBeside, Guard, Store, Flush, Swap, Done, Restart, NoNeighbour, NoSlot, NoSwap}

pub needs-few : (phase : MergePhase) → merge_needs phase ≤ MERGE_SLOTS
needs-few Fresh = omega arith
needs-few (Word i) = omega arith
needs-few Again = omega arith
needs-few (Beside i) = omega arith
needs-few Parent = omega arith
needs-few Still = omega arith
needs-few Freeze = omega arith
needs-few FreezeBeside = omega arith
needs-few Guard = omega arith
needs-few (Store i) = omega arith
needs-few (Flush i) = omega arith
needs-few Swap = omega arith
needs-few Done = omega arith
needs-few Restart = omega arith
needs-few NoNeighbour = omega arith
needs-few NoSlot = omega arith
needs-few NoSwap = omega arith
