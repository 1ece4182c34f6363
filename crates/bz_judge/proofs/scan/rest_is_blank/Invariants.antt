use Rattle.std.proofs.Common.{◌≡◌, ◌+◌, true}
use Rattle.std.specs.Prelude.{◌==◌, slice_index}
use Rattle.bz_layout.specs.declared.sizes.TheConstants.{SUPERBLOCK_USED}
use Rattle.bz_slotted.specs.Tests.{every}
use Rattle.bz_judge.proofs.scan.rest_is_blank.Given as goal

abbrev pub invariant-loop-i : goal.invariant-loop-i
invariant-loop-i l = every l.i (λ i. slice_index l.image (SUPERBLOCK_USED + i) == 0) ≡ true
