use Rattle.std.proofs.Common.{◌≡◌, length}
use Rattle.bz_key.proofs.Packings.{HoldsBytes}
use Rattle.bz_key.specs.declared.limits.TheConstants.{LONGEST}
use Rattle.bz_key.proofs.packing.unpack.Given as goal

abbrev pub invariant-loop-place : goal.invariant-loop-place
invariant-loop-place l = (length l.array ≡ LONGEST) × HoldsBytes l.words l.array l.place
