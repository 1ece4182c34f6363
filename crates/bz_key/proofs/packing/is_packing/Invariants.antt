use Rattle.std.proofs.Common.{◌≡◌, length}
use Rattle.bz_key.specs.Packing.{packed_len}
use Rattle.bz_key.proofs.Packings.{SameWords}
use Rattle.bz_key.proofs.packing.is_packing.Given as goal

abbrev pub invariant-loop-i : goal.invariant-loop-i
invariant-loop-i l = (length l.words ≡ packed_len (length l.bytes)) × SameWords l.bytes l.words l.i
