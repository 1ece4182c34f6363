use Rattle.std.proofs.Common.{length, ◌-◌}
use Rattle.bz_key.proofs.Readings.{IsRead}
use Rattle.bz_key.proofs.reading.decode.Given as goal

abbrev pub invariant-loop-byte : goal.invariant-loop-byte
invariant-loop-byte l = IsRead l.word l.out l.at l.count

abbrev pub decreases-loop-byte : goal.decreases-loop-byte
decreases-loop-byte l = length l.word - l.at
