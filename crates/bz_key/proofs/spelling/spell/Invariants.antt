use Rattle.bz_key.proofs.Spellings.{IsWritten}
use Rattle.bz_key.proofs.spelling.spell.Given as goal

abbrev pub invariant-loop-byte : goal.invariant-loop-byte
invariant-loop-byte l = IsWritten l.bytes l.initial.out l.out l.byte-index l.end
