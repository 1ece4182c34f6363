use Rattle.std.proofs.Common.{◌≡◌, length, take, drop}
use Rattle.bz_image.specs.Worlds.{durable_words}
use Rattle.bz_image.specs.declared.write.TheConstants.{PIECE_WORDS}
use Rattle.bz_image.proofs.write.durable_piece.Given as goal

-- the words so far
abbrev pub invariant-loop-i : goal.invariant-loop-i
invariant-loop-i l = (length l.piece ≡ PIECE_WORDS) × (take l.i l.piece ≡ take l.i (drop l.first (durable_words l.world)))
