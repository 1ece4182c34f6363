use Rattle.std.proofs.Common.{◌≤◌, ◌+◌, length, arith}
use Rattle.std.proofs.lemmas.Grind.{common_steps}
use Rattle.bz_io.proofs.Consumed.{gave_piece}
use Rattle.bz_io.proofs.reading.read_all.Goals as goal

pub returns-in-Err-extend_from_slice-clause-consumed : goal.returns-in-Err-extend_from_slice-clause-consumed
returns-in-Err-extend_from_slice-clause-consumed g c =
    let fits : length c.loop-piece.bytes.items + length c.read.new.into ≤ c.args.limit + 1 = grind (arith, common_steps) in
    gave_piece _ _ _ c.loop-piece.bytes.items c.read.new.into c.in-Ok.count _ c.in-Ok.ensures.bound.0 fits c.loop-piece.invariant.0 c.in-Ok.ensures.bytes.0
