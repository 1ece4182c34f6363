use Rattle.std.proofs.Common.{take, drop, arith}
use Rattle.std.specs.Io.KnownBytes.{Appends}
use Rattle.std.proofs.lemmas.List.{take_rest}
use Rattle.std.proofs.lemmas.Grind.{common_steps}
use Rattle.bz_io.proofs.Grown.{appends_part, grew_front}
use Rattle.bz_io.proofs.writing.write_all.Goals as goal

pub loop-done-preserved : goal.loop-done-preserved
loop-done-preserved g c =
    let took : Appends (g.K.Sink.held c.loop-done.sink) (g.K.Sink.held c.write.new.self) (take c.in-Ok.count (drop c.loop-done.done c.args.bytes.now)) = rw (take_rest c.args.bytes.now c.loop-done.done) at c.in-Ok.ensures.bytes in
    (grind (arith, common_steps, c.in-Ok.ensures.bound), appends_part _ _ _ _ _ _ c.loop-done.invariant.1 took, omega (arith, c.in-Ok.ensures.cause.later))

pub returns-in-Err-clause-front : goal.returns-in-Err-clause-front
returns-in-Err-clause-front g c = grew_front _ _ _ c.loop-done.done _ c.loop-done-test.true c.loop-done.invariant.1 c.in-Err.ensures.bytes
