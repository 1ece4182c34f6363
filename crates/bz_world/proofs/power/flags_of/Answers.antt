use Rattle.std.proofs.Common.{arith}
use Rattle.bz_world.proofs.Flags.{copied_one}
use Rattle.bz_world.proofs.power.flags_of.Goals as goal

pub loop-w-preserved : goal.loop-w-preserved
loop-w-preserved c = copied_one c.args.access.now c.loop-w.w c.loop-w.flags.items c.push.new.self.items c.flush_next.result (omega (arith, c.loop-w-test.true, c.requires.crew)) c.flush_next.ensures.told c.push.ensures.items c.loop-w.invariant
