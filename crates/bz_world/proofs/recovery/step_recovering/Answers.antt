use Rattle.std.proofs.Common.{arith}
use Rattle.bz_world.specs.Inside.Beginning.{world_view}
use Rattle.bz_world.proofs.Powered.{kept-started}
use Rattle.bz_world.proofs.Refusing.{step-other, step-first}
use Rattle.bz_world.proofs.recovery.step_recovering.Goals as goal

pub returns-then-w-gt0 : goal.returns-then-w-gt0
returns-then-w-gt0 c = record { kept = kept-started c.args.parts.now c.requires.power c.requires.started; applied = step-other (world_view c.args.parts.now) c.args.w (omega arith) }

pub returns : goal.returns
returns c = record { kept = c.recover.ensures.kept; applied = step-first (world_view c.args.parts.now) (world_view c.recover.new.parts) c.args.w c.recover.result (omega arith) c.recover.ensures.recovers }
