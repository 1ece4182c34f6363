use Rattle.std.proofs.Common.{arith}
use Rattle.bz_queue.specs.Inside.Kept.{view_of}
use Rattle.bz_queue.proofs.Powered.{kept-started}
use Rattle.bz_queue.proofs.Refusing.{step-other, step-first}
use Rattle.bz_queue.proofs.recovery.step_recovering.Goals as goal

pub returns-then-w-gt0 : goal.returns-then-w-gt0
returns-then-w-gt0 c = record { kept = kept-started c.args.parts.now c.requires.power c.requires.started; applied = step-other (view_of c.args.parts.now) c.args.w (omega arith) }

pub returns : goal.returns
returns c = record { kept = c.recover.ensures.kept; applied = step-first (view_of c.args.parts.now) (view_of c.recover.new.parts) c.args.w c.recover.result (omega arith) c.recover.ensures.recovers }
