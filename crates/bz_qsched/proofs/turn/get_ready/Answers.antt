use Rattle.std.proofs.Common.{sym}
use Rattle.bz_qsched.specs.Fuses.{with_fuse}
use Rattle.bz_qsched.proofs.ReadyLemmas.{keeps_none, open_is_ready, some_waits}
use Rattle.bz_qsched.proofs.turn.get_ready.Goals as goal

pub returns-then-has_open-clause-ends : goal.returns-then-has_open-clause-ends
returns-then-has_open-clause-ends c = λ fuse. (keeps_none c.args.world.now (with_fuse c.args.queue.now fuse) c.requires.ready, open_is_ready c.args.world.now (with_fuse c.args.queue.now fuse) c.args.w (sym c.if-has_open.ensures))

pub begin_next-requires-clause-some : goal.begin_next-requires-clause-some
begin_next-requires-clause-some c = some_waits _ _ c.requires.busy (sym c.if-has_open.ensures)
