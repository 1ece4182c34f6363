use Rattle.std.proofs.Common.{refl, sym}
use Rattle.bz_sched.specs.Fuses.{with_fuse}
use Rattle.bz_sched.proofs.EnoughLemmas.{is_in, is_out}
use Rattle.bz_sched.proofs.ReadyLemmas.{keeps_none, open_is_ready, some_waits}
use Rattle.bz_sched.proofs.turn.get_ready.Goals as goal

pub returns-then-has_open-clause-ends : goal.returns-then-has_open-clause-ends
returns-then-has_open-clause-ends c = λ fuse. (keeps_none c.args.world.now (with_fuse c.args.queue.now fuse) c.requires.ready, open_is_ready c.args.world.now (with_fuse c.args.queue.now fuse) c.args.w (sym c.if-has_open.ensures))

pub begin_next-requires-clause-some : goal.begin_next-requires-clause-some
begin_next-requires-clause-some c = some_waits _ _ c.requires.busy (sym c.if-has_open.ensures)

pub returns-then-has_open-clause-enough : goal.returns-then-has_open-clause-enough
returns-then-has_open-clause-enough c = λ most fuse goes. (refl, goes.room, is_in most c.args.w c.args.world.now c.args.queue.now.calls goes.state (sym c.if-has_open.ensures))

pub returns-clause-enough : goal.returns-clause-enough
returns-clause-enough c = λ most fuse goes. c.begin_next.ensures.enough most goes.room (is_out most c.args.w c.args.world.now c.args.queue.now.calls goes.state (sym c.if-has_open.ensures))
