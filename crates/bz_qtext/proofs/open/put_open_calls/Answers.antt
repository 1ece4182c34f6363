use Rattle.bz_ring.specs.Journal.{at_moment}
use Rattle.bz_qtext.proofs.OpenLemmas.{lines_none, lines_more}
use Rattle.bz_qtext.proofs.open.put_open_calls.Goals as goal

pub loop-w-init : goal.loop-w-init
loop-w-init c = lines_none c.args.out.now.items (at_moment c.args.moment c.args.queue.now.log.past)

pub loop-w-preserved : goal.loop-w-preserved
loop-w-preserved c = lines_more c.args.out.now.items c.loop-w.out.items c.put_open.new.out.items c.loop-w.w (at_moment c.args.moment c.args.queue.now.log.past) c.loop-w.invariant c.in_ok-put_open.ensures
