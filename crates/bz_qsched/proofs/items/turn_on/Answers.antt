use Rattle.bz_qsched.proofs.ItemLemmas.{power_done}
use Rattle.bz_qsched.proofs.items.turn_on.Goals as goal

pub returns : goal.returns
returns c = rw c.end_of.ensures (power_done c.args.world.now c.power-end.new.world c.args.queue.now c.drop_after.new.queue c.drop_after.ensures.room c.args.armed c.power-end.result c.drop_after.ensures.calls c.power-end.ensures)
