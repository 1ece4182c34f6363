use Rattle.bz_qsched.proofs.RecoveryLemmas.{started, refused_start, stopped_start}
use Rattle.bz_qsched.proofs.power_on.start_recovery.Goals as goal
use Rattle.std.proofs.Common.{refl}

pub turn_on-requires : goal.turn_on-requires
turn_on-requires c = (c.turn_off.ensures.off c.if-not-turn_off.false).off

pub returns-then-not-turn_off-clause-stopped : goal.returns-then-not-turn_off-clause-stopped
returns-then-not-turn_off-clause-stopped c = λ is. refused_start c.args.world.now _ (c.if-not-turn_off.ensures.refused refl)

pub returns-clause-started : goal.returns-clause-started
returns-clause-started c = λ is. started c.args.world.now c.turn_off.new.world c.turn_on.new.world (c.turn_off.ensures.off c.if-not-turn_off.false) (c.turn_on.ensures.on is)

pub returns-clause-stopped : goal.returns-clause-stopped
returns-clause-stopped c = λ is. stopped_start c.args.world.now c.turn_off.new.world c.turn_on.new.world (c.turn_off.ensures.off c.if-not-turn_off.false) (c.turn_on.ensures.refused is)
