use Rattle.std.proofs.Common.{inl, refl}
use Rattle.bz_script.specs.Script.{job_of}
use Rattle.bz_top.proofs.BaseLemmas.{config_ok, made_for, not_recovering}
use Rattle.bz_top.proofs.program.run_script.Goals as goal

pub run_world-requires-clause-first : goal.run_world-requires-clause-first
run_world-requires-clause-first g c = rw c.in-Ok-open_world.ensures.made (not_recovering c.args.base)

pub returns-in-Ok-open_world : goal.returns-in-Ok-open_world
returns-in-Ok-open_world g c = inl (c.run_world.ensures c.args.base (made_for c.args.line.marks c.args.base (job_of c.args.script.now) c.config_for-config.result c.in-Ok-open_world.world c.config_for-config.ensures c.in-Ok-open_world.ensures.made))

pub open_world-requires-clause-config : goal.open_world-requires-clause-config
open_world-requires-clause-config g c =
    rw c.config_for-config.ensures
    (config_ok c.args.line.marks (job_of c.args.script.now).nodes (job_of c.args.script.now).swaps c.requires.marks.0 c.requires.marks.1 c.requires.script.some_nodes c.requires.script.few_nodes c.requires.script.some_swaps c.requires.script.few_swaps)

pub run_world-requires-clause-new : goal.run_world-requires-clause-new
run_world-requires-clause-new g c = rw c.in-Ok-open_world.ensures.made refl

pub run_world-requires-clause-workers : goal.run_world-requires-clause-workers
run_world-requires-clause-workers g c = rw (c.in-Ok-open_world.ensures.made, c.config_for-config.ensures) refl
