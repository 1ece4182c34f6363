use Rattle.bz_qscript.specs.Script.{job_of}
use Rattle.bz_qrun.proofs.RunLemmas.{ran_over, is_of, is_ring_in, start_in, capacity_in}
use Rattle.bz_qrun.proofs.run.run_over.Goals as goal

pub tell-told-requires-clause-ring : goal.tell-told-requires-clause-ring
tell-told-requires-clause-ring g c =
    let done = rw c.deref.ensures.value at c.run_items-end.ensures in
    let ran = ran_over (job_of c.args.script.now) c.requires.new.0 c.args.queue c.args.waiting c.run_items-end.result c.run_items-end.new.world c.requires.new.1 c.requires.none_wait done in
    is_ring_in (job_of c.args.script.now) c.requires.new.0 _ c.requires.job (is_of (job_of c.args.script.now) c.requires.new.0 c.run_items-end.result _ ran)

pub tell-told-requires-clause-start : goal.tell-told-requires-clause-start
tell-told-requires-clause-start g c =
    let done = rw c.deref.ensures.value at c.run_items-end.ensures in
    let ran = ran_over (job_of c.args.script.now) c.requires.new.0 c.args.queue c.args.waiting c.run_items-end.result c.run_items-end.new.world c.requires.new.1 c.requires.none_wait done in
    start_in (job_of c.args.script.now) c.requires.new.0 _ (is_of (job_of c.args.script.now) c.requires.new.0 c.run_items-end.result _ ran)

pub tell-told-requires-clause-capacity : goal.tell-told-requires-clause-capacity
tell-told-requires-clause-capacity g c =
    let done = rw c.deref.ensures.value at c.run_items-end.ensures in
    let ran = ran_over (job_of c.args.script.now) c.requires.new.0 c.args.queue c.args.waiting c.run_items-end.result c.run_items-end.new.world c.requires.new.1 c.requires.none_wait done in
    capacity_in (job_of c.args.script.now) c.requires.new.0 _ (is_of (job_of c.args.script.now) c.requires.new.0 c.run_items-end.result _ ran)

pub returns-clause-ran : goal.returns-clause-ran
returns-clause-ran g c = λ marks is.
    let done = rw c.deref.ensures.value at c.run_items-end.ensures in
    let ran = ran_over (job_of c.args.script.now) marks c.args.queue c.args.waiting c.run_items-end.result c.run_items-end.new.world is c.requires.none_wait done in
    record { how = c.run_items-end.result; ran = ran; tells = c.tell-told.ensures.told }
