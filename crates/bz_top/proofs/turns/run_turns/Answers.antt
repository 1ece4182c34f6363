use Rattle.std.proofs.Common.{ap, ◌∙◌, arith}
use Rattle.bz_top.proofs.ItemLemmas.{run_done, of_turns}
use Rattle.bz_top.specs.Items.{end_in}
use Rattle.bz_top.proofs.turns.run_turns.Goals as goal

pub run-end-requires : goal.run-end-requires
run-end-requires c = record {
  powered = c.requires.item.1;
  workers = let all = c.requires.workers in omega arith;
  plan = (c.requires.item.0, of_turns c.args.plan.now c.requires.plan);
  cut = c.requires.armed;
}

pub returns-clause-ends : goal.returns-clause-ends
returns-clause-ends c = rw c.end_of.ensures (run_done c.args.world c.run-end.new.world c.args.queue.now c.run-end.new.queue c.args.armed c.args.plan.now c.run-end.result c.run-end.ensures.ends)

pub returns-clause-enough : goal.returns-clause-enough
returns-clause-enough c = λ unarmed alone closed enough.
    let served = c.run-end.ensures.enough unarmed alone closed enough in
    (c.end_of.ensures ∙ ap end_in served.0, served.1, served.2)
