use Rattle.std.proofs.Common.{sym, ap, ◌∙◌, arith}
use Rattle.bz_top.proofs.ItemLemmas.{run_done, threads_done, of_turns}
use Rattle.bz_top.specs.Items.{end_in}
use Rattle.bz_top.proofs.SumLemmas.{not_on_threads}
use Rattle.bz_top.proofs.threads.run_plan.Goals as goal

pub run-end-requires : goal.run-end-requires
run-end-requires g c = record {
  powered = c.requires.item.1;
  workers = let all = c.requires.workers in omega arith;
  plan = (c.requires.item.0, of_turns c.args.plan.now (sym c.if-is_on_threads.ensures));
  cut = c.requires.armed;
}

pub returns-then-is_on_threads-clause-ends : goal.returns-then-is_on_threads-clause-ends
returns-then-is_on_threads-clause-ends g c = rw c.threads_end.ensures (threads_done c.args.world c.run_threads-world.result.0 c.args.queue.now c.run_threads-world.new.queue c.args.armed c.args.plan.now c.run_threads-world.result.1 (sym c.if-is_on_threads.ensures) c.requires.item.2 c.run_threads-world.ensures)

pub returns-else-is_on_threads-clause-ends : goal.returns-else-is_on_threads-clause-ends
returns-else-is_on_threads-clause-ends g c = rw c.end_of.ensures (run_done c.args.world c.run-end.new.world c.args.queue.now c.run-end.new.queue c.args.armed c.args.plan.now c.run-end.result c.run-end.ensures.ends)

pub returns-then-is_on_threads-clause-enough : goal.returns-then-is_on_threads-clause-enough
returns-then-is_on_threads-clause-enough g c = λ unarmed alone closed enough. absurd (not_on_threads c.args.plan.now alone (sym c.if-is_on_threads.ensures))

pub returns-else-is_on_threads-clause-enough : goal.returns-else-is_on_threads-clause-enough
returns-else-is_on_threads-clause-enough g c = λ unarmed alone closed enough.
    let served = c.run-end.ensures.enough unarmed alone closed enough in
    (c.end_of.ensures ∙ ap end_in served.0, served.1, served.2)
