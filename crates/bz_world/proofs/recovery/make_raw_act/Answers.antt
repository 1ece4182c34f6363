use Rattle.std.proofs.Common.{subst, ap, ◌∙◌}
use Rattle.bz_mark.specs.Log.{Log, with_mark}
use Rattle.bz_swap.specs.Steps.{StepsIn}
use Rattle.bz_world.proofs.recovery.make_raw_act.Goals as goal

pub returns : goal.returns
returns c = record {
  step = subst (λ phase. StepsIn phase c.args.parts.now.access 0 c.step-progress.result.act c.step-progress.result.done c.step-progress.result.effect c.step-progress.new.self) c.requires.started.memory.recovering.phase c.step-progress.ensures.step;
  rest = ap (λ (j : Log). record c.args.parts.now { access = c.step-progress.new.self; journal = j }) (c.push.ensures ∙ ap (with_mark c.args.parts.now.journal) c.mark_of.ensures);
}
