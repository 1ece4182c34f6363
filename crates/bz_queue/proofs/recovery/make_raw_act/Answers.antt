use Rattle.std.proofs.Common.{subst, ap, ◌∙◌, arith}
use Rattle.bz_mark.specs.declared.marks.Mark.{Mark}
use Rattle.bz_ring.specs.declared.marks.QMark.TheVariants.{Memory}
use Rattle.bz_ring.specs.Journal.{QLog, with_mark}
use Rattle.bz_swap.specs.Steps.{StepsIn}
use Rattle.bz_queue.specs.declared.parts.Parts.{Parts}
use Rattle.bz_queue.proofs.recovery.make_raw_act.Goals as goal

pub returns : goal.returns
returns c = record {
  step = subst (λ phase. StepsIn phase c.args.parts.now.access 0 c.step-progress.result.act c.step-progress.result.done c.step-progress.result.effect c.step-progress.new.self) c.requires.started.memory.phase c.step-progress.ensures.step;
  rest = ap (λ (j : QLog). let after : Parts = record c.args.parts.now { access = c.step-progress.new.self; journal = j } in after) (c.push.ensures ∙ ap (λ (memory : Mark). with_mark c.args.parts.now.journal (Memory memory)) c.mark_of.ensures);
}

pub step-progress-requires : goal.step-progress-requires
step-progress-requires c = record { worker = c.requires.started.memory.memory.sizes.workers; busy = c.requires.started.memory.busy; steps = omega (arith, c.requires.started.dark.tabled.steps, c.requires.started.dark.tabled.marks, c.requires.started.dark.tabled.numbers.marks.at_most) }
