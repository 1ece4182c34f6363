use Rattle.std.proofs.Common.{ap, ◌∙◌, not}
use Rattle.bz_queue.proofs.Refusing.{idle-powered, is-open, stepped-powered}
use Rattle.bz_queue.proofs.step.step_powered.Goals as goal

pub returns-then-is_none : goal.returns-then-is_none
returns-then-is_none c = record { kept = c.requires.kept; applied = idle-powered c.args.parts.now c.requires.kept c.args.w c.requires.within c.index.result.now c.index.ensures (c.is_none.ensures ∙ ap not c.if-is_none.true) }

pub step_open-requires-clause-open : goal.step_open-requires-clause-open
step_open-requires-clause-open c = is-open c.args.parts.now c.requires.kept c.args.w c.requires.within c.index.result.now c.index.ensures (c.is_none.ensures ∙ ap not c.if-is_none.false)

pub returns : goal.returns
returns c = record {
  kept = c.step_open.ensures.kept;
  applied = stepped-powered c.args.parts.now c.requires.kept c.args.w c.requires.within c.index.result.now c.index.ensures c.step_open.new.parts c.step_open.result (c.is_none.ensures ∙ ap not c.if-is_none.false) c.step_open.ensures.steps;
}
