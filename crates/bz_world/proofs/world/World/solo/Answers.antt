use Rattle.bz_world.proofs.Solo.{no-step, next-step, run-ends, lessens}
use Rattle.bz_world.proofs.world.World.solo.Goals as goal

pub loop-answer-init : goal.loop-answer-init
loop-answer-init c = no-step c.args.self.now c.args.w

pub loop-answer-preserved : goal.loop-answer-preserved
loop-answer-preserved c = next-step c.args.self.now c.loop-answer.self c.apply-answer.new.self c.args.w c.loop-answer.answer c.apply-answer.result (c.goes_on.ensures.goes c.loop-answer-test.true) c.loop-answer.invariant c.apply-answer.ensures

pub loop-answer-smaller : goal.loop-answer-smaller
loop-answer-smaller c = lessens c.loop-answer.self c.apply-answer.new.self c.args.w c.loop-answer.answer c.apply-answer.result (c.goes_on.ensures.goes c.loop-answer-test.true) c.apply-answer.ensures

pub returns : goal.returns
returns c = run-ends c.args.self.now c.loop-answer.self c.args.w c.loop-answer.answer (c.goes_on.ensures.stops c.loop-answer-test.false) c.loop-answer.invariant
