use Rattle.bz_inner.proofs.merge_inner.MergeInnerTask.next.Goals as goal

pub returns-clause-goes : goal.returns-clause-goes
returns-clause-goes c = c.step.ensures.goes c.asked.result c.asked.ensures

pub returns-clause-learns : goal.returns-clause-learns
returns-clause-learns c = c.step.ensures.learns
