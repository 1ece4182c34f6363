use Rattle.std.proofs.Common.{sym, subst}
use Rattle.bz_check.specs.Passes.{Passed, Passes}
use Rattle.bz_check.proofs.Passing.{all_ok}
use Rattle.bz_check.proofs.pass.Pass.take.Goals as goal

pub returns-clause-passes : goal.returns-clause-passes
returns-clause-passes c = λ numbers at_start start at past now image of h.
    let p = subst (λ (all : Passed). Passes numbers at_start start at past all) (sym c.self.view_is) h in
    all_ok numbers at_start start at _ _ _ _ _ _ c.judge_mark.result (c.judge_mark.ensures.words start past now image of p.replays) (c.judge_mark.ensures.calls at_start past now p.knows)
    (c.judge_mark.ensures.pairs at_start past at p.knows p.holds) (c.judge_mark.ensures.seen at_start past at p.knows p.holds p.sees) (c.judge_mark.ensures.counts numbers past now p.counts)

pub returns-clause-fault : goal.returns-clause-fault
returns-clause-fault c = λ numbers at_start start at past config now image are h.
    let p = subst (λ (all : Passed). Passes numbers at_start start at past all) (sym c.self.view_is) h in
    c.judge_mark.ensures.fault numbers start at_start past at config now image are p.replays p.knows p.holds p.sees p.counts
