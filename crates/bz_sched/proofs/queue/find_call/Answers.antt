use Rattle.std.proofs.Common.{◌≡◌, ◌≢◌, ℕ, sym, ap, ◌∙◌, arith}
use Rattle.bz_call.specs.declared.calls.Call.{Call}
use Rattle.bz_sched.proofs.LookLemmas.{none_nowhere, none_further, found_at}
use Rattle.bz_sched.proofs.queue.find_call.Goals as goal

pub loop-at-init : goal.loop-at-init
loop-at-init c = none_nowhere c.args.w c.args.from c.args.calls.now

pub loop-at-preserved : goal.loop-at-preserved
loop-at-preserved c =
    let other : c.index-calls-at.result.0 ≢ c.args.w = λ own. c.if-owner-w.false (ap (λ (call : ℕ × Call). call.0) (sym c.index-calls-at.is) ∙ own) in
    none_further c.args.w c.args.from c.loop-at.at c.args.calls.now c.index-calls-at.result c.loop-at.invariant c.loop-at-test.true c.index-calls-at.is other

pub returns-then-owner-w : goal.returns-then-owner-w
returns-then-owner-w c =
    let own : c.index-calls-at.result.0 ≡ c.args.w = ap (λ (call : ℕ × Call). call.0) c.index-calls-at.is ∙ (omega arith) in
    found_at c.args.calls.now c.args.from c.loop-at.at c.args.w c.index-calls-at.result c.loop-at.invariant c.loop-at.auto.at c.loop-at-test.true c.index-calls-at.is own
