use Rattle.bz_check.proofs.Following.{false_true}
use Rattle.bz_verdict.proofs.Paging.{left_more, left_other, all_compared, pair_so, pair_not}
use Rattle.bz_verdict.proofs.pages.are_pairs_between.Goals as goal

pub returns-then-not-same : goal.returns-then-not-same
returns-then-not-same c = (
  λ h. absurd (false_true h),
  λ e. absurd (left_other c.args.shown.now _ c.loop-key.key-iterator c.next.new.self c.loop-key.i c.index-shown-i.result (c.in-Some.key.now, c.in-Some.payload.now) c.if-i-shown.false c.index-shown-i.is c.in-Some.ensures.steps
      (pair_not c.index-shown-i.result c.in-Some.key.now c.in-Some.payload.now c.is_pair-same.result c.is_pair-same.ensures c.if-not-same.true) c.loop-key.invariant e),
)

pub loop-key-preserved : goal.loop-key-preserved
loop-key-preserved c =
    left_more c.args.shown.now _ c.loop-key.key-iterator c.next.new.self c.loop-key.i c.index-shown-i.result (c.in-Some.key.now, c.in-Some.payload.now) c.if-i-shown.false c.index-shown-i.is c.in-Some.ensures.steps
    (pair_so c.index-shown-i.result c.in-Some.key.now c.in-Some.payload.now c.is_pair-same.result c.is_pair-same.ensures c.if-not-same.false) c.loop-key.invariant

pub returns : goal.returns
returns c = all_compared c.args.shown.now _ c.loop-key.key-iterator c.loop-key.i c.in-None.ensures.steps.0 c.loop-key.invariant
