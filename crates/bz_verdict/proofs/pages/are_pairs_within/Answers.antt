use Rattle.std.proofs.Common.{length}
use Rattle.bz_check.proofs.Following.{eq_of}
use Rattle.bz_verdict.proofs.Asking.{same_test}
use Rattle.bz_verdict.proofs.Paging.{forward, within_none, within_some, within_empty}
use Rattle.bz_verdict.proofs.pages.are_pairs_within.Goals as goal

pub returns-then-ends : goal.returns-then-ends
returns-then-ends c =
    let two = within_empty c.args.from.now c.in-Some.end c.args.next.now c.args.map.now.entries c.args.shown.now c.precedes-ends.result c.in-Some.is c.precedes-ends.ensures c.if-ends.true in
    (λ h. two.0 (eq_of (length c.args.shown.now) 0 h), λ e. same_test (length c.args.shown.now) 0 (two.1 e))

pub are_pairs_between-requires-in-Some : goal.are_pairs_between-requires-in-Some
are_pairs_between-requires-in-Some c = forward c.args.from.now c.in-Some.end c.precedes-ends.result c.precedes-ends.ensures c.if-ends.false

pub returns-in-None : goal.returns-in-None
returns-in-None c = within_none c.args.from.now c.args.next.now c.args.map.now.entries c.args.shown.now c.are_pairs_between.result c.in-None.is c.are_pairs_between.ensures

pub returns-else-ends : goal.returns-else-ends
returns-else-ends c = within_some c.args.from.now c.in-Some.end c.args.next.now c.args.map.now.entries c.args.shown.now c.are_pairs_between-in-Some.result c.in-Some.is c.are_pairs_between-in-Some.ensures
