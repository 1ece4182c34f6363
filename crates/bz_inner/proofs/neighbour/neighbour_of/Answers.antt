use Rattle.std.proofs.Common.{arith}
use Rattle.bz_inner.proofs.Choosing.{found, left-one, right-one}
use Rattle.bz_inner.proofs.neighbour.neighbour_of.Goals as goal

pub unreachable-requires : goal.unreachable-requires
unreachable-requires c = found c.args.above.now.0 c.args.slot c.requires c.in_default.ensures.none

pub returns-then-place-child_count-clause-some : goal.returns-then-place-child_count-clause-some
returns-then-place-child_count-clause-some c = right-one c.args.above.now.0 c.args.slot c.requires c.in-Some.place c.child.result c.in-Some.ensures.some.0 c.in-Some.ensures.some.1 (omega (arith, c.if-place-child_count.true, c.child_count.ensures)) c.child.ensures

pub returns-clause-some : goal.returns-clause-some
returns-clause-some c = left-one c.args.above.now.0 c.args.slot c.requires c.in-Some.place c.child-2.result c.in-Some.ensures.some.0 c.in-Some.ensures.some.1 (λ l. omega (arith, l, c.if-place-child_count.false, c.child_count.ensures)) c.if-place-eq0.false c.child-2.ensures
