use Rattle.std.proofs.Common.{arith, sym, ◌∙◌}
use Rattle.bz_inner.proofs.Separators.{separator-read, separator-within}
use Rattle.bz_inner.proofs.weigh.separator_at.Goals as goal

pub overflow_add-place : goal.overflow_add-place
overflow_add-place c = omega (arith, separator-within c.args.above.now.0 c.args.place c.requires, c.requires.readable.node.room)

pub child-requires-clause-within : goal.child-requires-clause-within
child-requires-clause-within c = separator-within c.args.above.now.0 c.args.place c.requires

pub unreachable-requires : goal.unreachable-requires
unreachable-requires c = let e = sym (separator-read c.args.above.now.0 c.args.place c.requires c.child.result c.child.ensures) ∙ c.in-None.is in absurd (cc)

pub returns : goal.returns
returns c = let e = sym c.in-Some.is ∙ separator-read c.args.above.now.0 c.args.place c.requires c.child.result c.child.ensures in cc
