use Rattle.std.proofs.Common.{◌-◌, false, arith, refl, subst, sym}
use Rattle.bz_node.specs.declared.child.Child.{Child}
use Rattle.bz_merge.specs.Plans.{IsPair}
use Rattle.bz_merge.proofs.Choosing.{counted, left-pair}
use Rattle.bz_merge.proofs.sibling.left_of.Goals as goal

pub child-requires-clause-within : goal.child-requires-clause-within
child-requires-clause-within c = omega (arith, c.place_in-place.ensures.within, counted c.args.parent.now.0 c.args.slot c.requires)

pub returns-clause-some : goal.returns-clause-some
returns-clause-some c = (refl, subst (λ (z : Child). IsPair c.args.parent.now.0 c.args.slot false (c.place_in-place.result - 1) z.slot) (sym c.child.ensures) (left-pair c.args.parent.now.0 c.args.slot c.requires c.place_in-place.result c.place_in-place.ensures c.if-place-eq0.false))
