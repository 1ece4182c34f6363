use Rattle.std.proofs.Common.{true, arith, refl, subst, sym}
use Rattle.bz_node.specs.declared.child.Child.{Child}
use Rattle.bz_merge.specs.Plans.{IsPair}
use Rattle.bz_merge.proofs.Choosing.{counted, only-place, right-pair}
use Rattle.bz_merge.proofs.sibling.right_of.Goals as goal

pub overflow_add-place : goal.overflow_add-place
overflow_add-place c = omega (arith, c.place_in-place.ensures.within, counted c.args.parent.now.0 c.args.slot c.requires, c.requires.reads.readable.node.room)

pub returns-then-place-child_count-clause-some : goal.returns-then-place-child_count-clause-some
returns-then-place-child_count-clause-some c = (refl, subst (λ (z : Child). IsPair c.args.parent.now.0 c.args.slot true c.place_in-place.result z.slot) (sym c.child.ensures) (right-pair c.args.parent.now.0 c.args.slot c.requires c.place_in-place.result c.place_in-place.ensures (omega (arith, c.child_count.ensures, c.if-place-child_count.true))))

pub returns-clause-none : goal.returns-clause-none
returns-clause-none c i at = omega (arith, only-place c.args.parent.now.0 c.args.slot c.requires i c.place_in-place.result at c.place_in-place.ensures, counted c.args.parent.now.0 c.args.slot c.requires, c.child_count.ensures, c.if-place-child_count.false)
