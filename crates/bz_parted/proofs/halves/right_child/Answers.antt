use Rattle.std.proofs.Common.{◌∙◌, arith, ap}
use Rattle.bz_node.specs.declared.child.Child.{Child}
use Rattle.std.specs.Prelude.{None}
use Rattle.bz_parted.proofs.Rows.{first-right, later-right}
use Rattle.bz_parted.proofs.halves.right_child.Goals as goal

pub returns-then-j-eq0 : goal.returns-then-j-eq0
returns-then-j-eq0 c = ap (λ (z : Child). record { low = None; slot = z.slot }) c.child-child.ensures ∙ first-right c.args.old.now.0 c.args.cut c.args.j c.requires.within c.if-j-eq0.true

pub returns-else-j-eq0 : goal.returns-else-j-eq0
returns-else-j-eq0 c = c.child-child.ensures ∙ later-right c.args.old.now.0 c.args.cut c.args.j c.requires.within (omega (arith, c.if-j-eq0.false))
