use Rattle.std.proofs.Common.{◌≡◌, ◌+◌, ◌<◌, arith, ap, ◌∙◌}
use Rattle.bz_node.specs.declared.child.Child.{Child}
use Rattle.bz_halves.proofs.PartedChildren.{child-before, child-left, child-right, child-after}
use Rattle.bz_halves.proofs.parent.parted_child.Goals as goal

pub returns-then-j-parting : goal.returns-then-j-parting
returns-then-j-parting c =
    let p = c.args.parting.now in c.child.ensures ∙ child-before c.args.old.now.0 p.place p.left p.right p.separator c.requires.within c.args.j c.if-j-parting.true

pub returns-then-j-parting-2 : goal.returns-then-j-parting-2
returns-then-j-parting-2 c =
    let p = c.args.parting.now in
    ap (λ (z : Child). record { low = z.low; slot = p.left }) c.child-then-j-parting-2.ensures ∙ child-left c.args.old.now.0 p.place p.left p.right p.separator c.requires.within c.args.j c.if-j-parting-2.true

pub returns-then-j-parting-3 : goal.returns-then-j-parting-3
returns-then-j-parting-3 c =
    let p = c.args.parting.now in child-right c.args.old.now.0 p.place p.left p.right p.separator c.requires.within c.args.j c.if-j-parting-3.true

pub returns-else-j-parting-3 : goal.returns-else-j-parting-3
returns-else-j-parting-3 c =
    let p = c.args.parting.now in
    let past : p.place + 1 < c.args.j = omega (arith, c.if-j-parting.false, c.if-j-parting-2.false, c.if-j-parting-3.false) in
    c.child-else-j-parting-3.ensures ∙ child-after c.args.old.now.0 p.place p.left p.right p.separator c.requires.within c.args.j past c.requires.place
