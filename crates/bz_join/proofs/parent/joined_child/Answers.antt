use Rattle.std.proofs.Common.{◌<◌, arith, ap, ◌∙◌}
use Rattle.bz_node.specs.declared.child.Child.{Child}
use Rattle.bz_join.proofs.JoinedChildren.{child-before, child-one, child-after}
use Rattle.bz_join.proofs.parent.joined_child.Goals as goal

pub returns-then-j-join : goal.returns-then-j-join
returns-then-j-join c = let p = c.args.join.now in c.child.ensures ∙ child-before c.args.old.now.0 p.place p.slot c.requires.within c.args.j c.if-j-join.true

pub returns-then-j-join-2 : goal.returns-then-j-join-2
returns-then-j-join-2 c =
    let p = c.args.join.now in
    ap (λ (z : Child). record { low = z.low; slot = p.slot }) c.child-then-j-join-2.ensures ∙ child-one c.args.old.now.0 p.place p.slot c.requires.within c.args.j c.if-j-join-2.true

pub returns-else-j-join-2 : goal.returns-else-j-join-2
returns-else-j-join-2 c =
    let p = c.args.join.now in
    let past : p.place < c.args.j = omega (arith, c.if-j-join.false, c.if-j-join-2.false) in
    c.child-else-j-join-2.ensures ∙ child-after c.args.old.now.0 p.place p.slot c.requires.within c.args.j past c.requires.place
