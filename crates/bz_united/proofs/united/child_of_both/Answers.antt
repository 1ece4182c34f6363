use Rattle.std.proofs.Common.{◌≡◌, ◌-◌, ◌<◌, arith, ap, ◌∙◌, Some}
use Rattle.bz_node.specs.Reading.{child_in, count_in}
use Rattle.bz_node.specs.declared.child.Child.{Child}
use Rattle.bz_united.proofs.Rows.{child-left, child-middle, child-right}
use Rattle.bz_united.proofs.united.child_of_both.Goals as goal

pub returns-then-j-first : goal.returns-then-j-first
returns-then-j-first c =
    let l = c.args.left.now.0 in
    let inside : c.args.j < count_in l = omega (arith, c.if-j-first.true, c.child_count-first.ensures) in
    c.child.ensures ∙ child-left l c.args.right.now.0 c.args.separator c.requires.some c.args.j inside

pub returns-then-j-first-2 : goal.returns-then-j-first-2
returns-then-j-first-2 c =
    let l = c.args.left.now.0 in
    let at : c.args.j ≡ count_in l = c.if-j-first-2.true ∙ c.child_count-first.ensures in
    ap (λ (z : Child). record { low = Some c.args.separator; slot = z.slot }) c.child-then-j-first-2.ensures ∙ child-middle l c.args.right.now.0 c.args.separator c.requires.some c.args.j at

pub returns-else-j-first-2 : goal.returns-else-j-first-2
returns-else-j-first-2 c =
    let l = c.args.left.now.0 in
    let past : count_in l < c.args.j = omega (arith, c.if-j-first.false, c.if-j-first-2.false, c.child_count-first.ensures) in
    c.child-else-j-first-2.ensures ∙ (ap (λ z. child_in c.args.right.now.0 (c.args.j - z)) c.child_count-first.ensures ∙ child-right l c.args.right.now.0 c.args.separator c.requires.some c.args.j past c.requires.place)
