use Rattle.std.proofs.Common.{take, arith, sym, ap, subst, ◌∙◌, Some}
use Rattle.bz_node.specs.Reading.{children_in}
use Rattle.bz_node.specs.Records.{inner_words, IsChildList}
use Rattle.bz_node.specs.declared.child.Child.{Child}
use Rattle.bz_halves.proofs.PartedChildren.{children-count, child-read}
use Rattle.bz_parted.specs.Parting.{right_half}
use Rattle.bz_parted.proofs.Rows.{separator-read}
use Rattle.bz_parted.proofs.halves.halves_of.Goals as goal

pub child-requires-clause-within : goal.child-requires-clause-within
child-requires-clause-within c =
    let h = c.children_part_in_halves.ensures (children_in c.args.old.now.0) c.args.low c.args.high c.cut_of-cut.result c.requires.split c.cut_of-cut.ensures.cut in omega (arith, h.more, children-count c.args.old.now.0)

pub left_of-requires-clause-list : goal.left_of-requires-clause-list
left_of-requires-clause-list c =
    let cs = children_in c.args.old.now.0 in
    let h = c.children_part_in_halves.ensures cs c.args.low c.args.high c.cut_of-cut.result c.requires.split c.cut_of-cut.ensures.cut in
    let is = separator-read c.args.old.now.0 c.cut_of-cut.result c.child.result c.in-Some.separator (omega (arith, h.more, children-count c.args.old.now.0)) c.child.ensures c.in-Some.is in
    subst (λ z. IsChildList (take c.cut_of-cut.result cs) c.args.low (Some z)) (sym is) h.left

pub left_of-requires-clause-room : goal.left_of-requires-clause-room
left_of-requires-clause-room c = (c.children_part_in_halves.ensures (children_in c.args.old.now.0) c.args.low c.args.high c.cut_of-cut.result c.requires.split c.cut_of-cut.ensures.cut).left_room

pub right_of-requires-clause-within : goal.right_of-requires-clause-within
right_of-requires-clause-within c =
    let h = c.children_part_in_halves.ensures (children_in c.args.old.now.0) c.args.low c.args.high c.cut_of-cut.result c.requires.split c.cut_of-cut.ensures.cut in omega (arith, h.more, children-count c.args.old.now.0)

pub right_of-requires-clause-list : goal.right_of-requires-clause-list
right_of-requires-clause-list c =
    let cs = children_in c.args.old.now.0 in
    let h = c.children_part_in_halves.ensures cs c.args.low c.args.high c.cut_of-cut.result c.requires.split c.cut_of-cut.ensures.cut in
    let is = separator-read c.args.old.now.0 c.cut_of-cut.result c.child.result c.in-Some.separator (omega (arith, h.more, children-count c.args.old.now.0)) c.child.ensures c.in-Some.is in
    subst (λ z. IsChildList (right_half cs c.cut_of-cut.result) (Some z) c.args.high) (sym is) h.right

pub right_of-requires-clause-room : goal.right_of-requires-clause-room
right_of-requires-clause-room c = (c.children_part_in_halves.ensures (children_in c.args.old.now.0) c.args.low c.args.high c.cut_of-cut.result c.requires.split c.cut_of-cut.ensures.cut).right_room

pub unreachable-requires : goal.unreachable-requires
unreachable-requires c =
    let cs = children_in c.args.old.now.0 in
    let h = c.children_part_in_halves.ensures cs c.args.low c.args.high c.cut_of-cut.result c.requires.split c.cut_of-cut.ensures.cut in
    let e = sym c.in-None.is ∙ (ap (λ (z : Child). z.low) (c.child.ensures ∙ sym (child-read c.args.old.now.0 c.cut_of-cut.result (omega (arith, h.more, children-count c.args.old.now.0)))) ∙ h.goes_up) in absurd (cc)

pub returns : goal.returns
returns c =
    let cs = children_in c.args.old.now.0 in
    let h = c.children_part_in_halves.ensures cs c.args.low c.args.high c.cut_of-cut.result c.requires.split c.cut_of-cut.ensures.cut in
    let is = separator-read c.args.old.now.0 c.cut_of-cut.result c.child.result c.in-Some.separator (omega (arith, h.more, children-count c.args.old.now.0)) c.child.ensures c.in-Some.is in
    record {
      cut = c.cut_of-cut.result;
      is_cut = c.cut_of-cut.ensures.cut;
      separator = is;
      left = c.left_of.ensures ∙ ap (λ z. inner_words (take c.cut_of-cut.result cs) c.args.low (Some z) c.args.level) is;
      right = c.right_of.ensures ∙ ap (λ z. inner_words (right_half cs c.cut_of-cut.result) (Some z) c.args.high c.args.level) is;
    }
