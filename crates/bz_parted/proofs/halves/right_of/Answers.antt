use Rattle.std.proofs.Common.{◌≡◌, ◌+◌, ◌-◌, ◌≤◌, List, map, arith, sym, subst}
use Rattle.std.specs.Prelude.{◌↔◌, IsSome, Some, None}
use Rattle.bz_layout.specs.declared.sizes.TheConstants.{SHARED_WORDS}
use Rattle.bz_node.specs.Layout.{needed}
use Rattle.bz_node.specs.Reading.{children_in, count_in}
use Rattle.bz_node.specs.Records.{child_entry, inner_words, IsChildList}
use Rattle.bz_node.specs.declared.image.NodeImage.{NodeImage}
use Rattle.bz_node.specs.declared.child.Child.{Child}
use Rattle.bz_parted.specs.Parting.{right_half}
use Rattle.bz_parted.proofs.Rows.{right-row}
use Rattle.bz_parted.proofs.halves.right_of.Goals as goal

pub inner-requires-clause-children : goal.inner-requires-clause-children
inner-requires-clause-children c =
    let all : c.child_count.result - c.args.cut + c.args.cut ≡ count_in c.args.old.now.0 = omega (arith, c.child_count.ensures, c.requires.within) in
    let row = right-row c.args.old.now.0 c.loop-j.children c.args.cut (c.child_count.result - c.args.cut) all (omega (arith, all, c.requires.within)) (omega (arith, c.loop-j.invariant.0, all, c.requires.readable.node.room)) (λ k l. c.loop-j.invariant.1 k (omega (arith, l, c.loop-j-test.false))) in
    subst (λ z. IsChildList z (Some c.args.separator) c.args.high) (sym row) c.requires.list

pub unreachable-requires : goal.unreachable-requires
unreachable-requires c =
    let all : c.child_count.result - c.args.cut + c.args.cut ≡ count_in c.args.old.now.0 = omega (arith, c.child_count.ensures, c.requires.within) in
    let row = right-row c.args.old.now.0 c.loop-j.children c.args.cut (c.child_count.result - c.args.cut) all (omega (arith, all, c.requires.within)) (omega (arith, c.loop-j.invariant.0, all, c.requires.readable.node.room)) (λ k l. c.loop-j.invariant.1 k (omega (arith, l, c.loop-j-test.false))) in
    let fits : IsSome {T = NodeImage} None ↔ (needed (map child_entry (right_half (children_in c.args.old.now.0) c.args.cut)) ≤ SHARED_WORDS) = subst (λ z. IsSome {T = NodeImage} None ↔ (needed (map child_entry z) ≤ SHARED_WORDS)) row c.in-None.ensures.fits in
    absurd (let no = fits.1 (omega (arith, c.requires.room)) in cc)

pub returns : goal.returns
returns c =
    let all : c.child_count.result - c.args.cut + c.args.cut ≡ count_in c.args.old.now.0 = omega (arith, c.child_count.ensures, c.requires.within) in
    let row = right-row c.args.old.now.0 c.loop-j.children c.args.cut (c.child_count.result - c.args.cut) all (omega (arith, all, c.requires.within)) (omega (arith, c.loop-j.invariant.0, all, c.requires.readable.node.room)) (λ k l. c.loop-j.invariant.1 k (omega (arith, l, c.loop-j-test.false))) in
    subst (λ (z : List Child). c.in-Some.image.0 ≡ inner_words z (Some c.args.separator) c.args.high c.args.level) row c.in-Some.ensures.words
