use Rattle.std.proofs.Common.{◌≡◌, ◌+◌, ◌<◌, ◌≤◌, ℕ, length, take, map, arith, sym, ap, subst, ◌∙◌}
use Rattle.std.specs.Prelude.{◌↔◌, IsSome, IfSome}
use Rattle.bz_layout.specs.declared.sizes.TheConstants.{SHARED_WORDS}
use Rattle.bz_node.specs.Layout.{needed}
use Rattle.bz_node.specs.Reading.{children_in, count_in}
use Rattle.bz_node.specs.Records.{child_entry, inner_words, IsChildList}
use Rattle.bz_halves.specs.Parents.{parted}
use Rattle.bz_halves.proofs.Parents.{list}
use Rattle.bz_halves.proofs.PartedChildren.{children-count, row-is}
use Rattle.bz_halves.proofs.parent.parent_over.Goals as goal

pub parted_child-requires-clause-within : goal.parted_child-requires-clause-within
parted_child-requires-clause-within c = omega (arith, c.requires.parted.within, children-count c.args.old.now.0)

pub inner-requires-clause-children : goal.inner-requires-clause-children
inner-requires-clause-children c =
    let p = c.args.parting.now in
    let ws = c.args.old.now.0 in
    let v = c.loop-j.invariant in
    let count : c.child_count-count.result ≡ count_in ws = c.child_count-count.ensures in
    let within : p.place < count_in ws = omega (arith, c.requires.parted.within, children-count ws) in
    let long : count_in ws + 1 ≤ length c.loop-j.children = omega (arith, v.0, c.requires.readable.node.room) in
    let row : take (c.child_count-count.result + 1) c.loop-j.children ≡ parted (children_in ws) p.place p.left p.right p.separator =
    ap (λ z. take (z + 1) c.loop-j.children) count ∙ row-is ws p.place p.left p.right p.separator within c.loop-j.children long (λ k l. v.1 k (omega (arith, l, count, c.loop-j-test.false))) in
    subst (λ z. IsChildList z c.args.low c.args.high) (sym row) (list (children_in ws) c.args.low c.args.high p.place p.left p.right p.separator c.requires.parted)

pub returns-clause-fits : goal.returns-clause-fits
returns-clause-fits c =
    let p = c.args.parting.now in
    let ws = c.args.old.now.0 in
    let v = c.loop-j.invariant in
    let count : c.child_count-count.result ≡ count_in ws = c.child_count-count.ensures in
    let within : p.place < count_in ws = omega (arith, c.requires.parted.within, children-count ws) in
    let long : count_in ws + 1 ≤ length c.loop-j.children = omega (arith, v.0, c.requires.readable.node.room) in
    let row : take (c.child_count-count.result + 1) c.loop-j.children ≡ parted (children_in ws) p.place p.left p.right p.separator =
    ap (λ z. take (z + 1) c.loop-j.children) count ∙ row-is ws p.place p.left p.right p.separator within c.loop-j.children long (λ k l. v.1 k (omega (arith, l, count, c.loop-j-test.false))) in
    subst (λ z. IsSome c.inner.result ↔ (needed (map child_entry z) ≤ SHARED_WORDS)) row c.inner.ensures.fits

pub returns-clause-words : goal.returns-clause-words
returns-clause-words c =
    let p = c.args.parting.now in
    let ws = c.args.old.now.0 in
    let v = c.loop-j.invariant in
    let count : c.child_count-count.result ≡ count_in ws = c.child_count-count.ensures in
    let within : p.place < count_in ws = omega (arith, c.requires.parted.within, children-count ws) in
    let long : count_in ws + 1 ≤ length c.loop-j.children = omega (arith, v.0, c.requires.readable.node.room) in
    let row : take (c.child_count-count.result + 1) c.loop-j.children ≡ parted (children_in ws) p.place p.left p.right p.separator =
    ap (λ z. take (z + 1) c.loop-j.children) count ∙ row-is ws p.place p.left p.right p.separator within c.loop-j.children long (λ k l. v.1 k (omega (arith, l, count, c.loop-j-test.false))) in
    subst (λ z. IfSome c.inner.result (λ image. image.0 ≡ inner_words z c.args.low c.args.high c.args.level)) row c.inner.ensures.words
