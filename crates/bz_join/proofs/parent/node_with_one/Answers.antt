use Rattle.std.proofs.Common.{◌≡◌, ◌-◌, ◌≤◌, take, map, arith, sym, ap, subst, ◌∙◌}
use Rattle.bz_layout.specs.declared.sizes.TheConstants.{SHARED_WORDS}
use Rattle.bz_node.specs.Layout.{needed}
use Rattle.bz_node.specs.Reading.{children_in, count_in}
use Rattle.bz_node.specs.Records.{child_entry, inner_words, IsChildList}
use Rattle.bz_join.specs.Parents.{joined}
use Rattle.bz_join.proofs.JoinedChildren.{row-is}
use Rattle.bz_join.proofs.parent.node_with_one.Goals as goal

pub inner-requires-clause-children : goal.inner-requires-clause-children
inner-requires-clause-children c =
    let p = c.args.join.now in
    let ws = c.args.old.now.0 in
    let v = c.loop-j.invariant in
    let count : c.child_count-count.result ≡ count_in ws = c.child_count-count.ensures in
    let row : take (c.child_count-count.result - 1) c.loop-j.children ≡ joined (children_in ws) p.place p.slot =
    ap (λ z. take (z - 1) c.loop-j.children) count ∙ row-is ws p.place p.slot c.requires.within c.loop-j.children (omega (arith, v.0, c.requires.readable.node.room)) (λ k l. v.1 k (omega (arith, l, count, c.loop-j-test.false))) in
    subst (λ z. IsChildList z c.args.low c.args.high) (sym row) c.requires.list

pub unreachable-requires : goal.unreachable-requires
unreachable-requires c =
    let p = c.args.join.now in
    let ws = c.args.old.now.0 in
    let v = c.loop-j.invariant in
    let count : c.child_count-count.result ≡ count_in ws = c.child_count-count.ensures in
    let row : take (c.child_count-count.result - 1) c.loop-j.children ≡ joined (children_in ws) p.place p.slot =
    ap (λ z. take (z - 1) c.loop-j.children) count ∙ row-is ws p.place p.slot c.requires.within c.loop-j.children (omega (arith, v.0, c.requires.readable.node.room)) (λ k l. v.1 k (omega (arith, l, count, c.loop-j-test.false))) in
    let t = c.in-None.ensures.fits.1 (subst (λ z. needed (map child_entry z) ≤ SHARED_WORDS) (sym row) c.requires.room) in
    absurd (cc)

pub returns : goal.returns
returns c =
    let p = c.args.join.now in
    let ws = c.args.old.now.0 in
    let v = c.loop-j.invariant in
    let count : c.child_count-count.result ≡ count_in ws = c.child_count-count.ensures in
    let row : take (c.child_count-count.result - 1) c.loop-j.children ≡ joined (children_in ws) p.place p.slot =
    ap (λ z. take (z - 1) c.loop-j.children) count ∙ row-is ws p.place p.slot c.requires.within c.loop-j.children (omega (arith, v.0, c.requires.readable.node.room)) (λ k l. v.1 k (omega (arith, l, count, c.loop-j-test.false))) in
    c.in-Some.ensures.words ∙ ap (λ z. inner_words z c.args.low c.args.high c.args.level) row
