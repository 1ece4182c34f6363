use Rattle.std.proofs.Common.{◌≡◌, ◌+◌, ◌≤◌, take, map, arith, sym, ap, subst, ◌∙◌}
use Rattle.bz_layout.specs.declared.sizes.TheConstants.{SHARED_WORDS}
use Rattle.bz_node.specs.Layout.{needed}
use Rattle.bz_node.specs.Reading.{children_in, count_in}
use Rattle.bz_node.specs.Records.{child_entry, inner_words, IsChildList}
use Rattle.bz_united.specs.Uniting.{united}
use Rattle.bz_united.proofs.Rows.{row-is}
use Rattle.bz_united.proofs.united.node_of_both.Goals as goal

pub inner-requires-clause-children : goal.inner-requires-clause-children
inner-requires-clause-children c =
    let l = c.args.left.now.0 in
    let r = c.args.right.now.0 in
    let v = c.loop-j.invariant in
    let count : c.child_count.result + c.child_count-2.result ≡ count_in l + count_in r = omega (arith, c.child_count.ensures, c.child_count-2.ensures) in
    let row : take (c.child_count.result + c.child_count-2.result) c.loop-j.children ≡ united (children_in l) (children_in r) c.args.separator =
    row-is l r c.args.separator c.requires.some c.loop-j.children (c.child_count.result + c.child_count-2.result) count (omega (arith, v.0, count, c.requires.few)) (λ k h. v.1 k (omega (arith, h, c.loop-j-test.false))) in
    subst (λ z. IsChildList z c.args.front.low c.args.front.high) (sym row) c.requires.list

pub unreachable-requires : goal.unreachable-requires
unreachable-requires c =
    let l = c.args.left.now.0 in
    let r = c.args.right.now.0 in
    let v = c.loop-j.invariant in
    let count : c.child_count.result + c.child_count-2.result ≡ count_in l + count_in r = omega (arith, c.child_count.ensures, c.child_count-2.ensures) in
    let row : take (c.child_count.result + c.child_count-2.result) c.loop-j.children ≡ united (children_in l) (children_in r) c.args.separator =
    row-is l r c.args.separator c.requires.some c.loop-j.children (c.child_count.result + c.child_count-2.result) count (omega (arith, v.0, count, c.requires.few)) (λ k h. v.1 k (omega (arith, h, c.loop-j-test.false))) in
    let t = c.in-None.ensures.fits.1 (subst (λ z. needed (map child_entry z) ≤ SHARED_WORDS) (sym row) c.requires.room) in
    absurd (cc)

pub returns : goal.returns
returns c =
    let l = c.args.left.now.0 in
    let r = c.args.right.now.0 in
    let v = c.loop-j.invariant in
    let count : c.child_count.result + c.child_count-2.result ≡ count_in l + count_in r = omega (arith, c.child_count.ensures, c.child_count-2.ensures) in
    let row : take (c.child_count.result + c.child_count-2.result) c.loop-j.children ≡ united (children_in l) (children_in r) c.args.separator =
    row-is l r c.args.separator c.requires.some c.loop-j.children (c.child_count.result + c.child_count-2.result) count (omega (arith, v.0, count, c.requires.few)) (λ k h. v.1 k (omega (arith, h, c.loop-j-test.false))) in
    c.in-Some.ensures.words ∙ ap (λ z. inner_words z c.args.front.low c.args.front.high c.args.front.level) row
