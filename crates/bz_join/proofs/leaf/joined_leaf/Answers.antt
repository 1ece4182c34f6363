use Rattle.std.proofs.Common.{◌≡◌, ◌≤◌, ◌++◌, length, arith, sym, ap, subst, ◌∙◌}
use Rattle.bz_layout.specs.declared.sizes.TheConstants.{SHARED_WORDS}
use Rattle.bz_node.specs.Records.{leaf_words, IsLeafList}
use Rattle.bz_halves.specs.Halves.{record_words}
use Rattle.bz_join.proofs.OneLeaf.{fits, list, room, one-of}
use Rattle.bz_join.proofs.leaf.joined_leaf.Goals as goal

pub append-requires : goal.append-requires
append-requires c =
    let a = c.sorted-both.result in
    let b = c.sorted-more.result in
    omega (arith, ap length c.pairs.ensures.same, fits c.args.left.now.0 c.args.right.now.0 a.records b.records a.low a.high b.low b.high c.requires c.sorted-both.ensures c.sorted-more.ensures)

pub leaf-requires : goal.leaf-requires
leaf-requires c =
    let a = c.sorted-both.result in
    let b = c.sorted-more.result in
    let is : c.pairs-2.result.now ≡ a.records ++ b.records = c.pairs-2.ensures.same ∙ (c.append.ensures ∙ ap (λ z. a.records ++ z) c.pairs.ensures.same) in
    subst (λ z. IsLeafList z a.low b.high) (sym is) (list c.args.left.now.0 c.args.right.now.0 a.records b.records a.low a.high b.low b.high c.requires c.sorted-both.ensures c.sorted-more.ensures)

pub unreachable-requires : goal.unreachable-requires
unreachable-requires c =
    let a = c.sorted-both.result in
    let b = c.sorted-more.result in
    let is : c.pairs-2.result.now ≡ a.records ++ b.records = c.pairs-2.ensures.same ∙ (c.append.ensures ∙ ap (λ z. a.records ++ z) c.pairs.ensures.same) in
    let t = c.in-None.ensures.fits.1 (subst (λ z. record_words z ≤ SHARED_WORDS) (sym is) (room c.args.left.now.0 c.args.right.now.0 a.records b.records a.low a.high b.low b.high c.requires c.sorted-both.ensures c.sorted-more.ensures)) in
    absurd (cc)

pub returns : goal.returns
returns c =
    let a = c.sorted-both.result in
    let b = c.sorted-more.result in
    let is : c.pairs-2.result.now ≡ a.records ++ b.records = c.pairs-2.ensures.same ∙ (c.append.ensures ∙ ap (λ z. a.records ++ z) c.pairs.ensures.same) in
    one-of c.args.left.now.0 c.args.right.now.0 a.records b.records a.low a.high b.low b.high c.requires c.sorted-both.ensures c.sorted-more.ensures
    c.in-Some.image.0 (c.in-Some.ensures.words ∙ ap (λ z. leaf_words z a.low b.high) is) c.is_whole.ensures
