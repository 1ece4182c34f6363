use Rattle.std.proofs.Common.{◌≡◌, subst, sym, ap, ◌∙◌, map, ◌≤◌}
use Rattle.std.specs.Prelude.{All}
use Rattle.bz_layout.specs.declared.sizes.TheConstants.{SHARED_WORDS}
use Rattle.bz_node.specs.Layout.{needed}
use Rattle.bz_node.specs.Records.{IsLeafList, pair_entry, leaf_words}
use Rattle.bz_slotted.specs.ReadingLaws.{node_of}
use Rattle.bz_task.specs.Laws.{SaysAlike}
use Rattle.bz_renew.proofs.Plainness.{IsPlain, leaf-plain}
use Rattle.bz_consol.proofs.Copying.{says-alike}
use Rattle.bz_consol.proofs.copies.copy_of.Goals as goal

pub leaf-requires : goal.leaf-requires
leaf-requires c =
    let f = c.sort_records-fences in
    subst (λ z. IsLeafList z f.result.low f.result.high) (sym c.pairs.ensures.same) f.ensures.leaf

pub unreachable-requires : goal.unreachable-requires
unreachable-requires c =
    let room : needed (map pair_entry c.pairs.result.now) ≤ SHARED_WORDS = subst (λ z. needed (map pair_entry z) ≤ SHARED_WORDS) (sym c.pairs.ensures.same) c.sort_records-fences.ensures.room in
    absurd (let no = c.in-None.ensures.fits.1 room in cc)

pub returns-clause-alike : goal.returns-clause-alike
returns-clause-alike c nodes low high none =
    let f = c.sort_records-fences in
    let is : c.in-Some.image.0 ≡ leaf_words f.new.page f.result.low f.result.high = c.in-Some.ensures.words ∙ ap (λ z. leaf_words z f.result.low f.result.high) c.pairs.ensures.same in
    subst (λ z. SaysAlike nodes (node_of c.args.view.now.image.0) (node_of z) low high) (sym is) (says-alike c.made_leaves_are_whole.ensures c.args.view.now.image.0 f.new.page f.result.low f.result.high f.ensures nodes low high none)

pub returns-clause-plain : goal.returns-clause-plain
returns-clause-plain c =
    let f = c.sort_records-fences in
    let is : c.in-Some.image.0 ≡ leaf_words f.new.page f.result.low f.result.high = c.in-Some.ensures.words ∙ ap (λ z. leaf_words z f.result.low f.result.high) c.pairs.ensures.same in
    subst (λ z. All IsPlain z) (sym is) (leaf-plain f.new.page f.result.low f.result.high f.ensures.pairs f.ensures.low_bound f.ensures.high_bound f.ensures.room)

pub returns-clause-made : goal.returns-clause-made
returns-clause-made c =
    let f = c.sort_records-fences in record {
      pairs = f.new.page;
      low = f.result.low;
      high = f.result.high;
      leaf = f.ensures;
      is = c.in-Some.ensures.words ∙ ap (λ z. leaf_words z f.result.low f.result.high) c.pairs.ensures.same;
    }
