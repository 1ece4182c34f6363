use Rattle.std.proofs.Common.{◌≡◌, arith}
use Rattle.bz_slotted.proofs.Proved.{high_fences_are_read, inner_rules_are_facts}
use Rattle.bz_branch.proofs.Halving.{FrontIs, level-is, read-split, read-halves, halves-of-node}
use Rattle.bz_branch.proofs.parts.parts_of.Goals as goal

pub high-high-requires : goal.high-high-requires
high-high-requires c = (high_fences_are_read c.requires.nodes c.requires.node.raw c.args.read.now.0 c.requires.level c.requires.low c.requires.high c.requires.node.size c.requires.node.none).readable

pub counted_words-requires : goal.counted_words-requires
counted_words-requires c = ((inner_rules_are_facts c.requires.nodes c.requires.node.raw _ c.requires.level c.requires.low c.requires.high c.requires.node.inner).0 c.requires.node.none).filled.status

pub halves_of-halves-requires : goal.halves_of-halves-requires
halves_of-halves-requires c =
    let read = c.args.read.now.0 in
    let f = c.requires in
    let front : FrontIs read c.level_of-level.result c.low_fence-low.result c.high-high.result = record { level_is = c.level_of-level.ensures; low_is = c.low_fence-low.ensures; high_is = c.high-high.ensures } in
    let e : c.level_of-level.result ≡ f.level = level-is read c.level_of-level.result c.low_fence-low.result c.high-high.result front f.nodes f.level f.low f.high f.node in
    record {
      readable = f.node.node.readable;
      split = read-split read c.level_of-level.result c.low_fence-low.result c.high-high.result front f.nodes f.level f.low f.high f.node f.many;
      words = omega (arith, c.counted_words.ensures, f.node.node.taken);
      inner = omega (arith, e, f.node.inner);
      levels = omega (arith, e, f.node.lowest);
    }

pub returns : goal.returns
returns c nodes level low high n =
    let read = c.args.read.now.0 in
    let front : FrontIs read c.level_of-level.result c.low_fence-low.result c.high-high.result = record { level_is = c.level_of-level.ensures; low_is = c.low_fence-low.ensures; high_is = c.high-high.ensures } in
    halves-of-node nodes read level low high n c.requires.many c.halves_of-halves.result
    (read-halves read c.level_of-level.result c.low_fence-low.result c.high-high.result front nodes level low high n c.halves_of-halves.result c.halves_of-halves.ensures)
    c.is_whole-2.ensures c.is_whole-3.ensures
