use Rattle.bz_renew.proofs.Sorting.{sorted-leaf}
use Rattle.bz_slotted.specs.ReadingLaws.{node_of}
use Rattle.bz_slotted.proofs.Proved.{high_fences_are_read, leaf_rules_are_facts, live_words_fit, whole_leaves_are_readable}
use Rattle.bz_join.proofs.leaf.sorted.Goals as goal

pub records_of-requires-clause-readable : goal.records_of-requires-clause-readable
records_of-requires-clause-readable c = (whole_leaves_are_readable c.requires.nodes (node_of c.args.image.now.0) c.args.image.now.0 c.requires.low c.requires.high c.is_whole.ensures c.requires.whole).readable

pub high-requires : goal.high-requires
high-requires c = (high_fences_are_read c.requires.nodes (node_of c.args.image.now.0) c.args.image.now.0 0 c.requires.low c.requires.high c.is_whole.ensures c.requires.whole).readable

pub returns : goal.returns
returns c = sorted-leaf (record {
  rules = leaf_rules_are_facts;
  fit = live_words_fit;
  readable = whole_leaves_are_readable;
  ends = high_fences_are_read;
  found = c.ordered_pairs_are_found.ensures;
}) c.args.image.now.0 c.records_of.result c.low_fence.result c.high.result c.is_whole.ensures c.records_of.ensures (λ nodes lo hi none. c.low_fence.ensures nodes (node_of c.args.image.now.0) 0 lo hi none) c.high.ensures c.requires
