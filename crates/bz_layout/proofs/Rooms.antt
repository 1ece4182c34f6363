-- The inequalities between sizes and thresholds, at this format's numbers.
use Rattle.std.proofs.Common.{arith}
use Rattle.bz_layout.specs.Rooms.{DescriptorPartsFollow, NodePartsFollow, SharedWordsSuffice, RecordsAreBounded, RecordsLieOverFewLines, PairsFitPage, SettledLeafTakesRecord, MergedLeafTakesRecord, SplitLeafIsNotMerged, DeleteLeavesEnough, LeafSplitsInHalves, InnerSplitsInHalves, InnerTakesSeparator, FullInnerIsAboveLimit, NewRootIsSmall, SupplySuffices}

pub descriptor_parts_follow-holds : DescriptorPartsFollow
descriptor_parts_follow-holds = record {
  format = omega arith;
  root = omega arith;
  root_status = omega arith;
  nodes = omega arith;
  swaps = omega arith;
  superblock = omega arith;
  status = omega arith;
  count = omega arith;
  entries = omega arith;
}

pub node_parts_follow-holds : NodePartsFollow
node_parts_follow-holds = record {
  header = omega arith;
  low_fence = omega arith;
  high_fence = omega arith;
  metadata = omega arith;
  shared = omega arith;
  width = omega arith;
  lines = omega arith;
}

pub shared_words_suffice-holds : SharedWordsSuffice
shared_words_suffice-holds count block fits = record {
  apart = omega arith;
  inside = omega arith;
  offset = omega arith;
  offset_fits = omega arith;
  count_fits = omega arith;
  block_fits = omega arith;
}

pub records_are_bounded-holds : RecordsAreBounded
records_are_bounded-holds key payload short small = record {
  leaf = omega arith;
  block = omega arith;
  leaf_least = λ some. omega arith;
  inner = omega arith;
  inner_least = omega arith;
}

pub records_lie_over_few_lines-holds : RecordsLieOverFewLines
records_lie_over_few_lines-holds address words some few = omega arith

pub pairs_fit_page-holds : PairsFitPage
pairs_fit_page-holds pairs words least fits = omega arith

pub settled_leaf_takes_record-holds : SettledLeafTakesRecord
settled_leaf_takes_record-holds live record_words settled small = omega arith

pub merged_leaf_takes_record-holds : MergedLeafTakesRecord
merged_leaf_takes_record-holds left right record_words settled small = omega arith

pub split_leaf_is_not_merged-holds : SplitLeafIsNotMerged
split_leaf_is_not_merged-holds live great = omega arith

pub delete_leaves_enough-holds : DeleteLeavesEnough
delete_leaves_enough-holds live record_words enough small = omega arith

pub leaf_splits_in_halves-holds : LeafSplitsInHalves
leaf_splits_in_halves-holds live before last great fits half small = record {
  left_some = omega arith;
  right_some = omega arith;
  left_small = omega arith;
  right_small = omega arith;
}

pub inner_splits_in_halves-holds : InnerSplitsInHalves
inner_splits_in_halves-holds words before last great fits half small = record {
  left_some = omega arith;
  right_some = omega arith;
  left_small = omega arith;
  right_small = omega arith;
}

pub inner_takes_separator-holds : InnerTakesSeparator
inner_takes_separator-holds words separator small short = omega arith

pub full_inner_is_above_limit-holds : FullInnerIsAboveLimit
full_inner_is_above_limit-holds words separator short full = omega arith

pub new_root_is_small-holds : NewRootIsSmall
new_root_is_small-holds separator short = omega arith

pub supply_suffices-holds : SupplySuffices
supply_suffices-holds levels few = record { slots = omega arith; swaps = omega arith }
