-- What this crate proves, as lemmas that other crates cite by these names.
use Rattle.bz_levels.proofs.JoinTrees.{inner-merges}
use Rattle.bz_levels.proofs.Lowerings.{root-lowerings}
use Rattle.bz_levels.proofs.Words.{inner-joins, lowered-roots}
use Rattle.bz_levels.specs.Laws.{InnerJoinsKeepTheContent, InnerMergesKeepTheContent, LoweredRootsKeepTheContent, RootLoweringsKeepTheContent}

-- a merge of two inner slots keeps the content
pub inner_merges_keep_the_content : InnerMergesKeepTheContent
inner_merges_keep_the_content = inner-merges

-- a root with one child that gives way to it keeps the content
pub root_lowerings_keep_the_content : RootLoweringsKeepTheContent
root_lowerings_keep_the_content = root-lowerings

-- so does a merge of two inner nodes, told of words
pub inner_joins_keep_the_content : InnerJoinsKeepTheContent
inner_joins_keep_the_content = inner-joins

-- and a lowering of the root, told of words
pub lowered_roots_keep_the_content : LoweredRootsKeepTheContent
lowered_roots_keep_the_content = lowered-roots
