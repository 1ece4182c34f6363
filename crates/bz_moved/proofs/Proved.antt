-- What this crate proves, as lemmas that other crates cite by these names.
use Rattle.bz_moved.proofs.Moving.{pairs-move, trades-move}
use Rattle.bz_moved.proofs.OneLeaf.{trades, two-rewrites}
use Rattle.bz_moved.proofs.TwoLeaves.{pair-swaps, two-swaps}
use Rattle.bz_moved.proofs.Worked.{worked-move}
use Rattle.bz_moved.specs.OneLeaf.{TradesAreTwoRewrites, TradesChangeTwoKeys}
use Rattle.bz_moved.specs.TwoLeaves.{PairsAreTwoLeafSwaps, PairSwapsKeepTheTree, PairsMoveARecord, TradesMoveARecord}
use Rattle.bz_moved.specs.WorkedMove.{WorkedMove}

-- a trade within a leaf is two rewrites, one after the other, through words that never stood
pub trades_are_two_rewrites : TradesAreTwoRewrites
trades_are_two_rewrites = two-rewrites

-- it breaks no rule, and changes two keys
pub trades_change_two_keys : TradesChangeTwoKeys
trades_change_two_keys = trades

-- a swap on two leaves is two swaps on one leaf, one after the other, through an image that never stood
pub pairs_are_two_leaf_swaps : PairsAreTwoLeafSwaps
pairs_are_two_leaf_swaps = two-swaps

-- it keeps the tree, and changes what is said of the keys of the two leaves alone
pub pair_swaps_keep_the_tree : PairSwapsKeepTheTree
pair_swaps_keep_the_tree = pair-swaps

-- a trade moves a record within its leaf
pub trades_move_a_record : TradesMoveARecord
trades_move_a_record = trades-move

-- rewrites of two leaves move a record from one to the other
pub pairs_move_a_record : PairsMoveARecord
pairs_move_a_record = pairs-move

-- the images of the worked move hold what they should
pub worked_move_reads : WorkedMove
worked_move_reads = worked-move
