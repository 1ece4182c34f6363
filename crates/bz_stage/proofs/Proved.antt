-- What this crate proves, as lemmas that other crates cite by these names.
use Rattle.bz_stage.proofs.Bounds.{full-counted, stages-bounded}
use Rattle.bz_stage.proofs.Copies.{copies}
use Rattle.bz_stage.proofs.Examples.{stages-are-told}
use Rattle.bz_stage.proofs.Freezes.{freezes}
use Rattle.bz_stage.proofs.InnerSplits.{inner-splits, root-splits, splits-leave-a-level}
use Rattle.bz_stage.proofs.LeafSplits.{leaf-splits, root-leaf-splits}
use Rattle.bz_stage.proofs.Leaves.{lacking-leaves-say, stages-say}
use Rattle.bz_stage.proofs.Made.{entries-taken, made-inners, made-leaves}
use Rattle.bz_stage.proofs.Others.{links, merges-give-room, others-stay, room-stays}
use Rattle.bz_stage.proofs.Paths.{paths-are-of-keys}
use Rattle.bz_stage.specs.Examples.{StagesAreTold}
use Rattle.bz_stage.specs.Laws.{CopiesGiveRoom, FreezesLowerTheStage, FullNodesAreCounted, InnerSplitsLowerTheStage, LackingLeavesSay, LeafSplitsGiveRoom, PathsAreOfKeys, RootLeafSplitsGiveRoom, RootSplitsLowerTheStage, SplitsLeaveALevel, StagesAreBounded, StagesSay}
use Rattle.bz_stage.specs.Made.{EntriesTakeTheWords, MadeInnersTakeTheirEntries, MadeLeavesAreRoomy}
use Rattle.bz_stage.specs.Others.{LinksLeaveOtherLeaves, MergesGiveRoom, OthersStay, RoomStays}

-- the stages of small images and of single leaves
pub stages_are_told : StagesAreTold
stages_are_told = stages-are-told

-- what the stage of a leaf says of it
pub stages_say : StagesSay
stages_say = stages-say

-- so a key whose leaf has no room is two rounds away from it at least, or where the leaf is frozen one
pub lacking_leaves_say : LackingLeavesSay
lacking_leaves_say = lacking-leaves-say

-- the node of a level on the way to a key is the one reached node of that level in whose range the key is
pub paths_are_of_keys : PathsAreOfKeys
paths_are_of_keys = paths-are-of-keys

-- the nodes directly above a leaf that lack room for one more separator
pub full_nodes_are_counted : FullNodesAreCounted
full_nodes_are_counted = full-counted

-- a stage is at most two more than there are levels of inner nodes, of which there are fewer than levels of a tree
pub stages_are_bounded : StagesAreBounded
stages_are_bounded = stages-bounded

-- a freeze of a leaf that lacks the words lowers the stage by one
pub freezes_lower_the_stage : FreezesLowerTheStage
freezes_lower_the_stage = freezes

-- a copy has room for any record
pub copies_give_room : CopiesGiveRoom
copies_give_room = copies

-- the halves of a leaf that is split have room for any record
pub leaf_splits_give_room : LeafSplitsGiveRoom
leaf_splits_give_room = leaf-splits

-- so have those of a root that is a leaf
pub root_leaf_splits_give_room : RootLeafSplitsGiveRoom
root_leaf_splits_give_room = root-leaf-splits

-- a split of one of the full nodes directly above the leaf lowers the stage
pub inner_splits_lower_the_stage : InnerSplitsLowerTheStage
inner_splits_lower_the_stage = inner-splits

-- so does that of the root, where all nodes above the leaf are full
pub root_splits_lower_the_stage : RootSplitsLowerTheStage
root_splits_lower_the_stage = root-splits

-- after both the stage is at most the level of the node that was split, above which there is one level more
pub splits_leave_a_level : SplitsLeaveALevel
splits_leave_a_level = splits-leave-a-level

-- a leaf that is made of few enough records is one that has room
pub made_leaves_are_roomy : MadeLeavesAreRoomy
made_leaves_are_roomy = made-leaves

-- an inner node that is made of children has taken the words of their entries
pub made_inners_take_their_entries : MadeInnersTakeTheirEntries
made_inners_take_their_entries = made-inners

-- so has each inner node that breaks no rule
pub entries_take_the_words : EntriesTakeTheWords
entries_take_the_words = entries-taken

-- where a swap turns a link, the leaf of each key stays that does not go
pub links_leave_other_leaves : LinksLeaveOtherLeaves
links_leave_other_leaves = links

-- so does the leaf of another key, whatever is made anew for one; and after the split of an inner node that of every key
pub others_stay : OthersStay
others_stay = others-stay

-- a key that has room keeps it while its leaf stays
pub room_stays : RoomStays
room_stays = room-stays

-- a merge gives room to the keys of both leaves
pub merges_give_room : MergesGiveRoom
merges_give_room = merges-give-room
