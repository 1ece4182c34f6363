-- What this crate proves, as lemmas that other crates cite by these names.
use Rattle.bz_page.proofs.Proved.{ordered_pairs_are_found}
use Rattle.bz_tree.proofs.Proved.{leaves_tile_the_keys}
use Rattle.bz_slotted.proofs.Proved.{high_fences_are_read, leaf_rules_are_facts, live_words_fit, whole_leaves_are_readable}
use Rattle.bz_word.proofs.Proved.{statuses}
use Rattle.bz_joined.proofs.DueMerges.{merges-are-due, roots-have-none, views-tell-live}
use Rattle.bz_joined.proofs.Freezes.{freezes-beside, freezes-beside-leaf, freezes-own, small-freezes}
use Rattle.bz_joined.proofs.Knowing.{do-not-lack, known-stay, merges-know, tasks-try}
use Rattle.bz_joined.proofs.Lacked.{undisturbed-lack}
use Rattle.bz_joined.proofs.LackingSlots.{merges-lack}
use Rattle.bz_joined.proofs.Undisturbed.{freezes-beside-leaf-undisturbed, freezes-beside-undisturbed}
use Rattle.bz_joined.proofs.Merges.{merges}
use Rattle.bz_joined.proofs.Single.{freezes-single}
use Rattle.bz_joined.proofs.SmallLeaves.{deletes-tell, undisturbed-deletes-tell, mergeable-below, roots-are-trees}
use Rattle.bz_joined.proofs.Standing.{neighbours-stand}
use Rattle.bz_joined.proofs.Swapped.{merge-swaps}
use Rattle.bz_joined.specs.DueMerges.{UndisturbedMergesAreDue, UndisturbedRootLeavesHaveNoNeighbour, UndisturbedViewsTellTheLiveWords}
use Rattle.bz_joined.specs.Laws.{FreezesBesideKeepTheLeaf, FreezesBesideKeepTheStage, FrozenLeavesAreTheKeys, MergesGiveRoom, SmallFreezesLeaveACopy}
use Rattle.bz_joined.specs.Undisturbed.{UndisturbedFreezesBesideKeepTheLeaf, UndisturbedFreezesBesideKeepTheStage, UndisturbedFreezesFreezeTheLeaf, MergeSwapsGiveRoom}
use Rattle.bz_joined.specs.Neighbours.{KnownLeavesStay, UndisturbedMergesDoNotLackRoom, UndisturbedNeighboursLackRoom, UndisturbedTasksTryTheirNeighbours, MergesKnowTheirLeaf, MergesLackSlotsRightly, NeighboursStand}
use Rattle.bz_joined.specs.SmallLeaves.{DeletesTellOfMerges, UndisturbedDeletesTellOfMerges, UndisturbedRootLeavesAreTheTree, MergeableLeavesStandBelow}

-- the freeze of a neighbour leaves the stage
pub freezes_beside_keep_the_stage : FreezesBesideKeepTheStage
freezes_beside_keep_the_stage = freezes-beside

-- and the leaf of the key as it is
pub freezes_beside_keep_the_leaf : FreezesBesideKeepTheLeaf
freezes_beside_keep_the_leaf = freezes-beside-leaf

-- that of the key's leaf leaves it frozen
pub frozen_leaves_are_the_keys : FrozenLeavesAreTheKeys
frozen_leaves_are_the_keys = freezes-own

-- that of a leaf with few live words leaves it to be copied
pub small_freezes_leave_a_copy : SmallFreezesLeaveACopy
small_freezes_leave_a_copy = small-freezes

-- the leaf that is put in the place of two has room
pub merges_give_room : MergesGiveRoom
merges_give_room = merges

-- so a merge that freezes the neighbour of the key's leaf leaves the stage
pub undisturbed_freezes_beside_keep_the_stage : UndisturbedFreezesBesideKeepTheStage
undisturbed_freezes_beside_keep_the_stage = freezes-beside-undisturbed

-- and the key's leaf as it is
pub undisturbed_freezes_beside_keep_the_leaf : UndisturbedFreezesBesideKeepTheLeaf
undisturbed_freezes_beside_keep_the_leaf = freezes-beside-leaf-undisturbed

-- one that turns the link to the parent gives room
pub merge_swaps_give_room : MergeSwapsGiveRoom
merge_swaps_give_room =
    merge-swaps (record {
      tiles = leaves_tile_the_keys;
      roomy = record {
        sorting = record { rules = leaf_rules_are_facts; fit = live_words_fit; readable = whole_leaves_are_readable; ends = high_fences_are_read; found = ordered_pairs_are_found };
        codec = statuses;
      };
      room = merges_give_room;
    })

-- a freeze of the key's leaf by itself leaves it frozen
pub undisturbed_freezes_freeze_the_leaf : UndisturbedFreezesFreezeTheLeaf
undisturbed_freezes_freeze_the_leaf = freezes-single

-- in a quiet time a leaf that may be merged may be merged throughout
pub neighbours_stand : NeighboursStand
neighbours_stand = neighbours-stand

-- where no neighbour of the key's leaf had room for it, none has while nobody's swap takes effect
pub undisturbed_neighbours_lack_room : UndisturbedNeighboursLackRoom
undisturbed_neighbours_lack_room = undisturbed-lack

-- a merge that goes on knows the leaf that it was made for
pub merges_know_their_leaf : MergesKnowTheirLeaf
merges_know_their_leaf = merges-know

-- and it goes on knowing it
pub known_leaves_stay : KnownLeavesStay
known_leaves_stay = known-stay

-- so whichever task ends for want of a neighbour leaves a leaf that may not be merged
pub undisturbed_tasks_try_their_neighbours : UndisturbedTasksTryTheirNeighbours
undisturbed_tasks_try_their_neighbours = tasks-try

-- so a merge of a leaf that may be merged does not end for want of a neighbour while its worker is alone
pub undisturbed_merges_do_not_lack_room : UndisturbedMergesDoNotLackRoom
undisturbed_merges_do_not_lack_room = do-not-lack

-- a merge of a frozen leaf that ends for want of slots had found a neighbour with room
pub merges_lack_slots_rightly : MergesLackSlotsRightly
merges_lack_slots_rightly = merges-lack

-- a leaf that was viewed has the live words of the view
pub undisturbed_views_tell_the_live_words : UndisturbedViewsTellTheLiveWords
undisturbed_views_tell_the_live_words = views-tell-live

-- a leaf that is the root may not be merged
pub undisturbed_root_leaves_have_no_neighbour : UndisturbedRootLeavesHaveNoNeighbour
undisturbed_root_leaves_have_no_neighbour = roots-have-none

-- so where a leaf may be merged, its merge is due
pub undisturbed_merges_are_due : UndisturbedMergesAreDue
undisturbed_merges_are_due = merges-are-due

-- a delete that leaves a leaf which may be merged tells that it leaves little
pub deletes_tell_of_merges : DeletesTellOfMerges
deletes_tell_of_merges = deletes-tell

-- a leaf that may be merged is not the root
pub mergeable_leaves_stand_below : MergeableLeavesStandBelow
mergeable_leaves_stand_below = mergeable-below

-- a leaf to which one link leads is the whole tree
pub undisturbed_root_leaves_are_the_tree : UndisturbedRootLeavesAreTheTree
undisturbed_root_leaves_are_the_tree = roots-are-trees

-- so a delete that leaves a leaf which may be merged tells that it leaves little, in a leaf below another node
pub undisturbed_deletes_tell_of_merges : UndisturbedDeletesTellOfMerges
undisturbed_deletes_tell_of_merges = undisturbed-deletes-tell
