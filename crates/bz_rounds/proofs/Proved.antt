-- What this crate proves, as lemmas that other crates cite by these names.
use Rattle.bz_rounds.proofs.Copying.{copies}
use Rattle.bz_rounds.proofs.Due.{ascents-due, leaves-due}
use Rattle.bz_rounds.proofs.Freezing.{freezes}
use Rattle.bz_rounds.proofs.HalvingBelow.{halves-below}
use Rattle.bz_rounds.proofs.HalvingInner.{inner-halves, inner-halves-leave}
use Rattle.bz_rounds.proofs.Lasting.{stages-stand}
use Rattle.bz_rounds.proofs.Left.{undisturbed-left}
use Rattle.bz_rounds.proofs.Levels.{ascents-below, ascents-stand}
use Rattle.bz_rounds.proofs.PartingRoot.{root-parts, root-parts-leave}
use Rattle.bz_rounds.proofs.Rising.{ascents-are-crowded}
use Rattle.bz_rounds.proofs.RootHalving.{root-halves}
use Rattle.bz_rounds.proofs.Seeing.{key-views-tell, key-views-tell-leaf, views-agree, views-tell}
use Rattle.bz_rounds.proofs.Thawed.{guards-thawed}
use Rattle.bz_rounds.proofs.Viewing.{views-tell-leaf}
use Rattle.bz_rounds.proofs.Whichever.{undisturbed-swaps}
use Rattle.bz_rounds.specs.Crowded.{AscentsAreCrowded}
use Rattle.bz_rounds.specs.Due.{UndisturbedAscentsAreDue, UndisturbedGuardsAreThawed, UndisturbedLeavesAreDue}
use Rattle.bz_rounds.specs.Laws.{UndisturbedCopiesGiveRoom, UndisturbedFreezesLowerTheStage, UndisturbedInnerSplitsLowerTheStage, UndisturbedLeafSplitsGiveRoom, UndisturbedRootLeafSplitsGiveRoom, UndisturbedRootSplitsLowerTheStage, UndisturbedSwapsLowerTheStage}
use Rattle.bz_rounds.specs.Left.{UndisturbedInnerSplitsLeaveALevel, UndisturbedRootSplitsLeaveALevel, UndisturbedSwapsLeave}
use Rattle.bz_rounds.specs.Levels.{AscentsStandAtLevels, UndisturbedAscentsAreBelowTheStage}
use Rattle.bz_rounds.specs.Stands.{UndisturbedKeyViewsTellTheLeaf, UndisturbedViewsTellTheLeaf, StagesStand}
use Rattle.bz_rounds.specs.Viewed.{UndisturbedKeyViewsTellTheStage, UndisturbedViewsAgree, UndisturbedViewsTellTheStage}

-- a freeze of a leaf that lacks the words lowers the stage of its key
pub undisturbed_freezes_lower_the_stage : UndisturbedFreezesLowerTheStage
undisturbed_freezes_lower_the_stage = freezes

-- the copy of the key's leaf has room
pub undisturbed_copies_give_room : UndisturbedCopiesGiveRoom
undisturbed_copies_give_room = copies

-- so have the halves of a root leaf
pub undisturbed_root_leaf_splits_give_room : UndisturbedRootLeafSplitsGiveRoom
undisturbed_root_leaf_splits_give_room = root-halves

-- and those of a leaf below a parent
pub undisturbed_leaf_splits_give_room : UndisturbedLeafSplitsGiveRoom
undisturbed_leaf_splits_give_room = halves-below

-- the nodes that were found full on the way up from a leaf that has to be split are full now
pub ascents_are_crowded : AscentsAreCrowded
ascents_are_crowded = ascents-are-crowded

-- so the split of one of them lowers the stage of the key
pub undisturbed_inner_splits_lower_the_stage : UndisturbedInnerSplitsLowerTheStage
undisturbed_inner_splits_lower_the_stage = inner-halves

-- so does that of a full root
pub undisturbed_root_splits_lower_the_stage : UndisturbedRootSplitsLowerTheStage
undisturbed_root_splits_lower_the_stage = root-parts

-- so does the swap of whichever of these tasks it is, where it was made for the key
pub undisturbed_swaps_lower_the_stage : UndisturbedSwapsLowerTheStage
undisturbed_swaps_lower_the_stage = undisturbed-swaps

-- what a look-up of the key saw of the status of its leaf tells whether the stage is 0
pub undisturbed_key_views_tell_the_stage : UndisturbedKeyViewsTellTheStage
undisturbed_key_views_tell_the_stage = key-views-tell

-- so does what was seen where the leaf was read whole
pub undisturbed_views_tell_the_stage : UndisturbedViewsTellTheStage
undisturbed_views_tell_the_stage = views-tell

-- both saw the same status, of the same leaf
pub undisturbed_views_agree : UndisturbedViewsAgree
undisturbed_views_agree = views-agree

-- no guard of a link on the way to the leaf was a frozen node's
pub undisturbed_guards_are_thawed : UndisturbedGuardsAreThawed
undisturbed_guards_are_thawed = guards-thawed

-- so a frozen leaf that was viewed may be made anew
pub undisturbed_leaves_are_due : UndisturbedLeavesAreDue
undisturbed_leaves_are_due = leaves-due

-- and a node that was found full on the way up may be split
pub undisturbed_ascents_are_due : UndisturbedAscentsAreDue
undisturbed_ascents_are_due = ascents-due

-- while nobody's swap takes effect the stage of a key stands
pub stages_stand : StagesStand
stages_stand = stages-stand

-- the key's leaf is frozen now where it was when the key was looked up
pub undisturbed_key_views_tell_the_leaf : UndisturbedKeyViewsTellTheLeaf
undisturbed_key_views_tell_the_leaf = key-views-tell-leaf

-- and it is frozen and crowded now where it was when it was read whole
pub undisturbed_views_tell_the_leaf : UndisturbedViewsTellTheLeaf
undisturbed_views_tell_the_leaf = views-tell-leaf

-- the node to which an ascent has come stands at the level that its place on the path tells
pub ascents_stand_at_levels : AscentsStandAtLevels
ascents_stand_at_levels = ascents-stand

-- so the stage of a key whose leaf has to be split is above that level
pub undisturbed_ascents_are_below_the_stage : UndisturbedAscentsAreBelowTheStage
undisturbed_ascents_are_below_the_stage = ascents-below

-- after the split of a full node on the way up the stage is at most the level of that node
pub undisturbed_inner_splits_leave_a_level : UndisturbedInnerSplitsLeaveALevel
undisturbed_inner_splits_leave_a_level = inner-halves-leave

-- so it is after that of a full root
pub undisturbed_root_splits_leave_a_level : UndisturbedRootSplitsLeaveALevel
undisturbed_root_splits_leave_a_level = root-parts-leave

-- what the swap of whichever of these tasks leaves of the stage, by its kind
pub undisturbed_swaps_leave : UndisturbedSwapsLeave
undisturbed_swaps_leave = undisturbed-left
