-- What becomes of a leaf that a delete leaves too small to stand alone, while no other call is open: where a neighbour has room it is merged with one, so that there
-- is one leaf fewer when the call ends; or directly after its effect a merge's slots or descriptors were not left. The newest mark stands first.
use Rattle.std.specs.Prelude.{◌≡◌, ◌⊎◌, ℕ, suc, ◌+◌, ◌<◌, List, Some}
use Rattle.bz_call.specs.Map.{key_of}
use Rattle.bz_call.specs.declared.replies.Reply.{Reply}
use Rattle.bz_call.specs.declared.replies.Reply.TheVariants.{Deleted}
use Rattle.bz_layout.specs.declared.config.Config.{Config}
use Rattle.bz_layout.specs.declared.swaps.TheConstants.{MERGE_SWAPS}
use Rattle.bz_layout.specs.declared.thresholds.TheConstants.{MERGE_SLOTS}
use Rattle.bz_mark.specs.Moments.{at_moment}
use Rattle.bz_mark.specs.declared.marks.Mark.{Mark}
use Rattle.bz_mark.specs.declared.marks.Mark.TheVariants.{End}
use Rattle.bz_sound.specs.Calls.{Open, open_call}
use Rattle.bz_sound.specs.Solitary.{IsSolitary}
use Rattle.bz_sound.specs.Memory.Moments.{EachMark, image_at}
use Rattle.bz_mark.specs.Counts.{count_taken}
use Rattle.bz_sound.specs.Power.Spent.{count_used}
use Rattle.bz_mark.specs.Times.{since_on}
use Rattle.bz_world.specs.Leaves.{leaves_after}
use Rattle.bz_stage.specs.FromLeaves.Neighbours.{MayBeMerged}

-- fewer slots are left than a merge takes, or fewer descriptors
abbrev pub LacksForMerge : Config → List ℕ → List Mark → Type 0
LacksForMerge c start past = (c.nodes < count_used c start past + MERGE_SLOTS) ⊎ (c.swaps < count_taken c (since_on past) + MERGE_SWAPS)

-- there is one leaf fewer than directly after the effect that came at this moment, or these were not left then
abbrev pub IsMergedSince : Config → List ℕ → List Mark → ℕ → Type 0
IsMergedSince c start past at = (leaves_after c start past + 1 ≡ leaves_after c start (at_moment (suc at) past)) ⊎ LacksForMerge c start (at_moment (suc at) past)

-- so it is where a worker's delete ends that had its effect at this moment, and whose leaf might be merged directly after that
abbrev pub MergesFor : Config → List ℕ → List Mark → ℕ → Reply → Type 0
MergesFor c start past w (Deleted had) =
    (opened : Open) (at : ℕ) → open_call w past ≡ Some opened → IsSolitary w past → opened.effect ≡ Some at → MayBeMerged c (image_at start (suc at) past) (key_of opened.call) → IsMergedSince c start past at
MergesFor c start past w reply = Unit {0}

-- at each End
abbrev pub MergeFollows : Config → List ℕ → List Mark → Mark → Type 0
MergeFollows c start past (End w n reply at) = MergesFor c start past w reply
MergeFollows c start past mark = Unit {0}

abbrev pub AreMergesMade : Config → List ℕ → List Mark → Type 0
AreMergesMade c start past = EachMark (MergeFollows c start) past
