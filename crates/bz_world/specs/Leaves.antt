-- What becomes of the leaves of the tree, mark by mark: while the power is on there is one more only by the split of a leaf that had too many live words, and one
-- less only by the merge of one that had too few, both of which the tree leaves; it leaves another one only where that is copied, which was frozen, and had no more
-- live words than it may keep; and no node comes back that it has left. So each leaf is split or copied at most once. The newest mark stands first.
use Rattle.std.specs.Prelude.{◌≡◌, ◌⊎◌, ℕ, ◌+◌, ◌<◌, ◌≤◌, ◌&&◌, nat_lt, Bool, true, false, List, ◌∷◌, length, Some}
use Rattle.bz_call.specs.Map.{key_of}
use Rattle.bz_content.specs.Content.{image_of, leaf_in, view_in}
use Rattle.bz_stage.specs.FromLeaves.Neighbours.{leaf_page}
use Rattle.bz_layout.specs.declared.config.Config.{Config}
use Rattle.bz_layout.specs.declared.thresholds.TheConstants.{MERGE_BELOW, SPLIT_ABOVE}
use Rattle.bz_solo.specs.FromTally.Leaves.{is_leaf, leaves_in}
use Rattle.bz_mark.specs.Log.{Log}
use Rattle.bz_mark.specs.declared.marks.Mark.{Mark}
use Rattle.bz_slotted.specs.Records.{live_words}
use Rattle.bz_sound.specs.Calls.{Open, open_call}
use Rattle.bz_sound.specs.Memory.Moments.{EachMark, image_after, image_at}
use Rattle.bz_sound.specs.Memory.Spent.{is_reached_in}
use Rattle.bz_mark.specs.Times.{power_of}
use Rattle.bz_mark.specs.declared.power.Power.{Power}
use Rattle.bz_mark.specs.declared.power.Power.TheVariants as power

-- how many leaves the tree of the durable words has after these marks
abbrev pub leaves_after : Config → List ℕ → List Mark → ℕ
leaves_after c start past = leaves_in c (image_after start past)

-- how many live words the leaf of a call's key has at a moment
abbrev pub live_at : Config → List ℕ → List Mark → Open → ℕ → ℕ
live_at c start past opened moment = live_words (leaf_page c (image_of (image_at start moment past)) (key_of opened.call))

-- an open call of a worker, and a moment of it
pub record IsMomentOfCall (past : List Mark) : Type 0 where
  pub worker : ℕ
  pub opened : Open
  pub is_open : open_call worker past ≡ Some opened
  pub moment : ℕ
  pub after_begin : opened.begun < moment
  pub by_now : moment ≤ length past

-- slot k is in the tree of the durable words after these marks
abbrev pub in_tree : Config → List ℕ → List Mark → ℕ → Bool
in_tree c start past slot = is_reached_in c (image_after start past) slot

-- and is a leaf of it
abbrev pub is_leaf_after : Config → List ℕ → List Mark → ℕ → Bool
is_leaf_after c start past slot = nat_lt slot c.nodes && is_leaf (view_in c (image_after start past)) slot

-- there is one leaf more, and the leaf of that call's key had more live words then than a leaf may keep; with this mark the tree leaves it
pub record AddsALeaf (c : Config) (start : List ℕ) (past : List Mark) (mark : Mark) : Type 0 where
  pub more : leaves_after c start (mark ∷ past) ≡ leaves_after c start past + 1
  pub call : IsMomentOfCall past
  pub many : SPLIT_ABOVE < live_at c start past call.opened call.moment
  pub slot : ℕ
  pub leaf : leaf_in c (image_at start call.moment past) (key_of call.opened.call) ≡ slot
  pub was : in_tree c start past slot ≡ true
  pub gone : in_tree c start (mark ∷ past) slot ≡ false

-- there is one less, and the leaf of that call's key had fewer live words then than one needs to stand alone; with this mark the tree leaves it
pub record TakesALeaf (c : Config) (start : List ℕ) (past : List Mark) (mark : Mark) : Type 0 where
  pub less : leaves_after c start (mark ∷ past) + 1 ≡ leaves_after c start past
  pub call : IsMomentOfCall past
  pub few : live_at c start past call.opened call.moment < MERGE_BELOW
  pub slot : ℕ
  pub leaf : leaf_in c (image_at start call.moment past) (key_of call.opened.call) ≡ slot
  pub was : in_tree c start past slot ≡ true
  pub gone : in_tree c start (mark ∷ past) slot ≡ false

-- the leaf in this slot was the one of that call's key, frozen, and had no more live words then than a leaf may keep
pub record MayBeCopied (c : Config) (start : List ℕ) (past : List Mark) (slot : ℕ) : Type 0 where
  pub call : IsMomentOfCall past
  pub leaf : leaf_in c (image_at start call.moment past) (key_of call.opened.call) ≡ slot
  pub frozen : (leaf_page c (image_of (image_at start call.moment past)) (key_of call.opened.call)).frozen ≡ true
  pub few : live_at c start past call.opened call.moment ≤ SPLIT_ABOVE

-- there are as many, and the tree leaves a leaf only where that may be copied: at most one
pub record KeepsLeaves (c : Config) (start : List ℕ) (past : List Mark) (mark : Mark) : Type 0 where
  pub same : leaves_after c start (mark ∷ past) ≡ leaves_after c start past
  pub copied : (slot : ℕ) → is_leaf_after c start past slot ≡ true → in_tree c start (mark ∷ past) slot ≡ false → MayBeCopied c start past slot
  pub once : (slot other : ℕ) → is_leaf_after c start past slot ≡ true → in_tree c start (mark ∷ past) slot ≡ false → is_leaf_after c start past other ≡ true → in_tree c start (mark ∷ past) other ≡ false → slot ≡ other

-- one of these
abbrev pub FollowsLeaves : Config → List ℕ → List Mark → Mark → Type 0
FollowsLeaves c start past mark = KeepsLeaves c start past mark ⊎ (AddsALeaf c start past mark ⊎ TakesALeaf c start past mark)

-- a slot that was in the tree at a moment of an open call, and is not now, is not then
abbrev pub NoneComesBack : Config → List ℕ → List Mark → Mark → Type 0
NoneComesBack c start past mark = (m : IsMomentOfCall past) (slot : ℕ) → is_reached_in c (image_at start m.moment past) slot ≡ true → in_tree c start past slot ≡ false → in_tree c start (mark ∷ past) slot ≡ false

pub record FollowsTree (c : Config) (start : List ℕ) (past : List Mark) (mark : Mark) : Type 0 where
  pub leaves : FollowsLeaves c start past mark
  pub back : NoneComesBack c start past mark

-- of each mark while the power is on
abbrev pub LeavesFollow : Config → Power → List ℕ → List Mark → Mark → Type 0
LeavesFollow c at_start start past mark = power_of at_start past ≡ power.On → FollowsTree c start past mark

abbrev pub AreLeavesKept : Config → Power → Log → Type 0
AreLeavesKept c at_start log = EachMark (LeavesFollow c at_start log.start) log.past
