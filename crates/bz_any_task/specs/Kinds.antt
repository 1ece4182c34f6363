-- Which task it is, without what it has learnt.
use Rattle.std.specs.Prelude.{◌≡◌, ◌<◌, ◌⊎◌, ℕ, ◌-◌, Bool, true, false, List, Option, Some, None, refl}
use Rattle.bz_ascent.specs.Ascents.{IsAtLeaf}
use Rattle.bz_ascent.specs.declared.ascent.Ascent.{Ascent}
use Rattle.bz_task.specs.declared.path.Path.{Path}
use Rattle.bz_any_task.specs.Duties.{ascent_of, goes_on}
use Rattle.bz_any_task.specs.declared.running.AnyTask.{AnyTask}
use Rattle.bz_any_task.specs.declared.running.AnyTask.TheVariants.{Seeking, Finding, Reading, Inserting, Updating, Deleting, Freezing, Consolidating, Splitting, SplittingBelow, SplittingInner, SplittingInnerRoot, Merging, MergingInner, Lowering}

-- the way to the leaf of a key, the key in its leaf, a leaf read whole; the changes of a record; the freeze and the copy of a leaf; the splits: of
-- a root that is a leaf, of a leaf below a parent, of an inner node below a parent, and of a root that is one, each of the last three with how
-- far up the way from the leaf it is; the merge of a leaf, and of an inner node under the root; and the lowering of the root
pub data Kind : Type 0 where
  Seek : Kind
  Find : Kind
  ReadWhole : Kind
  Insert : Kind
  Update : Kind
  Delete : Kind
  Freeze : Kind
  Copy : Kind
  SplitRootLeaf : Kind
  SplitLeaf : (a : Ascent) → Kind
  SplitNode : (a : Ascent) → Kind
  SplitRootNode : (a : Ascent) → Kind
  Merge : Kind
  MergeNodes : Kind
  LowerRoot : Kind

unfoldable pub kind_of : AnyTask → Kind
kind_of (Seeking t) = Seek
kind_of (Finding t) = Find
kind_of (Reading t) = ReadWhole
kind_of (Inserting t) = Insert
kind_of (Updating t) = Update
kind_of (Deleting t) = Delete
kind_of (Freezing t) = Freeze
kind_of (Consolidating t) = Copy
kind_of (Splitting t) = SplitRootLeaf
kind_of (SplittingBelow t a) = SplitLeaf a
kind_of (SplittingInner t a) = SplitNode a
kind_of (SplittingInnerRoot t a) = SplitRootNode a
kind_of (Merging t) = Merge
kind_of (MergingInner t) = MergeNodes
kind_of (Lowering t) = LowerRoot

-- the three that look up and do no more
abbrev pub is_look : Kind → Bool
is_look Seek = true
is_look Find = true
is_look ReadWhole = true
is_look Insert = false
is_look Update = false
is_look Delete = false
is_look Freeze = false
is_look Copy = false
is_look SplitRootLeaf = false
is_look (SplitLeaf a) = false
is_look (SplitNode a) = false
is_look (SplitRootNode a) = false
is_look Merge = false
is_look MergeNodes = false
is_look LowerRoot = false

-- those that freeze a leaf, or put new nodes in the place of one, by one swap; but for the two that take a level away, which none but a call
-- that has had its effect begins
abbrev pub is_renewal : Kind → Bool
is_renewal Seek = false
is_renewal Find = false
is_renewal ReadWhole = false
is_renewal Insert = false
is_renewal Update = false
is_renewal Delete = false
is_renewal Freeze = true
is_renewal Copy = true
is_renewal SplitRootLeaf = true
is_renewal (SplitLeaf a) = true
is_renewal (SplitNode a) = true
is_renewal (SplitRootNode a) = true
is_renewal Merge = false
is_renewal MergeNodes = false
is_renewal LowerRoot = false

-- a task of such a kind goes on as it begins, whatever it was made of
abbrev pub begins_on : Kind → Bool
begins_on Seek = true
begins_on Find = false
begins_on ReadWhole = true
begins_on Insert = false
begins_on Update = false
begins_on Delete = false
begins_on Freeze = true
begins_on Copy = true
begins_on SplitRootLeaf = true
begins_on (SplitLeaf a) = true
begins_on (SplitNode a) = true
begins_on (SplitRootNode a) = true
begins_on Merge = true
begins_on MergeNodes = true
begins_on LowerRoot = false

pub kinds-tell-what-goes-on : (t : AnyTask) → begins_on (kind_of t) ≡ true → goes_on t ≡ true
unfolding kind_of goes_on
kinds-tell-what-goes-on (Seeking t) e = refl
kinds-tell-what-goes-on (Finding t) e = absurd (cc)
kinds-tell-what-goes-on (Reading t) e = refl
kinds-tell-what-goes-on (Inserting t) e = absurd (cc)
kinds-tell-what-goes-on (Updating t) e = absurd (cc)
kinds-tell-what-goes-on (Deleting t) e = absurd (cc)
kinds-tell-what-goes-on (Freezing t) e = refl
kinds-tell-what-goes-on (Consolidating t) e = refl
kinds-tell-what-goes-on (Splitting t) e = refl
kinds-tell-what-goes-on (SplittingBelow t a) e = refl
kinds-tell-what-goes-on (SplittingInner t a) e = refl
kinds-tell-what-goes-on (SplittingInnerRoot t a) e = refl
kinds-tell-what-goes-on (Merging t) e = refl
kinds-tell-what-goes-on (MergingInner t) e = refl
kinds-tell-what-goes-on (Lowering t) e = absurd (cc)

-- the level of the node to which an ascent has come: that of the leaf is 0
abbrev pub level_of : Ascent → ℕ
level_of a = a.path.depth - 1 - a.place

-- the split of the key's leaf below a parent, to which the path leads
pub record IsLeafSplit (key : List ℕ) (path : Path) (k : Kind) : Type 0 where
  pub from : Ascent
  pub is : k ≡ SplitLeaf from
  pub leaf : IsAtLeaf from key path

-- the split of the inner node to which an ascent has come, below a parent or at the root
abbrev pub IsNodeSplit : Ascent → Kind → Type 0
IsNodeSplit a k = ((k ≡ SplitNode a) × (0 < a.place)) ⊎ ((k ≡ SplitRootNode a) × (a.place ≡ 0))

-- how far up the way from the leaf a task of this kind splits, if it does
abbrev pub ascent_in : Kind → Option Ascent
ascent_in (SplitLeaf a) = Some a
ascent_in (SplitNode a) = Some a
ascent_in (SplitRootNode a) = Some a
ascent_in k = None

pub kinds-tell-the-ascent : (t : AnyTask) → ascent_of t ≡ ascent_in (kind_of t)
unfolding ascent_of kind_of
kinds-tell-the-ascent (SplittingBelow t a) = refl
kinds-tell-the-ascent (SplittingInner t a) = refl
kinds-tell-the-ascent (SplittingInnerRoot t a) = refl
kinds-tell-the-ascent t = refl
