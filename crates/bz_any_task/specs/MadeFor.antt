-- What a task was made of that freezes a leaf or makes a node anew, told of the key that its call looks for and of the words that it asks
-- for: facts of moments since the look-up began, which no later step can change.
use Rattle.std.specs.Prelude.{◌≡◌, ℕ, ◌+◌, ◌-◌, ◌<◌, ◌≤◌, true, List, Some, slice_get}
use Rattle.bz_ascent.specs.declared.ascent.Ascent.{Ascent}
use Rattle.bz_consol.specs.Facts.{IsMadeOf}
use Rattle.bz_layout.specs.declared.sizes.TheConstants.{SHARED_WORDS}
use Rattle.bz_layout.specs.declared.thresholds.TheConstants.{MERGE_BELOW, SPLIT_ABOVE}
use Rattle.bz_merge.specs.FromSplit.Parts.{AreHalvesFrom}
use Rattle.bz_slotted.specs.Readers.{live_of}
use Rattle.bz_slotted.specs.ReadingLaws.{node_of}
use Rattle.bz_word.specs.Statuses.{status}
use Rattle.bz_task.specs.FromContent.Content.{leaf_in}
use Rattle.bz_task.specs.Instant.{page_at}
use Rattle.bz_task.specs.Outcomes.{IsView}
use Rattle.bz_task.specs.Scene.{Past}
use Rattle.bz_task.specs.declared.path.Link.{Link}
use Rattle.bz_task.specs.declared.view.LeafView.{LeafView}
use Rattle.bz_any_task.specs.declared.running.AnyTask.{AnyTask}
use Rattle.bz_any_task.specs.declared.running.AnyTask.TheVariants.{Seeking, Finding, Reading, Inserting, Updating, Deleting, Freezing, Consolidating, Splitting, SplittingBelow, SplittingInner, SplittingInnerRoot, Merging, MergingInner, Lowering}

-- at a moment since the look-up began the key's leaf was the one in this slot
pub record WasLeafOf (key : List ℕ) (slot : ℕ) (p : Past) : Type 0 where
  pub moment : ℕ
  pub since : p.since ≤ moment
  pub now : moment ≤ p.now
  pub leaf : leaf_in p.config (p.at moment).image key ≡ slot

-- and it had fewer words free than these
pub record LackedWords (key : List ℕ) (words slot : ℕ) (p : Past) : Type 0 where
  pub within : slot < p.config.nodes
  pub was : WasLeafOf key slot p
  pub lacked : SHARED_WORDS < (page_at p.config (p.at was.moment) slot).count + (page_at p.config (p.at was.moment) slot).block + words

-- it was viewed, frozen and with more live words than it may keep
pub record WasCrowded (key : List ℕ) (view : LeafView) (p : Past) : Type 0 where
  pub is : IsView key view p
  pub frozen : (status view.status).frozen ≡ true
  pub many : SPLIT_ABOVE < live_of (node_of view.image.0)

-- these are the words of a copy of a leaf that was read, with no more live words than it may keep
pub record IsSmallCopy (read copy : List ℕ) : Type 0 where
  pub made : IsMadeOf read copy
  pub few : live_of (node_of read) ≤ SPLIT_ABOVE

-- and these are the halves of one that has more
pub record AreLargeHalves (read left right sep : List ℕ) : Type 0 where
  pub halves : AreHalvesFrom read left right sep
  pub many : SPLIT_ABOVE < live_of (node_of read)

-- the copy of the key's leaf, made of what was viewed of it
pub record IsCopyFor (key : List ℕ) (slot : ℕ) (copy : List ℕ) (p : Past) : Type 0 where
  pub view : LeafView
  pub is : IsView key view p
  pub at : view.slot ≡ slot
  pub small : IsSmallCopy view.image.0 copy

-- and its halves
pub record AreHalvesFor (key : List ℕ) (slot : ℕ) (left right sep : List ℕ) (p : Past) : Type 0 where
  pub view : LeafView
  pub leaf : WasCrowded key view p
  pub at : view.slot ≡ slot
  pub halves : AreHalvesFrom view.image.0 left right sep

-- the path of an ascent has its last link, which leads to the leaf
pub record HasFoot (a : Ascent) : Type 0 where
  pub last : Link
  pub is : slice_get a.path.links (a.path.depth - 1) ≡ Some last

-- an ascent from the key's leaf, which has to be split, has come to the node in this slot
pub record HasComeTo (key : List ℕ) (slot : ℕ) (a : Ascent) (p : Past) : Type 0 where
  pub key_is : a.key ≡ key
  pub node : a.node.slot ≡ slot
  pub foot : HasFoot a
  pub view : LeafView
  pub leaf : WasCrowded key view p

-- the ascent is one for this key, and is at the leaf, which stands below another node
pub record IsAtFoot (key : List ℕ) (a : Ascent) : Type 0 where
  pub key_is : a.key ≡ key
  pub below : 0 < a.place
  pub last : a.place + 1 ≡ a.path.depth
  pub foot : HasFoot a

-- the halves of the key's leaf, from which such an ascent begins
pub record AreHalvesAtFoot (key : List ℕ) (slot : ℕ) (left right sep : List ℕ) (a : Ascent) (p : Past) : Type 0 where
  pub halves : AreHalvesFor key slot left right sep p
  pub foot : IsAtFoot key a

-- the node to which an ascent has come stands below another one
pub record HasComeBelow (key : List ℕ) (slot : ℕ) (a : Ascent) (p : Past) : Type 0 where
  pub come : HasComeTo key slot a p
  pub below : 0 < a.place

-- or it is the root
pub record HasComeToRoot (key : List ℕ) (slot : ℕ) (a : Ascent) (p : Past) : Type 0 where
  pub come : HasComeTo key slot a p
  pub root : a.place ≡ 0

-- a merge of the key's leaf, which was frozen when it was viewed
pub record IsMergeOf (key : List ℕ) (slot st : ℕ) (p : Past) : Type 0 where
  pub leaf : WasLeafOf key slot p
  pub frozen : (status st).frozen ≡ true

-- the key's leaf was viewed, with too few live words to stand alone
pub record WasSmallLeafOf (key : List ℕ) (slot : ℕ) (p : Past) : Type 0 where
  pub view : LeafView
  pub is : IsView key view p
  pub at : view.slot ≡ slot
  pub few : live_of (node_of view.image.0) < MERGE_BELOW

-- the task is the freeze of a leaf that lacked the words, or one of these, for this key and these words
unfoldable pub IsMadeFor : AnyTask → List ℕ → ℕ → Past → Type 0
IsMadeFor (Seeking t) = λ key words p. ⊥
IsMadeFor (Finding t) = λ key words p. ⊥
IsMadeFor (Reading t) = λ key words p. ⊥
IsMadeFor (Inserting t) = λ key words p. ⊥
IsMadeFor (Updating t) = λ key words p. ⊥
IsMadeFor (Deleting t) = λ key words p. ⊥
IsMadeFor (Freezing t) = λ key words p. LackedWords key words t.slot p
IsMadeFor (Consolidating t) = λ key words p. IsCopyFor key t.link.slot t.image.0 p
IsMadeFor (Splitting t) = λ key words p. AreHalvesFor key t.link.slot t.halves.left.0 t.halves.right.0 t.halves.separator p
IsMadeFor (SplittingBelow t a) = λ key words p. AreHalvesAtFoot key t.lower.slot t.halves.left.0 t.halves.right.0 t.halves.separator a p
IsMadeFor (SplittingInner t a) = λ key words p. HasComeBelow key t.middle.slot a p
IsMadeFor (SplittingInnerRoot t a) = λ key words p. HasComeToRoot key t.upper.slot a p
IsMadeFor (Merging t) = λ key words p. ⊥
IsMadeFor (MergingInner t) = λ key words p. ⊥
IsMadeFor (Lowering t) = λ key words p. ⊥

-- the task is a merge for this key, which stands in the place of a copy
unfoldable pub IsMergeFor : AnyTask → List ℕ → Past → Type 0
IsMergeFor (Merging t) = λ key p. IsMergeOf key t.lower.slot t.status p
IsMergeFor t = λ key p. ⊥

-- the task is a merge of that leaf, frozen or not
unfoldable pub IsSmallMerge : AnyTask → List ℕ → Past → Type 0
IsSmallMerge (Merging t) = λ key p. WasSmallLeafOf key t.lower.slot p
IsSmallMerge t = λ key p. ⊥
