-- What a merge is to do: the two leaves, as they were read below a parent that was read, and why it is this neighbour.
use Rattle.std.specs.Prelude.{◌≡◌, ℕ, ◌+◌, ◌^◌, ◌<◌, ◌≤◌, if◌then◌else◌, Bool, true, false, List, Option, Some, slice_index}
use Rattle.bz_layout.specs.declared.sizes.TheConstants.{NODE_WORDS, STATUS_AT}
use Rattle.bz_layout.specs.declared.thresholds.TheConstants.{SPLIT_ABOVE, MERGE_BELOW, MERGE_SLOTS}
use Rattle.bz_node.specs.Records.{IsAbove, IsBelow}
use Rattle.bz_slotted.specs.Readers.{count_of, child_of, key_of, live_of}
use Rattle.bz_slotted.specs.ReadingLaws.{node_of}
use Rattle.bz_content.specs.Restructures.{children_of}
use Rattle.bz_task.specs.Instant.{words, durable}
use Rattle.bz_task.specs.Scene.{Past}
use Rattle.bz_task.specs.declared.path.Link.{Link}
use Rattle.bz_renew.specs.Nodes.{Nodes}
use Rattle.bz_split.specs.BelowSplits.{AreLinksDown}
use Rattle.bz_merge.specs.Merges.{low_in, high_in}
use Rattle.bz_merge.specs.Siblings.{WereRead, WasParentNode, IsChildAt, StoodBetween, HungFrom, SeenLeaf, WasSeen, HungBeside}

-- the link to the parent and the link to the viewed leaf; the status and the words that were viewed; the words that were read of the
-- parent; the neighbour: whether it is the right one, the place of the left one of the two, its slot, and the words that were read of
-- it; and the slots and the words of the new parent and of the merged leaf
pub record Merging : Type 0 where
  pub upper : Link
  pub lower : Link
  pub status : ℕ
  pub leaf : List ℕ
  pub read : List ℕ
  pub right : Bool
  pub place : ℕ
  pub beside_slot : ℕ
  pub beside : List ℕ
  pub slot : ℕ → ℕ
  pub image : ℕ → List ℕ

abbrev pub merge_nodes : Merging → Nodes
merge_nodes r = record { count = MERGE_SLOTS; slot = r.slot; image = r.image }

-- the viewed leaf and the neighbour, and the two in their order
abbrev pub viewed_leaf : Merging → SeenLeaf
viewed_leaf r = record { slot = r.lower.slot; status = r.status; image = r.leaf }

abbrev pub beside_leaf : Merging → SeenLeaf
beside_leaf r = record { slot = r.beside_slot; status = slice_index r.beside STATUS_AT; image = r.beside }

abbrev pub first_of : Bool → SeenLeaf → SeenLeaf → SeenLeaf
first_of right own other = if right then own else other

abbrev pub second_of : Bool → SeenLeaf → SeenLeaf → SeenLeaf
second_of right own other = if right then other else own

-- their places among the parent's children
abbrev pub own_place : Bool → ℕ → ℕ
own_place right place = if right then place else place + 1

abbrev pub other_place : Bool → ℕ → ℕ
other_place right place = if right then place + 1 else place

-- a neighbour of a child: the two stand side by side
pub record IsPair (read : List ℕ) (slot : ℕ) (right : Bool) (place beside : ℕ) : Type 0 where
  pub counted : place + 1 < count_of (node_of read)
  pub own : IsChildAt read slot (own_place right place)
  pub other : child_of (node_of read) (other_place right place) ≡ beside

-- the leaf was viewed below the parent, whose status was read at moment `guarded`, and had fewer live words than one needs to stand alone
pub record IsViewed (upper lower : Link) (own : SeenLeaf) (p : Past) : Type 0 where
  pub links : AreLinksDown upper lower p
  pub guarded : ℕ
  pub is_guarded : links.guard.guarded ≡ guarded
  pub slot : own.slot ≡ lower.slot
  pub at : ℕ
  pub low : Option (List ℕ)
  pub high : Option (List ℕ)
  pub seen : WasSeen own at low high p
  pub few : live_of (durable p.config (p.at at) own.slot) < MERGE_BELOW

-- the parent's words before a place were read, and none from there on
pub record IsReadingParent (r : Merging) (place : ℕ) (p : Past) : Type 0 where
  pub viewed : IsViewed r.upper r.lower (viewed_leaf r) p
  pub were : WereRead r.upper.slot viewed.guarded r.lower.status place r.read p
  pub blank : (i : ℕ) → place ≤ i → slice_index r.read i ≡ 0

-- child j of a parent with these words was seen as a leaf which has too many live words to be merged with this one
pub record LackedAt (read leaf : List ℕ) (j : ℕ) (p : Past) : Type 0 where
  pub other : SeenLeaf
  pub at : ℕ
  pub low : Option (List ℕ)
  pub high : Option (List ℕ)
  pub slot : child_of (node_of read) j ≡ other.slot
  pub seen : WasSeen other at low high p
  pub many : SPLIT_ABOVE < live_of (node_of leaf) + live_of (node_of other.image)

-- the right neighbour was tried before the left one
abbrev pub IsTried : (read leaf : List ℕ) → Bool → ℕ → Past → Type 0
IsTried read leaf right place p = right ≡ false → place + 2 < count_of (node_of read) → LackedAt read leaf (place + 2) p

-- the parent's words were those that were read, and the neighbour is chosen
pub record IsPaired (r : Merging) (p : Past) : Type 0 where
  pub viewed : IsViewed r.upper r.lower (viewed_leaf r) p
  pub parent : WasParentNode r.upper.slot viewed.guarded r.read p
  pub pair : IsPair r.read r.lower.slot r.right r.place r.beside_slot
  pub tried : IsTried r.read r.leaf r.right r.place p

-- the neighbour's status was read at moment `at`, and its words before a place from then on, and none from there on
pub record IsReadingBeside (slot : ℕ) (beside : List ℕ) (place : ℕ) (p : Past) : Type 0 where
  pub at : ℕ
  pub since : p.since ≤ at
  pub now : at ≤ p.now
  pub reached : (p.at at).reached slot ≡ true
  pub was : words p.config (p.at at) slot STATUS_AT ≡ slice_index beside STATUS_AT
  pub plain : slice_index beside STATUS_AT < 2 ^ 61
  pub were : WereRead slot at (slice_index beside STATUS_AT) place beside p
  pub blank : (i : ℕ) → place ≤ i → slice_index beside i ≡ 0

-- after that, and after the view, the parent's status was found again: both stood below it at moment `moment`
pub record IsChecked (r : Merging) (p : Past) : Type 0 where
  pub paired : IsPaired r p
  pub reading : IsReadingBeside r.beside_slot r.beside NODE_WORDS p
  pub moment : ℕ
  pub order : reading.at ≤ moment
  pub viewed : paired.viewed.at ≤ moment
  pub own : StoodBetween r.lower.slot moment (low_in (children_of (node_of r.read)) paired.parent.low (own_place r.right r.place)) (high_in (children_of (node_of r.read)) paired.parent.high (own_place r.right r.place)) p
  pub other : StoodBetween r.beside_slot moment (low_in (children_of (node_of r.read)) paired.parent.low (other_place r.right r.place)) (high_in (children_of (node_of r.read)) paired.parent.high (other_place r.right r.place)) p
  pub own_hung : HungFrom r.lower.slot r.upper.slot (own_place r.right r.place) moment p
  pub other_hung : HungFrom r.beside_slot r.upper.slot (other_place r.right r.place) moment p

-- the key that parts the two
abbrev pub sep_of : List ℕ → ℕ → List ℕ
sep_of read place = key_of (node_of read) (place + 1)

-- both leaves were seen as they stood below the parent, side by side at a moment since the view, and have room in one
pub record IsPlanned (r : Merging) (p : Past) : Type 0 where
  pub paired : IsPaired r p
  pub low : Option (List ℕ)
  pub high : Option (List ℕ)
  pub low_is : low ≡ low_in (children_of (node_of r.read)) paired.parent.low r.place
  pub high_is : high ≡ high_in (children_of (node_of r.read)) paired.parent.high (r.place + 1)
  pub above : IsAbove low (sep_of r.read r.place)
  pub below : IsBelow high (sep_of r.read r.place)
  pub first_at : ℕ
  pub second_at : ℕ
  pub first : WasSeen (first_of r.right (viewed_leaf r) (beside_leaf r)) first_at low (Some (sep_of r.read r.place)) p
  pub second : WasSeen (second_of r.right (viewed_leaf r) (beside_leaf r)) second_at (Some (sep_of r.read r.place)) high p
  pub beside : HungBeside r.lower.slot (own_place r.right r.place) (beside_leaf r) (other_place r.right r.place) p
  pub later : paired.viewed.at ≤ beside.moment
  pub room : live_of (node_of (first_of r.right (viewed_leaf r) (beside_leaf r)).image) + live_of (node_of (second_of r.right (viewed_leaf r) (beside_leaf r)).image) ≤ SPLIT_ABOVE
