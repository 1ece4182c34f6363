-- What a merge of the key's leaf that ends for want of a neighbour, or of slots, tells of its neighbours.
use Rattle.std.specs.Prelude.{◌≡◌, ℕ, ◌+◌, ◌<◌, ◌≤◌, true, List, Option, Some, None}
use Rattle.bz_call.specs.declared.replies.Spent.TheVariants.{Nodes}
use Rattle.bz_layout.specs.Slots.{FreeSlots}
use Rattle.bz_merge.specs.Duties.{facts_of}
use Rattle.bz_merge.specs.Facts.{NoneFitted}
use Rattle.bz_merge.specs.Siblings.{WasSeen}
use Rattle.bz_merge.specs.declared.merge.Merge.{Merge}
use Rattle.bz_merge.specs.declared.phase.MergePhase.TheVariants.{NoNeighbour}
use Rattle.bz_content.specs.Content.{image_of}
use Rattle.bz_stage.specs.FromLeaves.Neighbours.{leaf_page, MayBeMerged}
use Rattle.bz_task.specs.Requests.{effects_in}
use Rattle.bz_task.specs.Scene.{Past, Scene, Waiting, Continues, IsScene, here}
use Rattle.bz_task.specs.declared.path.Link.{Link}
use Rattle.bz_task.specs.declared.todo.Outcome.{Outcome}
use Rattle.bz_task.specs.declared.todo.Outcome.TheVariants.{Full, NeedsRoom}
use Rattle.bz_task.specs.declared.todo.Seen.{Seen}
use Rattle.bz_task.specs.declared.todo.Todo.{Todo}
use Rattle.bz_rounds.specs.FromAlone.Undisturbed.{IsUndisturbed}
use Rattle.bz_rounds.specs.FromAlone.AnyTask.{AnyTask}
use Rattle.bz_rounds.specs.FromAlone.Duties as any
use Rattle.bz_rounds.specs.FromAlone.Hearing.{HasHeard}
use Rattle.bz_rounds.specs.FromAlone.Kinds as kinds
use Rattle.bz_rounds.specs.FromAlone.MadeFor.{WasLeafOf, IsMergeFor, IsSmallMerge}
use Rattle.bz_rounds.specs.FromAlone.Quiet.{IsQuietSince, IsIn}

-- at each two moments of a quiet time, whichever is the later one: what may be merged at the one may be merged at the other
abbrev pub NeighboursStand : Type 0
NeighboursStand =
    (s : Scene) (m i j : ℕ) (key : List ℕ) → IsScene s → IsQuietSince m s.past → IsIn m s.past i → IsIn m s.past j →
    MayBeMerged s.past.config (s.past.at i).image key → MayBeMerged s.past.config (s.past.at j).image key

-- the upper link leads to a node; and at a moment since the look-up began the leaf to which the lower one leads said what these words say
pub record WasReadBelow (upper lower : Link) (leaf : List ℕ) (p : Past) : Type 0 where
  pub above : upper.slot < p.config.nodes
  pub status : ℕ
  pub at : ℕ
  pub low : Option (List ℕ)
  pub high : Option (List ℕ)
  pub seen : WasSeen (record { slot = lower.slot; status = status; image = leaf }) at low high p

-- where nobody's swap took effect since the look-up began, no neighbour has room now for the key's leaf, where none had when it was read
abbrev pub UndisturbedNeighboursLackRoom : Type 0
UndisturbedNeighboursLackRoom =
    (key : List ℕ) (upper lower : Link) (leaf : List ℕ) (s : Scene) → IsScene s → IsUndisturbed 0 s.past → WasLeafOf key lower.slot s.past → WasReadBelow upper lower leaf s.past →
    NoneFitted upper lower leaf s.past → MayBeMerged s.past.config (here s).image key → ⊥

-- so a merge of the key's leaf that has ended because no neighbour fits leaves one that may not be merged
abbrev pub UndisturbedMergesTryTheirNeighbours : Type 0
UndisturbedMergesTryTheirNeighbours =
    (t : Merge) (key : List ℕ) (s : Scene) → s.past.config ≡ t.config → IsScene s → facts_of t Waiting s → t.phase ≡ NoNeighbour → IsUndisturbed 0 s.past →
    WasLeafOf key t.lower.slot s.past → WasReadBelow t.upper t.lower t.leaf.0 s.past → MayBeMerged s.past.config (here s).image key → ⊥

-- the task is one of which NeedsRoom means that no neighbour fitted the key's leaf, as it was read
pub record KnowsItsLeaf (t : AnyTask) (key : List ℕ) (p : Past) : Type 0 where
  pub upper : Link
  pub lower : Link
  pub leaf : List ℕ
  pub was : WasLeafOf key lower.slot p
  pub read : WasReadBelow upper lower leaf p
  pub means : (z : Scene) → any.means_of t NeedsRoom z → NoneFitted upper lower leaf z.past

-- a merge of the key's leaf is such a task while it goes on
abbrev pub MergesKnowTheirLeaf : Type 0
MergesKnowTheirLeaf =
    (t : AnyTask) (key : List ℕ) (s : Scene) → IsScene s → any.facts_of t Waiting s → kinds.kind_of t ≡ kinds.Merge → any.end_of t ≡ None → IsSmallMerge t key s.past → KnowsItsLeaf t key s.past

-- it is one later too, and once it was told something, where what it means then it meant before
pub record KnownLeavesStay : Type 0 where
  pub later : (t : AnyTask) (key : List ℕ) (p q : Past) → KnowsItsLeaf t key p → Continues p q → KnowsItsLeaf t key q
  pub heard : (old new : AnyTask) (key : List ℕ) (p : Past) → KnowsItsLeaf old key p → ((o : Outcome) (s : Scene) → any.means_of new o s → any.means_of old o s) → KnowsItsLeaf new key p

-- and where such a merge ends with NeedsRoom, the key's leaf may not be merged
abbrev pub UndisturbedTasksTryTheirNeighbours : Type 0
UndisturbedTasksTryTheirNeighbours =
    (t : AnyTask) (key : List ℕ) (s : Scene) → IsScene s → any.facts_of t Waiting s → kinds.kind_of t ≡ kinds.Merge → any.end_of t ≡ Some NeedsRoom → IsUndisturbed 0 s.past →
    KnowsItsLeaf t key s.past → MayBeMerged s.past.config (here s).image key → ⊥

-- and as such a merge has frozen nothing, it does not end so where the key's leaf may be merged, at whichever moment since the look-up began,
-- and no swap took effect since then but those of the task
abbrev pub UndisturbedMergesDoNotLackRoom : Type 0
UndisturbedMergesDoNotLackRoom =
    (old new : AnyTask) (seen : Seen) (moment : ℕ) (free left : FreeSlots) (todo : Todo) (key : List ℕ) (i : ℕ) (s : Scene) → HasHeard old seen moment free todo new left → kinds.kind_of old ≡ kinds.Merge →
    IsScene s → any.facts_of new Waiting s → IsUndisturbed (any.made_of old + effects_in seen) s.past → KnowsItsLeaf old key s.past → IsIn s.past.since s.past i → MayBeMerged s.past.config (s.past.at i).image key →
    any.end_of new ≡ Some NeedsRoom → ⊥

-- at a moment since the look-up began the key's leaf was frozen, and could be merged with a neighbour
pub record WasMergeable (key : List ℕ) (p : Past) : Type 0 where
  pub moment : ℕ
  pub since : p.since ≤ moment
  pub now : moment ≤ p.now
  pub frozen : (leaf_page p.config (image_of (p.at moment).image) key).frozen ≡ true
  pub may : MayBeMerged p.config (p.at moment).image key

-- a merge of the key's leaf, which was frozen when it was viewed, ends for want of slots only where that was so
abbrev pub MergesLackSlotsRightly : Type 0
MergesLackSlotsRightly =
    (t : AnyTask) (key : List ℕ) (s : Scene) → IsScene s → IsMergeFor t key s.past → any.means_of t (Full Nodes) s → WasMergeable key s.past
