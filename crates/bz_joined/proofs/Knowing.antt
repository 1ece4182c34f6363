-- A merge knows the leaf that it was made for, and where it ends for want of a neighbour that tells of this leaf.
use Rattle.std.proofs.Common.{◌≡◌, ℕ, ◌<◌, true, List, Option, arith, sym, subst, ◌∙◌}
use Rattle.std.specs.Prelude.{Some, None}
use Rattle.bz_layout.specs.declared.config.Config.{Config}
use Rattle.bz_layout.specs.declared.sizes.TheConstants.{STATUS_AT}
use Rattle.bz_merge.specs.Duties.{merging_of}
use Rattle.bz_merge.specs.Facts.{NoneFitted, merge_end, merge_facts}
use Rattle.bz_merge.specs.Plans.{IsViewed, Merging as Plan, viewed_leaf}
use Rattle.bz_merge.specs.Siblings.{SeenLeaf, WasSeen}
use Rattle.bz_merge.specs.declared.merge.Merge.{Merge}
use Rattle.bz_merge.specs.declared.phase.MergePhase.{MergePhase}
use Rattle.bz_merge.specs.declared.phase.MergePhase.TheVariants.{Fresh, Word, Again, Beside, Parent, Still, Freeze, FreezeBeside, Guard, Store, Flush, Swap, Done, Restart, NoNeighbour, NoSlot, NoSwap}
use Rattle.bz_slotted.specs.Readers.{found_of}
use Rattle.bz_slotted.specs.ReadingLaws.{node_of}
use Rattle.bz_slotted.specs.Rules.{node_fault}
use Rattle.bz_content.specs.Content.{leaf_in}
use Rattle.bz_task.specs.Good.{IsGood}
use Rattle.bz_task.specs.Instant.{words, form_at, is_inside}
use Rattle.bz_task.specs.Scene.{Past, Scene, Waiting, Continues, IsScene}
use Rattle.bz_task.specs.declared.path.Link.{Link}
use Rattle.bz_task.specs.declared.todo.Outcome.TheVariants.{NeedsRoom}
use Rattle.bz_rounds.specs.FromAlone.AnyTask.{AnyTask}
use Rattle.bz_rounds.specs.FromAlone.AnyTask.TheVariants.{Seeking, Finding, Reading, Inserting, Updating, Deleting, Freezing, Consolidating, Splitting, SplittingBelow, SplittingInner, SplittingInnerRoot, Merging, MergingInner, Lowering}
use Rattle.bz_rounds.specs.FromAlone.Duties.{end_of, facts_of, means_of, view_of}
use Rattle.bz_rounds.specs.FromAlone.Kinds as kinds
use Rattle.bz_rounds.specs.FromAlone.Kinds.{kind_of}
use Rattle.bz_rounds.specs.FromAlone.MadeFor.{WasLeafOf, WasSmallLeafOf, IsSmallMerge}
use Rattle.bz_rounds.specs.FromAlone.Undisturbed.{IsUndisturbed}
use Rattle.bz_rounds.specs.FromAlone.Quiet.{IsIn}
use Rattle.bz_rounds.proofs.FromAlone.Proved.{undisturbed_times_are_quiet}
use Rattle.bz_joined.specs.Neighbours.{WasReadBelow, KnowsItsLeaf, UndisturbedMergesTryTheirNeighbours, UndisturbedTasksTryTheirNeighbours, UndisturbedMergesDoNotLackRoom, MergesKnowTheirLeaf, KnownLeavesStay}
use Rattle.bz_joined.proofs.Lacked.{undisturbed-lack}
use Rattle.bz_joined.proofs.Standing.{neighbours-stand}

-- while it goes on it knows the leaf as it was viewed
viewed : (r : Plan) (phase : MergePhase) (s : Scene) → merge_facts r phase Waiting s → merge_end phase ≡ None → IsViewed r.upper r.lower (viewed_leaf r) s.past
viewed r Fresh s f e = f.viewed
viewed r (Word i) s f e = f.1.1.1.viewed
viewed r Again s f e = f.1.viewed
viewed r (Beside i) s f e = f.1.1.0.viewed
viewed r Parent s f e = f.1.0.viewed
viewed r Still s f e = f.1.paired.viewed
viewed r Freeze s f e = f.1.0.paired.viewed
viewed r FreezeBeside s f e = f.1.0.paired.viewed
viewed r Guard s f e = f.1.planned.paired.viewed
viewed r (Store j) s f e = f.1.1.frozen.planned.paired.viewed
viewed r (Flush j) s f e = f.1.1.frozen.planned.paired.viewed
viewed r Swap s f e = f.1.frozen.planned.paired.viewed
viewed r Done s f e = absurd (cc)
viewed r Restart s f e = absurd (cc)
viewed r NoNeighbour s f e = absurd (cc)
viewed r NoSlot s f e = absurd (cc)
viewed r NoSwap s f e = absurd (cc)

read-below : (r : Plan) (s : Scene) → IsScene s → IsViewed r.upper r.lower (viewed_leaf r) s.past → WasReadBelow r.upper r.lower r.leaf s.past
read-below r s good v =
    let g : IsGood s.past.config (s.past.at v.links.guard.guarded) = good.history.good v.links.guard.guarded v.links.guard.since (omega (arith, v.links.guard.order, v.links.guard.now)) in
    record {
      above = g.slots r.upper.slot (subst (λ k. (s.past.at v.links.guard.guarded).reached k ≡ true) v.links.parent v.links.under.reached);
      status = r.status;
      at = v.at;
      low = v.low;
      high = v.high;
      seen = v.seen;
    }

was-leaf : (key : List ℕ) (slot : ℕ) (p : Past) → WasSmallLeafOf key slot p → WasLeafOf key slot p
was-leaf key slot p w = record { moment = w.view.at; since = w.is.since; now = w.is.now; leaf = w.is.leaf ∙ w.at }

knows-merge : (t : Merge) (key : List ℕ) (s : Scene) → IsScene s → facts_of (Merging t) Waiting s → end_of (Merging t) ≡ None → IsSmallMerge (Merging t) key s.past → KnowsItsLeaf (Merging t) key s.past
unfolding view_of IsSmallMerge
knows-merge t key s good f e m = record {
  upper = t.upper;
  lower = t.lower;
  leaf = t.leaf.0;
  was = was-leaf key t.lower.slot s.past m;
  read = read-below (merging_of t) s good (viewed (merging_of t) t.phase s f e);
  means = λ z h. h;
}

pub merges-know : MergesKnowTheirLeaf
unfolding kind_of
merges-know (Merging t) key s good f is e m = knows-merge t key s good f e m
merges-know (Seeking t) key s good f is e m = absurd (cc)
merges-know (Finding t) key s good f is e m = absurd (cc)
merges-know (Reading t) key s good f is e m = absurd (cc)
merges-know (Inserting t) key s good f is e m = absurd (cc)
merges-know (Updating t) key s good f is e m = absurd (cc)
merges-know (Deleting t) key s good f is e m = absurd (cc)
merges-know (Freezing t) key s good f is e m = absurd (cc)
merges-know (Consolidating t) key s good f is e m = absurd (cc)
merges-know (Splitting t) key s good f is e m = absurd (cc)
merges-know (SplittingBelow t a) key s good f is e m = absurd (cc)
merges-know (SplittingInner t a) key s good f is e m = absurd (cc)
merges-know (SplittingInnerRoot t a) key s good f is e m = absurd (cc)
merges-know (MergingInner t) key s good f is e m = absurd (cc)
merges-know (Lowering t) key s good f is e m = absurd (cc)

-- what is known of moments stays
module _ (p q : Past) (c : Continues p q) where
  seen-stays : (l : SeenLeaf) (m : ℕ) (low high : Option (List ℕ)) → WasSeen l m low high p → WasSeen l m low high q
  seen-stays l m low high w = record {
    stood = record {
      since = omega (arith, c.since, w.stood.since);
      now = omega (arith, c.now, w.stood.now);
      slot = subst (λ (z : Config). l.slot < z.nodes) (sym c.config) w.stood.slot;
      inside = (λ t. is_inside (c.config t) (c.at m w.stood.now t) l.slot) ∙ w.stood.inside;
      leaf = (λ t. (form_at (c.config t) (c.at m w.stood.now t)).level l.slot) ∙ w.stood.leaf;
      low_is = (λ t. (form_at (c.config t) (c.at m w.stood.now t)).low l.slot) ∙ w.stood.low_is;
      high_is = (λ t. (form_at (c.config t) (c.at m w.stood.now t)).high l.slot) ∙ w.stood.high_is;
    };
    status = (λ t. words (c.config t) (c.at m w.stood.now t) l.slot STATUS_AT) ∙ w.status;
    plain = w.plain;
    whole = (λ t. node_fault (c.config t).nodes (node_of l.image) (node_of l.image) 0 low high) ∙ w.whole;
    says = λ key. (λ t. found_of (words (c.config t) (c.at m w.stood.now t) l.slot) key) ∙ w.says key;
    size = w.size;
  }

  read-stays : (upper lower : Link) (leaf : List ℕ) → WasReadBelow upper lower leaf p → WasReadBelow upper lower leaf q
  read-stays upper lower leaf w = record {
    above = subst (λ (z : Config). upper.slot < z.nodes) (sym c.config) w.above;
    status = w.status;
    at = w.at;
    low = w.low;
    high = w.high;
    seen = seen-stays (record { slot = lower.slot; status = w.status; image = leaf }) w.at w.low w.high w.seen;
  }

  leaf-stays : (key : List ℕ) (slot : ℕ) → WasLeafOf key slot p → WasLeafOf key slot q
  leaf-stays key slot w = record {
    moment = w.moment;
    since = omega (arith, c.since, w.since);
    now = omega (arith, c.now, w.now);
    leaf = (λ t. leaf_in (c.config t) (c.at w.moment w.now t).image key) ∙ w.leaf;
  }

  knows-later : (t : AnyTask) (key : List ℕ) → KnowsItsLeaf t key p → KnowsItsLeaf t key q
  knows-later t key k = record { upper = k.upper; lower = k.lower; leaf = k.leaf; was = leaf-stays key k.lower.slot k.was; read = read-stays k.upper k.lower k.leaf k.read; means = k.means }

pub known-stay : KnownLeavesStay
known-stay = record {
  later = λ t key p q k c. knows-later p q c t key k;
  heard = λ old new key p k meant. record { upper = k.upper; lower = k.lower; leaf = k.leaf; was = k.was; read = k.read; means = λ z h. k.means z (meant NeedsRoom z h) };
}

-- a merge that ends so knows that none fitted
none-fits : (r : Plan) (phase : MergePhase) (s : Scene) → phase ≡ NoNeighbour → merge_facts r phase Waiting s → NoneFitted r.upper r.lower r.leaf s.past
none-fits r phase s e f = (subst (λ z. merge_facts r z Waiting s) e f).1

ends-so : (phase : MergePhase) → merge_end phase ≡ Some NeedsRoom → phase ≡ NoNeighbour
ends-so NoNeighbour e = cc
ends-so Done e = absurd (cc)
ends-so Restart e = absurd (cc)
ends-so NoSlot e = absurd (cc)
ends-so NoSwap e = absurd (cc)
ends-so Fresh e = absurd (cc)
ends-so (Word i) e = absurd (cc)
ends-so Again e = absurd (cc)
ends-so (Beside i) e = absurd (cc)
ends-so Parent e = absurd (cc)
ends-so Still e = absurd (cc)
ends-so Freeze e = absurd (cc)
ends-so FreezeBeside e = absurd (cc)
ends-so Guard e = absurd (cc)
ends-so (Store j) e = absurd (cc)
ends-so (Flush j) e = absurd (cc)
ends-so Swap e = absurd (cc)

pub merges-try : UndisturbedMergesTryTheirNeighbours
merges-try t key s config good f e alone was r m = undisturbed-lack key t.upper t.lower t.leaf.0 s good alone was r (none-fits (merging_of t) t.phase s e f) m

-- so does whichever task
means-merge : (t : Merge) (s : Scene) → facts_of (Merging t) Waiting s → end_of (Merging t) ≡ Some NeedsRoom → means_of (Merging t) NeedsRoom s
unfolding view_of
means-merge t s f e = none-fits (merging_of t) t.phase s (ends-so t.phase e) f

means-so : (t : AnyTask) (s : Scene) → facts_of t Waiting s → kind_of t ≡ kinds.Merge → end_of t ≡ Some NeedsRoom → means_of t NeedsRoom s
unfolding kind_of
means-so (Merging t) s f is e = means-merge t s f e
means-so (Seeking t) s f is e = absurd (cc)
means-so (Finding t) s f is e = absurd (cc)
means-so (Reading t) s f is e = absurd (cc)
means-so (Inserting t) s f is e = absurd (cc)
means-so (Updating t) s f is e = absurd (cc)
means-so (Deleting t) s f is e = absurd (cc)
means-so (Freezing t) s f is e = absurd (cc)
means-so (Consolidating t) s f is e = absurd (cc)
means-so (Splitting t) s f is e = absurd (cc)
means-so (SplittingBelow t a) s f is e = absurd (cc)
means-so (SplittingInner t a) s f is e = absurd (cc)
means-so (SplittingInnerRoot t a) s f is e = absurd (cc)
means-so (MergingInner t) s f is e = absurd (cc)
means-so (Lowering t) s f is e = absurd (cc)

pub tasks-try : UndisturbedTasksTryTheirNeighbours
tasks-try t key s good f is e alone k m = undisturbed-lack key k.upper k.lower k.leaf s good alone k.was k.read (k.means s (means-so t s f is e)) m

-- such a merge had frozen nothing
pub do-not-lack : UndisturbedMergesDoNotLackRoom
do-not-lack old new seen moment free left todo key i s h kind good facts alone knows then-it may lacks =
    let first : IsUndisturbed 0 s.past = subst (λ n. IsUndisturbed n s.past) (h.no_neighbour kind lacks) alone in
    let now : IsIn s.past.since s.past s.past.now = record { from = good.begun; to = omega arith } in
    tasks-try new key s good facts (h.kind ∙ kind) lacks first (known-stay.heard old new key s.past knows h.goes.meant) (neighbours-stand s s.past.since i s.past.now key good (undisturbed_times_are_quiet.whole s good first) then-it now may)
