-- What the acts of a merge lead to.
use Rattle.std.proofs.Common.{◌≡◌, ℕ, ◌+◌, ◌<◌, ◌≤◌, if◌then◌else◌, Bool, true, false, List, [], ◌∷◌, arith, refl, sym, ap, subst, ◌∙◌, inr, Some}
use Rattle.std.specs.Prelude.{slice_index}
use Rattle.bz_layout.specs.Addresses.{node_address, SlotsApart}
use Rattle.bz_layout.specs.declared.config.Config.{Config}
use Rattle.bz_layout.specs.declared.sizes.TheConstants.{STATUS_AT}
use Rattle.bz_layout.specs.declared.thresholds.TheConstants.{SPLIT_ABOVE}
use Rattle.bz_node.specs.Reading.{children_in}
use Rattle.bz_slotted.specs.Readers.{live_of}
use Rattle.bz_slotted.specs.ReadingLaws.{node_of}
use Rattle.bz_word.specs.Statuses.{status}
use Rattle.bz_word.specs.declared.entry.Entry.{Entry}
use Rattle.bz_freeze.specs.Facts.{entry_of}
use Rattle.bz_freeze.specs.Laws.{FreezesAreGood}
use Rattle.bz_join.specs.Leaves.{IsOneOf}
use Rattle.bz_join.specs.Parents.{joined_parent, ChildrenJoin}
use Rattle.bz_task.specs.Instant.{Instant}
use Rattle.bz_task.specs.OwnActs.{Stores, Flushes}
use Rattle.bz_task.specs.Scene.{Scene, Waiting, Took, IsScene, HasFilled, here}
use Rattle.bz_task.specs.Swaps.{Stand, SwapsTo, IsGoodSwap, Takes}
use Rattle.bz_task.specs.declared.todo.Todo.TheVariants.{Store as Stores_at, Flush as Flushes_line, Swap as Swaps_for}
use Rattle.bz_renew.specs.Freezings.{freezing_entry}
use Rattle.bz_renew.specs.Nodes.{word_address, word_value, line_number}
use Rattle.bz_renew.specs.Renewals.{renewal, link_entry, guard_entry, IsTurnable, LinksMayBeTurned}
use Rattle.bz_renew.proofs.FreshSlots.{unreached}
use Rattle.bz_renew.proofs.Guards.{as-read-stays}
use Rattle.bz_renew.proofs.Inserting.{inserted-other}
use Rattle.bz_renew.proofs.NodeWrites.{nodes-store, nodes-flush, begun-store}
use Rattle.bz_renew.proofs.TwoEntries.{sets-first}
use Rattle.bz_split.specs.BelowSplits.{parent_freezing, below_swap}
use Rattle.bz_split.specs.Facts.{StoodFresh}
use Rattle.bz_merge.specs.Facts.{MERGE_WORDS, MERGE_LINES, IsMerging, WasMerged, merge_asks, merge_facts, merge_change}
use Rattle.bz_merge.specs.Merges.{MergesAreGood, StoodFrozen}
use Rattle.bz_merge.specs.OwnFreezes.{FrozeAfter, FrozeViewed}
use Rattle.bz_merge.specs.Plans.{Merging, merge_nodes, viewed_leaf, beside_leaf, first_of, second_of, IsPlanned}
use Rattle.bz_merge.specs.Siblings.{SeenLeaf, WasParentNode}
use Rattle.bz_merge.specs.declared.phase.MergePhase.{MergePhase}
use Rattle.bz_merge.specs.declared.phase.MergePhase.TheVariants.{Fresh, Word, Again, Beside, Parent, Still, Freeze, FreezeBeside, Guard, Store, Flush, Swap, Done, Restart, NoNeighbour, NoSlot, NoSwap}
use Rattle.bz_merge.proofs.Asking.{own-once, other-once}
use Rattle.bz_merge.proofs.Freezing.{Laws as Freezes, SeenOnce, was-leaf, now-frozen}
use Rattle.bz_merge.proofs.Lasting.{parent-stays, joined-stays, planned-stays, frozen-stays, tried-stays, seen-stays}
use Rattle.bz_merge.proofs.OwnFreezes.{froze-now}
use Rattle.bz_merge.proofs.Readying.{fresh, is-merge}
use Rattle.bz_merge.proofs.Staying.{both-stay, own-later, other-later}

same-entries : (a b : List Entry) → Some (Swaps_for a) ≡ Some (Swaps_for b) → a ≡ b
same-entries a b e = cc

-- the effect of a freeze
freeze-effect : FreezesAreGood → (c : Config) (l : SeenLeaf) (s : Scene) (y : Instant) (entries : List Entry) → s.past.config ≡ c → IsScene s → SeenOnce l s.past → (status l.status).frozen ≡ false → Some (Swaps_for (entry_of c l.slot l.status ∷ [])) ≡ Some (Swaps_for entries) → Stand entries (here s)
    → SwapsTo s.past.config entries (here s) y → IsGoodSwap false merge_change entries s y
freeze-effect law c l s y entries same good o thawed e stand swaps =
    let is : entry_of s.past.config l.slot l.status ∷ [] ≡ entries = ap (λ (z : Config). entry_of z l.slot l.status ∷ []) same ∙ same-entries (entry_of c l.slot l.status ∷ []) entries e in
    subst (λ z. IsGoodSwap false merge_change z s y) is (law s y l.slot l.status good (was-leaf l s.past o thawed) (subst (λ z. Stand z (here s)) (sym is) stand) (subst (λ z. SwapsTo s.past.config z (here s) y) (sym is) swaps))

pub effect : MergesAreGood → FreezesAreGood → ChildrenJoin → (c : Config) (r : Merging) (phase : MergePhase) (s : Scene) (y : Instant) (entries : List Entry) → s.past.config ≡ c → merge_facts r phase Waiting s → IsScene s → merge_asks c r phase ≡ Some (Swaps_for entries) → Stand entries (here s)
    → SwapsTo s.past.config entries (here s) y → IsGoodSwap false merge_change entries s y
effect law freezes joins c r Freeze s y entries same f good e stand swaps = freeze-effect freezes c (viewed_leaf r) s y entries same good (own-once r s.past f.1.0) f.1.1 e stand swaps
effect law freezes joins c r FreezeBeside s y entries same f good e stand swaps = freeze-effect freezes c (beside_leaf r) s y entries same good (other-once r s.past f.1.0) f.1.1.1.0 e stand swaps
effect law freezes joins c r Swap s y entries same f good e stand swaps =
    let is : below_swap s.past.config r.upper r.lower (r.slot 0) ≡ entries = ap (λ (z : Config). below_swap z r.upper r.lower (r.slot 0)) same ∙ same-entries (below_swap c r.upper r.lower (r.slot 0)) entries e in
    subst (λ z. IsGoodSwap false merge_change z s y) is
    (law merge_change s y r.upper r.lower r.place (first_of r.right (viewed_leaf r) (beside_leaf r)).slot (second_of r.right (viewed_leaf r) (beside_leaf r)).slot (r.slot 0) (r.slot 1) (first_of r.right (viewed_leaf r) (beside_leaf r)).image (second_of r.right (viewed_leaf r) (beside_leaf r)).image good
    (is-merge joins r s good f.1) (subst (λ z. Stand z (here s)) (sym is) stand) (subst (λ z. SwapsTo s.past.config z (here s) y) (sym is) swaps))
effect law freezes joins c r Fresh s y entries same f good e stand swaps = absurd (cc)
effect law freezes joins c r (Word i) s y entries same f good e stand swaps = absurd (cc)
effect law freezes joins c r Again s y entries same f good e stand swaps = absurd (cc)
effect law freezes joins c r (Beside i) s y entries same f good e stand swaps = absurd (cc)
effect law freezes joins c r Parent s y entries same f good e stand swaps = absurd (cc)
effect law freezes joins c r Still s y entries same f good e stand swaps = absurd (cc)
effect law freezes joins c r Guard s y entries same f good e stand swaps = absurd (cc)
effect law freezes joins c r (Store j) s y entries same f good e stand swaps = absurd (cc)
effect law freezes joins c r (Flush j) s y entries same f good e stand swaps = absurd (cc)
effect law freezes joins c r Done s y entries same f good e stand swaps = absurd (cc)
effect law freezes joins c r Restart s y entries same f good e stand swaps = absurd (cc)
effect law freezes joins c r NoNeighbour s y entries same f good e stand swaps = absurd (cc)
effect law freezes joins c r NoSlot s y entries same f good e stand swaps = absurd (cc)
effect law freezes joins c r NoSwap s y entries same f good e stand swaps = absurd (cc)

same-store : (a b v w : ℕ) → Some (Stores_at a v) ≡ Some (Stores_at b w) → (a ≡ b) × (v ≡ w)
same-store a b v w e = (cc, cc)

same-flush : (a b : ℕ) → Some (Flushes_line a) ≡ Some (Flushes_line b) → a ≡ b
same-flush a b e = cc

-- what is known once a store, or a flush, is made
pub stored : SlotsApart → (c : Config) (r : Merging) (phase : MergePhase) (s after : Scene) (a v : ℕ) → s.past.config ≡ c → merge_facts r phase Waiting s → merge_asks c r phase ≡ Some (Stores_at a v) → Stores a v s after → merge_facts r phase Took after
stored apart c r (Store j) s after a v same f e t =
    let is = same-store (word_address c (merge_nodes r) j) a (word_value (merge_nodes r) j) v e in
    let at : a ≡ word_address s.past.config (merge_nodes r) j = sym is.0 ∙ ap (λ z. word_address z (merge_nodes r) j) (sym same) in
    let made : Stores (word_address s.past.config (merge_nodes r) j) (word_value (merge_nodes r) j) s after =
    subst (λ z. Stores z (word_value (merge_nodes r) j) s after) at (subst (λ z. Stores a z s after) (sym is.1) t) in (
      begun-store (merge_nodes r) j (word_value (merge_nodes r) j) s after f.0 made,
      (
        f.1.0,
        record {
          frozen = both-stay s.past after.past t.continues r f.1.1.frozen;
          since = f.1.1.since;
          own_first = own-later s.past after.past t.continues r f.1.1.frozen f.1.1.since f.1.1.own_first;
          other_first = other-later s.past after.past t.continues r f.1.1.frozen f.1.1.since f.1.1.other_first;
          looked = as-read-stays s.past after.past t.continues r.upper f.1.1.since f.1.1.looked;
          link_apart = λ q. f.1.1.link_apart (q ∙ ap (λ (z : Config). node_address z r.upper.slot + STATUS_AT) t.continues.config);
          guard_apart = λ q. f.1.1.guard_apart (q ∙ ap (λ (z : Config). node_address z r.upper.slot + STATUS_AT) t.continues.config);
          over = f.1.1.over;
          one = f.1.1.one;
          plain = f.1.1.plain;
          writing = nodes-store apart (merge_nodes r) j s after (omega (arith, f.1.0)) f.1.1.writing made;
        },
      ),
    )
stored apart c r Fresh s after a v same f e t = absurd (cc)
stored apart c r (Word i) s after a v same f e t = absurd (cc)
stored apart c r Again s after a v same f e t = absurd (cc)
stored apart c r (Beside i) s after a v same f e t = absurd (cc)
stored apart c r Parent s after a v same f e t = absurd (cc)
stored apart c r Still s after a v same f e t = absurd (cc)
stored apart c r Freeze s after a v same f e t = absurd (cc)
stored apart c r FreezeBeside s after a v same f e t = absurd (cc)
stored apart c r Guard s after a v same f e t = absurd (cc)
stored apart c r (Flush j) s after a v same f e t = absurd (cc)
stored apart c r Swap s after a v same f e t = absurd (cc)
stored apart c r Done s after a v same f e t = absurd (cc)
stored apart c r Restart s after a v same f e t = absurd (cc)
stored apart c r NoNeighbour s after a v same f e t = absurd (cc)
stored apart c r NoSlot s after a v same f e t = absurd (cc)
stored apart c r NoSwap s after a v same f e t = absurd (cc)

pub flushed : (c : Config) (r : Merging) (phase : MergePhase) (s after : Scene) (line : ℕ) → s.past.config ≡ c → merge_facts r phase Waiting s → merge_asks c r phase ≡ Some (Flushes_line line) → Flushes line s after → merge_facts r phase Took after
flushed c r (Flush j) s after line same f e t =
    let is : line ≡ line_number s.past.config (merge_nodes r) j = sym (same-flush (line_number c (merge_nodes r) j) line e) ∙ ap (λ z. line_number z (merge_nodes r) j) (sym same) in
    let made : Flushes (line_number s.past.config (merge_nodes r) j) s after = subst (λ z. Flushes z s after) is t in (
      λ k h. t.filled k ∙ f.0 k (sym (t.took k) ∙ h),
      (
        f.1.0,
        record {
          frozen = both-stay s.past after.past t.continues r f.1.1.frozen;
          since = f.1.1.since;
          own_first = own-later s.past after.past t.continues r f.1.1.frozen f.1.1.since f.1.1.own_first;
          other_first = other-later s.past after.past t.continues r f.1.1.frozen f.1.1.since f.1.1.other_first;
          looked = as-read-stays s.past after.past t.continues r.upper f.1.1.since f.1.1.looked;
          link_apart = λ q. f.1.1.link_apart (q ∙ ap (λ (z : Config). node_address z r.upper.slot + STATUS_AT) t.continues.config);
          guard_apart = λ q. f.1.1.guard_apart (q ∙ ap (λ (z : Config). node_address z r.upper.slot + STATUS_AT) t.continues.config);
          over = f.1.1.over;
          one = f.1.1.one;
          plain = f.1.1.plain;
          writing = nodes-flush (merge_nodes r) j MERGE_WORDS s after f.1.1.writing made;
        },
      ),
    )
flushed c r Fresh s after line same f e t = absurd (cc)
flushed c r (Word i) s after line same f e t = absurd (cc)
flushed c r Again s after line same f e t = absurd (cc)
flushed c r (Beside i) s after line same f e t = absurd (cc)
flushed c r Parent s after line same f e t = absurd (cc)
flushed c r Still s after line same f e t = absurd (cc)
flushed c r Freeze s after line same f e t = absurd (cc)
flushed c r FreezeBeside s after line same f e t = absurd (cc)
flushed c r Guard s after line same f e t = absurd (cc)
flushed c r (Store j) s after line same f e t = absurd (cc)
flushed c r Swap s after line same f e t = absurd (cc)
flushed c r Done s after line same f e t = absurd (cc)
flushed c r Restart s after line same f e t = absurd (cc)
flushed c r NoNeighbour s after line same f e t = absurd (cc)
flushed c r NoSlot s after line same f e t = absurd (cc)
flushed c r NoSwap s after line same f e t = absurd (cc)

filled-after : (s after : Scene) → HasFilled s → {entries : List Entry} → Takes false entries s after → HasFilled after
filled-after s after f takes k t = takes.filled k ∙ f k (sym (takes.took k) ∙ t)

-- what is so of the two in either order
room-of : (right : Bool) (own other : SeenLeaf) → live_of (node_of (first_of right own other).image) + live_of (node_of (second_of right own other).image) ≤ SPLIT_ABOVE → live_of (node_of own.image) + live_of (node_of other.image) ≤ SPLIT_ABOVE
room-of true own other l = l
room-of false own other l = omega (arith, l)

one-of : (right : Bool) (own other : SeenLeaf) (merged : List ℕ) → IsOneOf (first_of right own other).image (second_of right own other).image merged → IsOneOf (if right then own.image else other.image) (if right then other.image else own.image) merged
one-of true own other merged h = h
one-of false own other merged h = h

-- once the swap took effect, the upper link leads to the new parent; to neither of the two a link had led before
module _ (may : LinksMayBeTurned) (joins : ChildrenJoin) (r : Merging) (s after : Scene) (good : IsScene s) (f : IsMerging r MERGE_WORDS MERGE_LINES s) (takes : Takes false (below_swap s.past.config r.upper r.lower (r.slot 0)) s after) where
  before-it : after.past.at s.past.now ≡ here s
  before-it = takes.continues.at s.past.now (omega arith)

  abbrev plan : IsPlanned r s.past
  plan = f.frozen.planned

  stood : (n : ℕ) → n < 2 → StoodFresh (r.slot n) (r.image n) s.past.now after.past
  stood n h = record {
    unreached = ap (λ (x : Instant). x.reached (r.slot n)) before-it ∙ unreached s (r.slot n) good (fresh joins r s good f n h);
    copied = λ i l. subst (λ (m : ℕ). (after.past.at m).value (node_address after.past.config (r.slot n) + i) ≡ slice_index (r.image n) i) takes.continues.now
        (subst (λ (k : Config). (here after).value (node_address k (r.slot n) + i) ≡ slice_index (r.image n) i) (sym takes.continues.config)
        (takes.keeps (node_address s.past.config (r.slot n) + i) (f.writing.mine n i h l) ∙ f.writing.stored_is n i h l (omega (arith, h, l))));
  }

  led-after : (here after).value r.upper.link ≡ r.slot 0 + 1
  led-after =
      let t : IsTurnable r.upper s = may s r.upper good plan.paired.viewed.links.upper_guard plan.paired.viewed.links.upper_thawed in
      takes.swaps.value r.upper.link
      ∙ (inserted-other (freezing_entry s.past.config (parent_freezing r.upper r.lower)) (renewal r.upper (r.slot 0)) (here s).value r.upper.link (λ e. f.link_apart (sym e))
      ∙ sets-first (link_entry r.upper (r.slot 0)) (guard_entry r.upper) (here s).value r.upper.link refl (λ e. t.apart (sym e)))

  abbrev g : ℕ
  g = plan.paired.viewed.guarded

  g-since : s.past.since ≤ g
  g-since = omega (arith, plan.paired.viewed.links.guard.since, plan.paired.viewed.is_guarded)

  g-now : g ≤ s.past.now
  g-now = omega (arith, plan.paired.viewed.links.guard.order, plan.paired.viewed.links.guard.now, plan.paired.viewed.is_guarded)

  abbrev old : WasParentNode r.upper.slot g r.read after.past
  old = parent-stays s.past after.past takes.continues r.upper.slot g r.read g-now plan.paired.parent

  made-of : r.image 0 ≡ joined_parent (children_in r.read) r.place (r.slot 1) old.low old.high old.level
  made-of = f.over s.past.config.nodes plan.paired.parent.raw plan.paired.parent.level plan.paired.parent.low plan.paired.parent.high plan.paired.parent.none
      ∙ joined-stays s.past after.past takes.continues r.upper.slot g r.read g-now plan.paired.parent r.place (r.slot 1)

  other : SeenOnce (beside_leaf r) s.past
  other = other-once r s.past plan

  was-merged : WasMerged r.upper r.lower r.leaf after.past
  was-merged = record {
    parent_slot = r.slot 0;
    leaf_slot = r.slot 1;
    read = r.read;
    right = r.right;
    place = r.place;
    other = beside_leaf r;
    other_at = other.at;
    low = other.low;
    high = other.high;
    merged = r.image 1;
    moment = g;
    before = s.past.now;
    since = omega (arith, g-since, takes.continues.since);
    order = g-now;
    now = omega (arith, takes.continues.now);
    old = old;
    pair = plan.paired.pair;
    tried = tried-stays s.past after.past takes.continues r.read r.leaf r.right r.place plan.paired.tried;
    seen = seen-stays s.past after.past takes.continues (beside_leaf r) other.at other.low other.high other.seen;
    room = room-of r.right (viewed_leaf r) (beside_leaf r) plan.room;
    one = one-of r.right (viewed_leaf r) (beside_leaf r) (r.image 1) f.one;
    led = subst (λ (m : ℕ). (after.past.at m).value r.upper.link ≡ r.slot 0 + 1) takes.continues.now led-after;
    parent = subst (λ z. StoodFresh (r.slot 0) z s.past.now after.past) made-of (stood 0 (omega arith));
    leaf_fresh = stood 1 (omega arith);
  }

-- a freeze took effect
freeze-took : Freezes → (c : Config) (l : SeenLeaf) (s after : Scene) (entries : List Entry) → s.past.config ≡ c → IsScene s → IsScene after → SeenOnce l s.past → (status l.status).frozen ≡ false → Some (Swaps_for (entry_of c l.slot l.status ∷ [])) ≡ Some (Swaps_for entries)
    → Stand entries (here s) → Takes false entries s after → StoodFrozen l.slot l.image after.past
freeze-took laws c l s after entries same good later o thawed e stand takes =
    let is : entry_of s.past.config l.slot l.status ∷ [] ≡ entries = ap (λ (z : Config). entry_of z l.slot l.status ∷ []) same ∙ same-entries (entry_of c l.slot l.status ∷ []) entries e in
    now-frozen laws s after l good later o thawed (subst (λ z. Stand z (here s)) (sym is) stand) (subst (λ (z : List Entry). Takes false z s after) (sym is) takes)

-- and left all but the status of its leaf
freeze-froze : (r : Merging) (c : Config) (l : SeenLeaf) (s after : Scene) (entries : List Entry) → s.past.config ≡ c → IsScene s → IsPlanned r s.past → (status l.status).frozen ≡ false → Some (Swaps_for (entry_of c l.slot l.status ∷ [])) ≡ Some (Swaps_for entries) → Takes false entries s after → FrozeAfter r l s after.past
freeze-froze r c l s after entries same good plan thawed e takes =
    let is : entry_of s.past.config l.slot l.status ∷ [] ≡ entries = ap (λ (z : Config). entry_of z l.slot l.status ∷ []) same ∙ same-entries (entry_of c l.slot l.status ∷ []) entries e in
    froze-now r l s after good plan thawed (subst (λ (z : List Entry). Takes false z s after) (sym is) takes)

pub took : LinksMayBeTurned → Freezes → ChildrenJoin → (c : Config) (r : Merging) (phase : MergePhase) (s after : Scene) (entries : List Entry) → s.past.config ≡ c → merge_facts r phase Waiting s → IsScene s → IsScene after → merge_asks c r phase ≡ Some (Swaps_for entries) → Stand entries (here s) → Takes false entries s after
    → merge_facts r phase Took after
took may freezes joins c r Freeze s after entries same f good later e stand takes =
    let own : StoodFrozen r.lower.slot r.leaf after.past = freeze-took freezes c (viewed_leaf r) s after entries same good later (own-once r s.past f.1.0) f.1.1 e stand takes in
    let froze : FrozeViewed r after.past = record { before = s; froze = freeze-froze r c (viewed_leaf r) s after entries same good f.1.0 f.1.1 e takes } in
    (filled-after s after f.0 takes, (planned-stays s.past after.past takes.continues r f.1.0, (own, froze)))
took may freezes joins c r FreezeBeside s after entries same f good later e stand takes = (
  filled-after s after f.0 takes,
  (
    record {
      planned = planned-stays s.past after.past takes.continues r f.1.0;
      own = frozen-stays s.past after.past takes.continues r.lower.slot r.leaf f.1.1.0;
      other = freeze-took freezes c (beside_leaf r) s after entries same good later (other-once r s.past f.1.0) f.1.1.1.0 e stand takes;
      froze = inr (record { before = s; froze = freeze-froze r c (beside_leaf r) s after entries same good f.1.0 f.1.1.1.0 e takes; viewed = f.1.1.1.1 });
    },
    f.1.1.1.0,
  ),
)
took may freezes joins c r Swap s after entries same f good later e stand takes =
    let is : below_swap s.past.config r.upper r.lower (r.slot 0) ≡ entries = ap (λ (z : Config). below_swap z r.upper r.lower (r.slot 0)) same ∙ same-entries (below_swap c r.upper r.lower (r.slot 0)) entries e in
    (filled-after s after f.0 takes, was-merged may joins r s after good f.1 (subst (λ (z : List Entry). Takes false z s after) (sym is) takes))
took may freezes joins c r Fresh s after entries same f good later e stand takes = absurd (cc)
took may freezes joins c r (Word i) s after entries same f good later e stand takes = absurd (cc)
took may freezes joins c r Again s after entries same f good later e stand takes = absurd (cc)
took may freezes joins c r (Beside i) s after entries same f good later e stand takes = absurd (cc)
took may freezes joins c r Parent s after entries same f good later e stand takes = absurd (cc)
took may freezes joins c r Still s after entries same f good later e stand takes = absurd (cc)
took may freezes joins c r Guard s after entries same f good later e stand takes = absurd (cc)
took may freezes joins c r (Store j) s after entries same f good later e stand takes = absurd (cc)
took may freezes joins c r (Flush j) s after entries same f good later e stand takes = absurd (cc)
took may freezes joins c r Done s after entries same f good later e stand takes = absurd (cc)
took may freezes joins c r Restart s after entries same f good later e stand takes = absurd (cc)
took may freezes joins c r NoNeighbour s after entries same f good later e stand takes = absurd (cc)
took may freezes joins c r NoSlot s after entries same f good later e stand takes = absurd (cc)
took may freezes joins c r NoSwap s after entries same f good later e stand takes = absurd (cc)
