-- Where both leaves are frozen and the new nodes are durable, the swap of the merge is one that is good.
use Rattle.std.proofs.Common.{◌≡◌, ◌≢◌, ℕ, ◌+◌, ◌<◌, Bool, true, false, List, arith, sym, ap, subst, ◌∙◌, inl, inr}
use Rattle.std.specs.Prelude.{None}
use Rattle.std.proofs.lemmas.Bool.{cases_lt}
use Rattle.std.proofs.lemmas.List.{get_or_past}
use Rattle.bz_layout.specs.declared.sizes.TheConstants.{NODE_WORDS}
use Rattle.bz_node.specs.Reading.{children_in}
use Rattle.bz_tree.specs.Order.{is_before}
use Rattle.bz_tree.specs.Slots.{Wider}
use Rattle.bz_slotted.specs.Readers.{count_of, child_of, key_of, found_of}
use Rattle.bz_slotted.specs.ReadingLaws.{node_of}
use Rattle.bz_slotted.specs.Rules.{node_fault}
use Rattle.bz_content.specs.Restructures.{children_of}
use Rattle.bz_join.specs.Parents.{HasTwo, joined_parent, IsJoinedParent, ChildrenJoin}
use Rattle.bz_renew.specs.LinkSwaps.{IsFresh}
use Rattle.bz_renew.proofs.Words.{node-at, node-past}
use Rattle.bz_split.specs.RootSplits.{StandsReady}
use Rattle.bz_task.specs.Instant.{words, form_at}
use Rattle.bz_task.specs.Scene.{Past, Scene, IsScene, here}
use Rattle.bz_merge.specs.Decisions.{MayMerge}
use Rattle.bz_merge.specs.Facts.{MERGE_WORDS, MERGE_LINES, IsMerging}
use Rattle.bz_merge.specs.Merges.{low_in, high_in, WasLeafOnce, StoodFrozen, HadNeighbours, AreReadyMerged, IsMerge}
use Rattle.bz_merge.specs.Plans.{Merging, viewed_leaf, beside_leaf, first_of, second_of, IsPair, IsViewed, IsPlanned, sep_of}
use Rattle.bz_merge.specs.Siblings.{SeenLeaf}

-- the two children are those of the pair
first-child : (read : List ℕ) (right : Bool) (place : ℕ) (own other : SeenLeaf) → IsPair read own.slot right place other.slot → child_of (node_of read) place ≡ (first_of right own other).slot
first-child read true place own other h = h.own.there
first-child read false place own other h = h.other

second-child : (read : List ℕ) (right : Bool) (place : ℕ) (own other : SeenLeaf) → IsPair read own.slot right place other.slot → child_of (node_of read) (place + 1) ≡ (second_of right own other).slot
second-child read true place own other h = h.other
second-child read false place own other h = h.own.there

first-frozen : (right : Bool) (own other : SeenLeaf) (p : Past) → StoodFrozen own.slot own.image p → StoodFrozen other.slot other.image p → StoodFrozen (first_of right own other).slot (first_of right own other).image p
first-frozen true own other p f s = f
first-frozen false own other p f s = s

second-frozen : (right : Bool) (own other : SeenLeaf) (p : Past) → StoodFrozen own.slot own.image p → StoodFrozen other.slot other.image p → StoodFrozen (second_of right own other).slot (second_of right own other).image p
second-frozen true own other p f s = s
second-frozen false own other p f s = f

-- the link's slot was a leaf
pub leaf-once : (r : Merging) (p : Past) → IsViewed r.upper r.lower (viewed_leaf r) p → WasLeafOnce r.lower.slot p
leaf-once r p v = record { moment = v.at; since = v.seen.stood.since; now = v.seen.stood.now; slot = v.seen.stood.slot; inside = v.seen.stood.inside; leaf = v.seen.stood.leaf }

-- the parent has the two
has-two : (r : Merging) (s : Scene) (f : IsPlanned r s.past) → HasTwo s.past.config.nodes f.paired.parent.raw r.read f.paired.parent.level f.paired.parent.low f.paired.parent.high r.place
has-two r s f = record { few = f.paired.parent.few; size = f.paired.parent.size; inner = f.paired.parent.inner; none = f.paired.parent.none; within = f.paired.pair.counted }

-- what is planned may be made
pub may-merge : (r : Merging) (s : Scene) → IsPlanned r s.past → MayMerge s.past.config.nodes r
may-merge r s f = record {
  raw = f.paired.parent.raw;
  level = f.paired.parent.level;
  low = f.paired.parent.low;
  high = f.paired.parent.high;
  two = has-two r s f;
  leaves = record {
    nodes = s.past.config.nodes;
    low = f.low;
    high = f.high;
    sep = sep_of r.read r.place;
    above = f.above;
    below = f.below;
    left_whole = f.first.whole;
    right_whole = f.second.whole;
    room = f.room;
  };
}

module _ (law : ChildrenJoin) (r : Merging) (s : Scene) (good : IsScene s) (f : IsMerging r MERGE_WORDS MERGE_LINES s) where
  abbrev plan : IsPlanned r s.past
  plan = f.frozen.planned

  abbrev old : List ℕ
  old = r.read

  abbrev g : ℕ
  g = plan.paired.viewed.guarded

  holds : (n : ℕ) → n < 2 → words s.past.config (here s) (r.slot n) ≡ node_of (r.image n)
  holds n h = λ t i. each i t
    where
      each : (i : ℕ) → words s.past.config (here s) (r.slot n) i ≡ node_of (r.image n) i
      each i = elim (cases_lt i NODE_WORDS) [
        | inl l ↦ node-at s.past.config (here s).value (r.slot n) i l ∙ f.writing.stored_is n i h l (omega (arith, h, l))
        | inr l ↦ node-past s.past.config (here s).value (r.slot n) i l ∙ sym (get_or_past (r.image n) i 0 (omega (arith, l, f.plain.size n h)))
      ]

  pub fresh : (n : ℕ) → n < 2 → IsFresh s (r.slot n)
  fresh n h = record {
    slot = f.writing.slots.within n h;
    own = λ i l. record { mine = f.writing.mine n i h l; flushed = f.writing.flushed n i h l (omega (arith, h, l)) };
  }

  two-apart : r.slot 0 ≢ r.slot 1
  two-apart e = absurd (omega (arith, f.writing.slots.apart 0 1 (omega arith) (omega arith) e))

  -- the new parent
  joined : IsJoinedParent s.past.config.nodes old plan.paired.parent.level plan.paired.parent.low plan.paired.parent.high r.place (r.slot 1)
  joined = law s.past.config.nodes plan.paired.parent.raw old plan.paired.parent.level plan.paired.parent.low plan.paired.parent.high r.place (r.slot 1) (has-two r s plan) (f.writing.slots.within 1 (omega arith))

  holds-parent : words s.past.config (here s) (r.slot 0) ≡ node_of (joined_parent (children_in old) r.place (r.slot 1) plan.paired.parent.low plan.paired.parent.high plan.paired.parent.level)
  holds-parent = holds 0 (omega arith) ∙ ap node_of (f.over s.past.config.nodes plan.paired.parent.raw plan.paired.parent.level plan.paired.parent.low plan.paired.parent.high plan.paired.parent.none)

  parent-whole : StandsReady s (r.slot 0) ((form_at s.past.config (s.past.at g)).level r.upper.slot) ((form_at s.past.config (s.past.at g)).low r.upper.slot) ((form_at s.past.config (s.past.at g)).high r.upper.slot)
  parent-whole = (λ t. node_fault s.past.config.nodes (holds-parent t) (holds-parent t) (plan.paired.parent.level_is t) (plan.paired.parent.low_is t) (plan.paired.parent.high_is t)) ∙ joined.inner.none

  abbrev first : SeenLeaf
  first = first_of r.right (viewed_leaf r) (beside_leaf r)

  abbrev second : SeenLeaf
  second = second_of r.right (viewed_leaf r) (beside_leaf r)

  was-first : child_of (node_of old) r.place ≡ first.slot
  was-first = first-child old r.right r.place (viewed_leaf r) (beside_leaf r) plan.paired.pair

  was-second : child_of (node_of old) (r.place + 1) ≡ second.slot
  was-second = second-child old r.right r.place (viewed_leaf r) (beside_leaf r) plan.paired.pair

  narrower : Wider (children_of (words s.past.config (here s) (r.slot 0))) (children_of (words s.past.config (s.past.at g) r.upper.slot)) r.place first.slot second.slot (key_of (words s.past.config (s.past.at g) r.upper.slot) (r.place + 1))
  narrower =
      subst (λ n. Wider (children_of (words s.past.config (here s) (r.slot 0))) (children_of n) r.place first.slot second.slot (key_of n (r.place + 1))) (sym plan.paired.parent.were)
      (subst (λ n. Wider (children_of n) (children_of (node_of old)) r.place first.slot second.slot (key_of (node_of old) (r.place + 1))) (sym holds-parent)
      (subst (λ z. Wider (children_of (node_of (joined_parent (children_in old) r.place (r.slot 1) plan.paired.parent.low plan.paired.parent.high plan.paired.parent.level))) (children_of (node_of old)) r.place z second.slot (key_of (node_of old) (r.place + 1))) was-first
      (subst (λ z. Wider (children_of (node_of (joined_parent (children_in old) r.place (r.slot 1) plan.paired.parent.low plan.paired.parent.high plan.paired.parent.level))) (children_of (node_of old)) r.place (child_of (node_of old) r.place) z (key_of (node_of old) (r.place + 1))) was-second joined.narrower)))

  child : child_of (words s.past.config (here s) (r.slot 0)) r.place ≡ r.slot 1
  child = ap (λ n. child_of n r.place) holds-parent ∙ joined.child

  -- the merged leaf
  low-is : f.frozen.planned.low ≡ low_in (children_of (words s.past.config (s.past.at g) r.upper.slot)) ((form_at s.past.config (s.past.at g)).low r.upper.slot) r.place
  low-is = plan.low_is ∙ (λ t. low_in (children_of (sym plan.paired.parent.were t)) (sym plan.paired.parent.low_is t) r.place)

  high-is : f.frozen.planned.high ≡ high_in (children_of (words s.past.config (s.past.at g) r.upper.slot)) ((form_at s.past.config (s.past.at g)).high r.upper.slot) (r.place + 1)
  high-is = plan.high_is ∙ (λ t. high_in (children_of (sym plan.paired.parent.were t)) (sym plan.paired.parent.high_is t) (r.place + 1))

  sep-is : key_of (words s.past.config (s.past.at g) r.upper.slot) (r.place + 1) ≡ sep_of old r.place
  sep-is = ap (λ n. key_of n (r.place + 1)) plan.paired.parent.were

  whole-leaf : node_fault s.past.config.nodes (node_of (r.image 1)) (node_of (r.image 1)) 0 plan.low plan.high ≡ None
  whole-leaf = f.one.whole s.past.config.nodes plan.low plan.high (sep_of old r.place) plan.first.whole plan.second.whole

  leaf-whole : StandsReady s (r.slot 1) 0 (low_in (children_of (words s.past.config (s.past.at g) r.upper.slot)) ((form_at s.past.config (s.past.at g)).low r.upper.slot) r.place) (high_in (children_of (words s.past.config (s.past.at g) r.upper.slot)) ((form_at s.past.config (s.past.at g)).high r.upper.slot) (r.place + 1))
  leaf-whole = (λ t. node_fault s.past.config.nodes (holds 1 (omega arith) t) (holds 1 (omega arith) t) 0 (sym low-is t) (sym high-is t)) ∙ whole-leaf

  ready : AreReadyMerged r.upper.slot g r.place first.slot second.slot (r.slot 0) (r.slot 1) first.image second.image s
  ready = record {
    two = two-apart;
    parent_fresh = fresh 0 (omega arith);
    leaf_fresh = fresh 1 (omega arith);
    parent_whole = parent-whole;
    child = child;
    narrower = narrower;
    leaf_whole = leaf-whole;
    before = λ key e. ap (λ n. found_of n key) (holds 1 (omega arith)) ∙ f.one.before s.past.config.nodes plan.low (sep_of old r.place) plan.first.whole key (subst (λ z. is_before key z ≡ true) sep-is e);
    from = λ key e. ap (λ n. found_of n key) (holds 1 (omega arith)) ∙ f.one.from s.past.config.nodes plan.low (sep_of old r.place) plan.first.whole key (subst (λ z. is_before key z ≡ false) sep-is e);
  }

  had : HadNeighbours r.upper.slot g r.place first.slot second.slot s.past
  had = record {
    first = ap (λ n. child_of n r.place) plan.paired.parent.were ∙ was-first;
    second = ap (λ n. child_of n (r.place + 1)) plan.paired.parent.were ∙ was-second;
    counted = subst (λ n. r.place + 1 < count_of n) (sym plan.paired.parent.were) plan.paired.pair.counted;
  }

  pub is-merge : IsMerge r.upper r.lower r.place first.slot second.slot (r.slot 0) (r.slot 1) first.image second.image s
  is-merge = record {
    links = plan.paired.viewed.links;
    leaf = leaf-once r s.past plan.paired.viewed;
    had = subst (λ z. HadNeighbours r.upper.slot z r.place first.slot second.slot s.past) (sym plan.paired.viewed.is_guarded) had;
    first = first-frozen r.right (viewed_leaf r) (beside_leaf r) s.past f.frozen.own f.frozen.other;
    second = second-frozen r.right (viewed_leaf r) (beside_leaf r) s.past f.frozen.own f.frozen.other;
    ready = subst (λ z. AreReadyMerged r.upper.slot z r.place first.slot second.slot (r.slot 0) (r.slot 1) first.image second.image s) (sym plan.paired.viewed.is_guarded) ready;
  }
