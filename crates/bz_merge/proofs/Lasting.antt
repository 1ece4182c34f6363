-- What was read of a parent and of leaves stays known.
use Rattle.std.proofs.Common.{◌≡◌, ℕ, ◌+◌, ◌<◌, ◌≤◌, Bool, List, slice_index, arith, refl, sym, ap, subst, ◌∙◌, inl, inr, Option}
use Rattle.bz_layout.specs.Addresses.{node_address}
use Rattle.bz_layout.specs.declared.config.Config.{Config}
use Rattle.bz_layout.specs.declared.limits.TheConstants.{MAX_NODES}
use Rattle.bz_layout.specs.declared.sizes.TheConstants.{NODE_WORDS, STATUS_AT}
use Rattle.bz_layout.specs.declared.thresholds.TheConstants.{MERGE_BELOW}
use Rattle.bz_slotted.specs.Page.{Page}
use Rattle.bz_slotted.specs.Readers.{child_of, found_of, live_of}
use Rattle.bz_slotted.specs.ReadingLaws.{node_of}
use Rattle.bz_slotted.specs.Records.{pointer_at}
use Rattle.bz_slotted.specs.Rules.{node_fault}
use Rattle.bz_task.specs.Instant.{Instant, words, durable, page_at, form_at, is_inside}
use Rattle.bz_task.specs.Outcomes.{IsUnderNode, IsGuarded}
use Rattle.bz_task.specs.Requests.{IsPointerPlace}
use Rattle.bz_task.specs.Scene.{Past, Continues}
use Rattle.bz_task.specs.declared.path.Link.{Link}
use Rattle.bz_split.specs.BelowSplits.{AreLinksDown}
use Rattle.bz_node.specs.Reading.{children_in}
use Rattle.bz_join.specs.Parents.{joined_parent}
use Rattle.bz_merge.specs.Merges.{StoodFrozen}
use Rattle.bz_merge.specs.Plans.{Merging, viewed_leaf, beside_leaf, own_place, other_place, IsViewed, IsReadingParent, LackedAt, IsTried, IsPaired, IsReadingBeside, IsChecked, IsPlanned}
use Rattle.bz_merge.specs.Facts.{SomeFitted}
use Rattle.bz_merge.specs.Siblings.{WasWord, WasReadOrFree, WereRead, WasParentNode, StoodBetween, HungFrom, SeenLeaf, WasSeen, HungBeside}

-- a child pointer stays one, of the same child
child-stays : (o n : Page) (place : ℕ) → o ≡ n → IsPointerPlace o place → IsPointerPlace n place
child-stays o n place same h = record {
  inner = subst (λ (z : Page). 0 < z.level) same h.inner;
  child = h.child;
  counted = subst (λ (z : Page). h.child < z.count) same h.counted;
  place = h.place ∙ ap (λ (z : Page). pointer_at z h.child) same;
}

module _ (p q : Past) (c : Continues p q) where
  under-stays : (link : Link) (m : ℕ) → m ≤ p.now → IsUnderNode p link m → IsUnderNode q link m
  under-stays link m l u = record {
    parent = u.parent;
    place = u.place;
    reached = ap (λ (x : Instant). x.reached u.parent) (c.at m l) ∙ u.reached;
    within = u.within;
    child = child-stays (page_at p.config (p.at m) u.parent) (page_at q.config (q.at m) u.parent) u.place (λ t. page_at (sym c.config t) (sym (c.at m l) t) u.parent) u.child;
    pointer = u.pointer ∙ ap (λ (z : Config). node_address z u.parent + u.place) (sym c.config);
    guard = u.guard ∙ ap (λ (z : Config). node_address z u.parent + STATUS_AT) (sym c.config);
  }

  -- the guard was read at the same moment
  guard-stays : (link : Link) → IsGuarded p link → IsGuarded q link
  guard-stays link g = record {
    guarded = g.guarded;
    read = g.read;
    since = omega (arith, g.since, c.since);
    order = g.order;
    now = omega (arith, g.now, c.now);
    under = elim g.under [ inl u ↦ inl u | inr u ↦ inr (under-stays link g.guarded (omega (arith, g.order, g.now)) u) ];
    status = ap (λ (x : Instant). x.value link.guard) (c.at g.guarded (omega (arith, g.order, g.now))) ∙ g.status;
    slot = ap (λ (x : Instant). x.value link.link) (c.at g.read g.now) ∙ g.slot;
  }

  links-stay : (upper lower : Link) → AreLinksDown upper lower p → AreLinksDown upper lower q
  unfolding guard-stays under-stays child-stays
  links-stay upper lower v = record {
    upper_guard = guard-stays upper v.upper_guard;
    upper_thawed = v.upper_thawed;
    guard = guard-stays lower v.guard;
    thawed = v.thawed;
    under = under-stays lower v.guard.guarded (omega (arith, v.guard.order, v.guard.now)) v.under;
    parent = v.parent;
  }

  pub stood-between-stays : (k m : ℕ) (low high : Option (List ℕ)) → StoodBetween k m low high p → StoodBetween k m low high q
  stood-between-stays k m low high w = record {
    since = omega (arith, w.since, c.since);
    now = omega (arith, w.now, c.now);
    slot = subst (λ (z : Config). k < z.nodes) (sym c.config) w.slot;
    inside = (λ t. is_inside (c.config t) (c.at m w.now t) k) ∙ w.inside;
    leaf = (λ t. (form_at (c.config t) (c.at m w.now t)).level k) ∙ w.leaf;
    low_is = (λ t. (form_at (c.config t) (c.at m w.now t)).low k) ∙ w.low_is;
    high_is = (λ t. (form_at (c.config t) (c.at m w.now t)).high k) ∙ w.high_is;
  }

  pub seen-stays : (l : SeenLeaf) (m : ℕ) (low high : Option (List ℕ)) → WasSeen l m low high p → WasSeen l m low high q
  seen-stays l m low high w = record {
    stood = stood-between-stays l.slot m low high w.stood;
    status = (λ t. words (c.config t) (c.at m w.stood.now t) l.slot STATUS_AT) ∙ w.status;
    plain = w.plain;
    whole = (λ t. node_fault (c.config t).nodes (node_of l.image) (node_of l.image) 0 low high) ∙ w.whole;
    says = λ key. (λ t. found_of (words (c.config t) (c.at m w.stood.now t) l.slot) key) ∙ w.says key;
    size = w.size;
  }

  hung-stays : (k u i m : ℕ) → m ≤ p.now → HungFrom k u i m p → HungFrom k u i m q
  hung-stays k u i m l w = record { up = (λ t. (form_at (c.config t) (c.at m l t)).up k) ∙ w.up; index = (λ t. (form_at (c.config t) (c.at m l t)).index k) ∙ w.index }

  pub beside-hung-stays : (own i : ℕ) (other : SeenLeaf) (j : ℕ) → HungBeside own i other j p → HungBeside own i other j q
  beside-hung-stays own i other j w = record {
    moment = w.moment;
    parent = w.parent;
    low = w.low;
    high = w.high;
    stood = stood-between-stays own w.moment w.low w.high w.stood;
    hung = hung-stays own w.parent i w.moment w.stood.now w.hung;
    other_low = w.other_low;
    other_high = w.other_high;
    other_seen = seen-stays other w.moment w.other_low w.other_high w.other_seen;
    other_hung = hung-stays other.slot w.parent j w.moment w.stood.now w.other_hung;
  }

  pub some-stays : (lower : Link) (st : ℕ) (leaf : List ℕ) → SomeFitted lower st leaf p → SomeFitted lower st leaf q
  unfolding beside-hung-stays
  some-stays lower st leaf w = record {
    at = w.at;
    low = w.low;
    high = w.high;
    viewed = seen-stays _ w.at w.low w.high w.viewed;
    few = subst (λ n. n < MERGE_BELOW) (sym (λ t. live_of (durable (c.config t) (c.at w.at w.viewed.stood.now t) lower.slot))) w.few;
    other = w.other;
    own_place = w.own_place;
    place = w.place;
    next = w.next;
    beside = beside-hung-stays lower.slot w.own_place w.other w.place w.beside;
    later = w.later;
    room = w.room;
  }

  pub viewed-stays : (upper lower : Link) (own : SeenLeaf) → IsViewed upper lower own p → IsViewed upper lower own q
  unfolding links-stay guard-stays under-stays child-stays
  viewed-stays upper lower own v = record {
    links = links-stay upper lower v.links;
    guarded = v.guarded;
    is_guarded = v.is_guarded;
    slot = v.slot;
    at = v.at;
    low = v.low;
    high = v.high;
    seen = seen-stays own v.at v.low v.high v.seen;
    few = subst (λ n. n < MERGE_BELOW) (sym (λ t. live_of (durable (c.config t) (c.at v.at v.seen.stood.now t) own.slot))) v.few;
  }

  word-stays : (k i v m : ℕ) → WasWord k i v m p → WasWord k i v m q
  word-stays k i v m w = record { moment = w.moment; order = w.order; now = omega (arith, w.now, c.now); word = (λ t. words (c.config t) (c.at w.moment w.now t) k i) ∙ w.word }

  free-stays : (k i m : ℕ) (read : List ℕ) → WasReadOrFree k i m read p → WasReadOrFree k i m read q
  free-stays k i m read (inl w) = inl (word-stays k i (slice_index read i) m w)
  free-stays k i m read (inr f) = inr f

  read-stays : (k m status place : ℕ) (read : List ℕ) → WereRead k m status place read p → WereRead k m status place read q
  read-stays k m status place read v = record { size = v.size; first = v.first; rest = λ i some l. free-stays k i m read (v.rest i some l) }

  pub reading-stays : (r : Merging) (place : ℕ) → IsReadingParent r place p → IsReadingParent r place q
  unfolding viewed-stays
  reading-stays r place v = record {
    viewed = viewed-stays r.upper r.lower (viewed_leaf r) v.viewed;
    were = read-stays r.upper.slot v.viewed.guarded r.lower.status place r.read v.were;
    blank = v.blank;
  }

  pub parent-stays : (k m : ℕ) (read : List ℕ) → m ≤ p.now → WasParentNode k m read p → WasParentNode k m read q
  parent-stays k m read l v = record {
    raw = v.raw;
    level = v.level;
    low = v.low;
    high = v.high;
    few = subst (λ (z : Config). z.nodes ≤ MAX_NODES) (sym c.config) v.few;
    size = v.size;
    inner = v.inner;
    none = (λ t. node_fault (c.config t).nodes v.raw (node_of read) v.level v.low v.high) ∙ v.none;
    reads = v.reads;
    were = (λ t. words (c.config t) (c.at m l t) k) ∙ v.were;
    level_is = (λ t. (form_at (c.config t) (c.at m l t)).level k) ∙ v.level_is;
    low_is = (λ t. (form_at (c.config t) (c.at m l t)).low k) ∙ v.low_is;
    high_is = (λ t. (form_at (c.config t) (c.at m l t)).high k) ∙ v.high_is;
    reached = λ j n. ap (λ (x : Instant). x.reached (child_of (node_of read) j)) (c.at m l) ∙ v.reached j n;
  }

  pub lacked-stays : (read leaf : List ℕ) (j : ℕ) → LackedAt read leaf j p → LackedAt read leaf j q
  lacked-stays read leaf j w = record { other = w.other; at = w.at; low = w.low; high = w.high; slot = w.slot; seen = seen-stays w.other w.at w.low w.high w.seen; many = w.many }

  pub tried-stays : (read leaf : List ℕ) (right : Bool) (place : ℕ) → IsTried read leaf right place p → IsTried read leaf right place q
  tried-stays read leaf right place t e l = lacked-stays read leaf (place + 2) (t e l)

  guarded-then : (r : Merging) (v : IsViewed r.upper r.lower (viewed_leaf r) p) → v.guarded ≤ p.now
  guarded-then r v = omega (arith, v.links.guard.order, v.links.guard.now, v.is_guarded)

  pub paired-stays : (r : Merging) → IsPaired r p → IsPaired r q
  unfolding viewed-stays parent-stays
  paired-stays r v = record {
    viewed = viewed-stays r.upper r.lower (viewed_leaf r) v.viewed;
    parent = parent-stays r.upper.slot v.viewed.guarded r.read (guarded-then r v.viewed) v.parent;
    pair = v.pair;
    tried = tried-stays r.read r.leaf r.right r.place v.tried;
  }

  pub beside-stays : (slot : ℕ) (beside : List ℕ) (place : ℕ) → IsReadingBeside slot beside place p → IsReadingBeside slot beside place q
  beside-stays slot beside place v = record {
    at = v.at;
    since = omega (arith, v.since, c.since);
    now = omega (arith, v.now, c.now);
    reached = ap (λ (x : Instant). x.reached slot) (c.at v.at v.now) ∙ v.reached;
    was = (λ t. words (c.config t) (c.at v.at v.now t) slot STATUS_AT) ∙ v.was;
    plain = v.plain;
    were = read-stays slot v.at (slice_index beside STATUS_AT) place beside v.were;
    blank = v.blank;
  }

  pub checked-stays : (r : Merging) → IsChecked r p → IsChecked r q
  unfolding paired-stays viewed-stays parent-stays beside-stays
  checked-stays r v = record {
    paired = paired-stays r v.paired;
    reading = beside-stays r.beside_slot r.beside NODE_WORDS v.reading;
    moment = v.moment;
    order = v.order;
    viewed = v.viewed;
    own = stood-between-stays r.lower.slot v.moment _ _ v.own;
    other = stood-between-stays r.beside_slot v.moment _ _ v.other;
    own_hung = hung-stays r.lower.slot r.upper.slot (own_place r.right r.place) v.moment v.own.now v.own_hung;
    other_hung = hung-stays r.beside_slot r.upper.slot (other_place r.right r.place) v.moment v.own.now v.other_hung;
  }

  pub planned-stays : (r : Merging) → IsPlanned r p → IsPlanned r q
  unfolding paired-stays viewed-stays parent-stays beside-hung-stays
  planned-stays r v = record {
    paired = paired-stays r v.paired;
    low = v.low;
    high = v.high;
    low_is = v.low_is;
    high_is = v.high_is;
    above = v.above;
    below = v.below;
    first_at = v.first_at;
    second_at = v.second_at;
    first = seen-stays _ v.first_at v.low _ v.first;
    second = seen-stays _ v.second_at _ v.high v.second;
    beside = beside-hung-stays r.lower.slot (own_place r.right r.place) (beside_leaf r) (other_place r.right r.place) v.beside;
    later = v.later;
    room = v.room;
  }

  pub frozen-stays : (k : ℕ) (image : List ℕ) → StoodFrozen k image p → StoodFrozen k image q
  frozen-stays k image w = record {
    moment = w.moment;
    since = omega (arith, w.since, c.since);
    now = omega (arith, w.now, c.now);
    reached = ap (λ (x : Instant). x.reached k) (c.at w.moment w.now) ∙ w.reached;
    frozen = (λ t. (page_at (c.config t) (c.at w.moment w.now t) k).frozen) ∙ w.frozen;
    says = λ key. (λ t. found_of (words (c.config t) (c.at w.moment w.now t) k) key) ∙ w.says key;
  }

  pub frozen-moment : (k : ℕ) (image : List ℕ) (w : StoodFrozen k image p) → (frozen-stays k image w).moment ≡ w.moment
  unfolding frozen-stays
  frozen-moment k image w = refl

  -- the words of the parent that is made of an old one
  pub joined-stays : (k m : ℕ) (read : List ℕ) (l : m ≤ p.now) (v : WasParentNode k m read p) (place slot : ℕ)
      → joined_parent (children_in read) place slot v.low v.high v.level ≡ joined_parent (children_in read) place slot (parent-stays k m read l v).low (parent-stays k m read l v).high (parent-stays k m read l v).level
  unfolding parent-stays
  joined-stays k m read l v place slot = refl
