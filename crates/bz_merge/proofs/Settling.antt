-- What the neighbour's status tells that is found again: its words are those of one moment, and whether the two have room in one.
use Rattle.std.proofs.Common.{◌≡◌, ◌≢◌, ℕ, ◌+◌, ◌<◌, ◌≤◌, ◌==◌, ◌⊎◌, if◌then◌else◌, Bool, true, false, List, slice_index, arith, refl, sym, ap, subst, ◌∙◌, inl, inr, Some, Option}
use Rattle.std.specs.Prelude.{None}
use Rattle.std.proofs.lemmas.Bool.{cases_lt, cases_eq}
use Rattle.std.proofs.lemmas.Bool.Decides.{nat_tests}
use Rattle.bz_layout.specs.Addresses.{node_address}
use Rattle.bz_layout.specs.declared.config.Config.{Config}
use Rattle.bz_layout.specs.declared.sizes.TheConstants.{STATUS_AT}
use Rattle.bz_layout.specs.declared.thresholds.TheConstants.{SPLIT_ABOVE}
use Rattle.bz_node.specs.Records.{IsAbove, IsBelow}
use Rattle.bz_tree.specs.Order.{is_above, is_below}
use Rattle.bz_slotted.specs.Laws.{InnerKeysRise, RisesBetween}
use Rattle.bz_slotted.specs.Readers.{count_of, key_of, live_of}
use Rattle.bz_slotted.specs.ReadingLaws.{node_of}
use Rattle.bz_slotted.specs.Rules.{node_fault}
use Rattle.bz_slotted.proofs.MadeLeaves.{test-before}
use Rattle.bz_content.specs.Restructures.{children_of}
use Rattle.bz_task.specs.Instant.{words, form_at}
use Rattle.bz_task.specs.Laws.{SamePlace, RangesStay}
use Rattle.bz_task.specs.Requests.{Tells}
use Rattle.bz_task.specs.Scene.{Past, Scene, Stage, Waiting, Took, IsScene, HasFilled, here}
use Rattle.bz_task.specs.declared.todo.Seen.{Seen}
use Rattle.bz_task.specs.declared.todo.Seen.TheVariants.{Read as Was}
use Rattle.bz_renew.proofs.Words.{node-at}
use Rattle.bz_merge.specs.Decisions.{HaveRoom, LackRoom, IsWeighable, HasSettled, HasNoLeft}
use Rattle.bz_merge.specs.Facts.{NoneFitted, merge_asks, merge_facts}
use Rattle.bz_merge.specs.Merges.{low_in, high_in}
use Rattle.bz_merge.specs.Plans.{Merging, viewed_leaf, beside_leaf, first_of, second_of, own_place, other_place, IsPair, LackedAt, IsTried, IsChecked, IsPlanned}
use Rattle.bz_merge.specs.Siblings.{IsChildAt, StoodBetween, SeenLeaf, WasSeen, LeavesReadWere}
use Rattle.bz_merge.specs.declared.phase.MergePhase.{MergePhase}
use Rattle.bz_merge.specs.declared.phase.MergePhase.TheVariants.{Fresh, Word, Again, Beside, Parent, Still, Freeze, FreezeBeside, Guard, Store, Flush, Swap, Done, Restart, NoNeighbour, NoSlot, NoSwap}
use Rattle.bz_merge.specs.declared.sibling.Sibling.{Sibling}
use Rattle.bz_merge.proofs.Asking.{own-once, other-once}
use Rattle.bz_merge.proofs.Freezing.{seen-frozen}
use Rattle.bz_merge.proofs.Reading.{answered}
use Rattle.bz_merge.proofs.Standing.{not-equal}

-- the laws on which it rests
pub record Laws : Type 0 where
  pub leaves : LeavesReadWere
  pub ranges : RangesStay
  pub rises : InnerKeysRise

-- a leaf that was seen stood between the same bounds at any other moment at which it was in the tree
same-bounds : RangesStay → (s : Scene) (l : SeenLeaf) (at m : ℕ) (low high lo hi : Option (List ℕ)) → IsScene s → WasSeen l at low high s.past → StoodBetween l.slot m lo hi s.past → WasSeen l at lo hi s.past
same-bounds ranges s l at m low high lo hi good w b = record {
  stood = record { since = w.stood.since; now = w.stood.now; slot = w.stood.slot; inside = w.stood.inside; leaf = w.stood.leaf; low_is = low-there; high_is = high-there };
  status = w.status;
  plain = w.plain;
  whole = (λ t. node_fault s.past.config.nodes (node_of l.image) (node_of l.image) 0 (low-same t) (high-same t)) ∙ w.whole;
  says = w.says;
  size = w.size;
}
  where
    in-memory : l.slot ≢ s.past.config.nodes
    in-memory e = absurd (omega (arith, e, w.stood.slot))

    both : ((form_at s.past.config (s.past.at at)).low l.slot ≡ lo) × ((form_at s.past.config (s.past.at at)).high l.slot ≡ hi)
    both = elim (cases_lt at m) [
      | inl before ↦ (
          let p : SamePlace s.past.config (s.past.at at) (s.past.at m) l.slot = ranges s.past.config s.past.at s.past.since s.past.now at m l.slot good.history (record { since = w.stood.since; order = omega (arith, before); until = b.now }) in-memory w.stood.inside b.inside in
          (sym p.low ∙ b.low_is, sym p.high ∙ b.high_is))
      | inr after ↦ (
          let p : SamePlace s.past.config (s.past.at m) (s.past.at at) l.slot = ranges s.past.config s.past.at s.past.since s.past.now m at l.slot good.history (record { since = b.since; order = after; until = w.stood.now }) in-memory b.inside w.stood.inside in
          (p.low ∙ b.low_is, p.high ∙ b.high_is))
    ]

    low-there : (form_at s.past.config (s.past.at at)).low l.slot ≡ lo
    low-there = both.0

    high-there : (form_at s.past.config (s.past.at at)).high l.slot ≡ hi
    high-there = both.1

    low-same : lo ≡ low
    low-same = sym low-there ∙ w.stood.low_is

    high-same : hi ≡ high
    high-same = sym high-there ∙ w.stood.high_is

-- the separator lies between the bounds of the two
module _ (n : ℕ → ℕ) (low high : Option (List ℕ)) (i : ℕ) (within : i + 1 < count_of n) where
  pub high-left : high_in (children_of n) high i ≡ Some (key_of n (i + 1))
  high-left = let t : (i + 1 == count_of n) ≡ false = not-equal (i + 1) (count_of n) (λ e. absurd (omega (arith, e, within))) in ap (λ w. if w then high else Some (key_of n (i + 1))) t

  pub low-right : low_in (children_of n) low (i + 1) ≡ Some (key_of n (i + 1))
  low-right = let t : (i + 1 == 0) ≡ false = not-equal (i + 1) 0 (λ e. absurd (omega (arith, e))) in ap (λ w. if w then low else Some (key_of n (i + 1))) t

above-said : (low : Option (List ℕ)) (key : List ℕ) → is_above key low ≡ true → IsAbove low key
above-said None key e = tt
above-said (Some low) key e = test-before low key e

below-said : (high : Option (List ℕ)) (key : List ℕ) → is_below key high ≡ true → IsBelow high key
below-said None key e = tt
below-said (Some high) key e = test-before key high e

module _ (nodes : ℕ) (n : ℕ → ℕ) (low high : Option (List ℕ)) (rise : RisesBetween nodes n low high) (i : ℕ) (within : i + 1 < count_of n) where
  sep-above : IsAbove (low_in (children_of n) low i) (key_of n (i + 1))
  sep-above = go (i == 0) refl
    where
      go : (t : Bool) → (i == 0) ≡ t → IsAbove (if t then low else Some (key_of n i)) (key_of n (i + 1))
      go true e = above-said low (key_of n (i + 1)) (rise.first (i + 1) (omega arith) within)
      go false e = test-before (key_of n i) (key_of n (i + 1)) (rise.rise i (i + 1) (positive e) (omega arith) within)
        where
          positive : (i == 0) ≡ false → 0 < i
          positive q = elim (cases_eq i 0) [ inl z ↦ absurd (let h : (i == 0) ≡ true = zero z in let g = sym h ∙ q in cc) | inr ne ↦ omega (arith, ne) ]
            where
              zero : i ≡ 0 → (i == 0) ≡ true
              zero z = subst (λ k. (k == 0) ≡ true) (sym z) refl

  sep-below : IsBelow (high_in (children_of n) high (i + 1)) (key_of n (i + 1))
  sep-below = go (i + 1 + 1 == count_of n) refl
    where
      go : (t : Bool) → (i + 1 + 1 == count_of n) ≡ t → IsBelow (if t then high else Some (key_of n (i + 1 + 1))) (key_of n (i + 1))
      go true e = below-said high (key_of n (i + 1)) (rise.last (i + 1) (omega arith) within)
      go false e = test-before (key_of n (i + 1)) (key_of n (i + 1 + 1)) (rise.rise (i + 1) (i + 1 + 1) (omega arith) (omega arith) (more e))
        where
          more : (i + 1 + 1 == count_of n) ≡ false → i + 1 + 1 < count_of n
          more q = elim (cases_eq (i + 1 + 1) (count_of n)) [ inl z ↦ absurd (let h : (i + 1 + 1 == count_of n) ≡ true = same z in let g = sym h ∙ q in cc) | inr ne ↦ omega (arith, ne, within) ]
            where
              itself : (k : ℕ) → (k == k) ≡ true
              itself k = grind (arith, nat_tests)

              same : i + 1 + 1 ≡ count_of n → (i + 1 + 1 == count_of n) ≡ true
              same z = subst (λ k. (i + 1 + 1 == k) ≡ true) z (itself (i + 1 + 1))

still-waits : (r : Merging) (stage : Stage) (s : Scene) → merge_facts r Still stage s → HasFilled s × IsChecked r s.past
still-waits r Waiting s f = f
still-waits r Took s f = absurd (f)

-- the two in their order, between their bounds
in-order : (right : Bool) (n : ℕ → ℕ) (lo hi : Option (List ℕ)) (place : ℕ) (own other : SeenLeaf) (a b : ℕ) (p : Past) → WasSeen own a (low_in (children_of n) lo (own_place right place)) (high_in (children_of n) hi (own_place right place)) p
    → WasSeen other b (low_in (children_of n) lo (other_place right place)) (high_in (children_of n) hi (other_place right place)) p
    → WasSeen (first_of right own other) (if right then a else b) (low_in (children_of n) lo place) (high_in (children_of n) hi place) p × WasSeen (second_of right own other) (if right then b else a) (low_in (children_of n) lo (place + 1)) (high_in (children_of n) hi (place + 1)) p
in-order true n lo hi place own other a b p f s = (f, s)
in-order false n lo hi place own other a b p f s = (s, f)

room-in-order : (right : Bool) (own other : SeenLeaf) → live_of (node_of own.image) + live_of (node_of other.image) ≤ SPLIT_ABOVE → live_of (node_of (first_of right own other).image) + live_of (node_of (second_of right own other).image) ≤ SPLIT_ABOVE
room-in-order true own other l = l
room-in-order false own other l = omega (arith, l)

module _ (b : Laws) (c : Config) (r : Merging) (stage : Stage) (seen : Seen) (s : Scene) (same : s.past.config ≡ c) (good : IsScene s) (f : merge_facts r Still stage s) (t : Tells (merge_asks c r Still) stage seen s) (e : seen ≡ Was (slice_index r.beside STATUS_AT)) where
  abbrev k : IsChecked r s.past
  k = (still-waits r stage s f).1

  status-now : words s.past.config (here s) r.beside_slot STATUS_AT ≡ slice_index r.beside STATUS_AT
  status-now = node-at s.past.config (here s).value r.beside_slot STATUS_AT (omega arith)
      ∙ ap (λ (z : Config). (here s).value (node_address z r.beside_slot + STATUS_AT)) same ∙ (answered (node_address c r.beside_slot + STATUS_AT) (slice_index r.beside STATUS_AT) stage seen s e t).1.value

  -- the neighbour was as it was read
  other : WasSeen (beside_leaf r) k.moment (low_in (children_of (node_of r.read)) k.paired.parent.low (other_place r.right r.place)) (high_in (children_of (node_of r.read)) k.paired.parent.high (other_place r.right r.place)) s.past
  other = b.leaves s (beside_leaf r) k.reading.at k.moment _ _ good k.reading.since k.order k.reading.reached k.reading.was k.reading.plain k.reading.were k.other status-now

  own : WasSeen (viewed_leaf r) k.paired.viewed.at (low_in (children_of (node_of r.read)) k.paired.parent.low (own_place r.right r.place)) (high_in (children_of (node_of r.read)) k.paired.parent.high (own_place r.right r.place)) s.past
  own = same-bounds b.ranges s (viewed_leaf r) k.paired.viewed.at k.moment k.paired.viewed.low k.paired.viewed.high _ _ good k.paired.viewed.seen k.own

  pub weighable : IsWeighable r
  weighable = record {
    own = record { nodes = s.past.config.nodes; low = _; high = _; whole = own.whole };
    other = record { nodes = s.past.config.nodes; low = _; high = _; whole = other.whole };
    parent = record { size = k.paired.parent.size; reads = k.paired.parent.reads; place = own_place r.right r.place; child = k.paired.pair.own };
    own_plain = own.plain;
    other_plain = other.plain;
  }

  -- it may be done
  rise : RisesBetween s.past.config.nodes (node_of r.read) k.paired.parent.low k.paired.parent.high
  rise = b.rises s.past.config.nodes k.paired.parent.raw (node_of r.read) k.paired.parent.level k.paired.parent.low k.paired.parent.high k.paired.parent.inner k.paired.parent.none

  pub planned : HaveRoom r → IsPlanned r s.past
  planned room =
      let w = in-order r.right (node_of r.read) k.paired.parent.low k.paired.parent.high r.place (viewed_leaf r) (beside_leaf r) k.paired.viewed.at k.moment s.past own other in
      record {
        paired = k.paired;
        low = low_in (children_of (node_of r.read)) k.paired.parent.low r.place;
        high = high_in (children_of (node_of r.read)) k.paired.parent.high (r.place + 1);
        low_is = refl;
        high_is = refl;
        above = sep-above s.past.config.nodes (node_of r.read) k.paired.parent.low k.paired.parent.high rise r.place k.paired.pair.counted;
        below = sep-below s.past.config.nodes (node_of r.read) k.paired.parent.low k.paired.parent.high rise r.place k.paired.pair.counted;
        first_at = if r.right then k.paired.viewed.at else k.moment;
        second_at = if r.right then k.moment else k.paired.viewed.at;
        first = subst (λ z. WasSeen (first_of r.right (viewed_leaf r) (beside_leaf r)) (if r.right then k.paired.viewed.at else k.moment) (low_in (children_of (node_of r.read)) k.paired.parent.low r.place) z s.past) (high-left (node_of r.read) k.paired.parent.low k.paired.parent.high r.place k.paired.pair.counted) w.0;
        second = subst (λ z. WasSeen (second_of r.right (viewed_leaf r) (beside_leaf r)) (if r.right then k.moment else k.paired.viewed.at) z (high_in (children_of (node_of r.read)) k.paired.parent.high (r.place + 1)) s.past) (low-right (node_of r.read) k.paired.parent.low k.paired.parent.high r.place k.paired.pair.counted) w.1;
        beside = record {
          moment = k.moment;
          parent = r.upper.slot;
          low = _;
          high = _;
          stood = k.own;
          hung = k.own_hung;
          other_low = _;
          other_high = _;
          other_seen = other;
          other_hung = k.other_hung;
        };
        later = k.viewed;
        room = room-in-order r.right (viewed_leaf r) (beside_leaf r) room;
      }

  -- or it lacks the room
  lacked : LackRoom r → LackedAt r.read r.leaf (other_place r.right r.place) s.past
  lacked many = record { other = beside_leaf r; at = k.moment; low = _; high = _; slot = k.paired.pair.other; seen = other; many = many }

  lacked-right : LackRoom r → r.right ≡ true → LackedAt r.read r.leaf (r.place + 1) s.past
  lacked-right many is = subst (λ z. LackedAt r.read r.leaf (other_place z r.place) s.past) is (lacked many)

  own-right : r.right ≡ true → IsChildAt r.read r.lower.slot r.place
  own-right is = subst (λ z. IsChildAt r.read r.lower.slot (own_place z r.place)) is k.paired.pair.own

  none-fitted : LackRoom r → (r.right ≡ true → HasNoLeft r.read r.lower.slot) → NoneFitted r.upper r.lower r.leaf s.past
  none-fitted many no_left = go r.right refl
    where
      go : (right : Bool) → r.right ≡ right → NoneFitted r.upper r.lower r.leaf s.past
      go true is = record {
        moment = k.paired.viewed.guarded;
        read = r.read;
        place = r.place;
        since = omega (arith, k.paired.viewed.links.guard.since, k.paired.viewed.is_guarded);
        now = omega (arith, k.paired.viewed.links.guard.order, k.paired.viewed.links.guard.now, k.paired.viewed.is_guarded);
        old = k.paired.parent;
        own = own-right is;
        right = λ l. lacked-right many is;
        left = λ j q. absurd (omega (arith, q, no_left is r.place (own-right is)));
      }
      go false is = record {
        moment = k.paired.viewed.guarded;
        read = r.read;
        place = r.place + 1;
        since = omega (arith, k.paired.viewed.links.guard.since, k.paired.viewed.is_guarded);
        now = omega (arith, k.paired.viewed.links.guard.order, k.paired.viewed.links.guard.now, k.paired.viewed.is_guarded);
        old = k.paired.parent;
        own = subst (λ z. IsChildAt r.read r.lower.slot (own_place z r.place)) is k.paired.pair.own;
        right = λ l. (let two : r.place + 1 + 1 ≡ r.place + 2 = omega arith in subst (λ z. LackedAt r.read r.leaf z s.past) (sym two) (k.paired.tried is (omega (arith, l))));
        left = λ j q. (let one : r.place ≡ j = omega (arith, q) in subst (λ z. LackedAt r.read r.leaf z s.past) one (subst (λ z. LackedAt r.read r.leaf (other_place z r.place) s.past) is (lacked many)));
      }

  -- the left neighbour after the right one
  tried-left : LackRoom r → r.right ≡ true → (side : Sibling) → IsPair r.read r.lower.slot false side.place side.slot → IsTried r.read r.leaf side.right side.place s.past
  tried-left many is side p q l =
      let same_place : side.place + 1 ≡ r.place = (own-right is).only (side.place + 1) p.own.within p.own.there in
      let two : r.place + 1 ≡ side.place + 2 = omega (arith, same_place) in
      subst (λ z. LackedAt r.read r.leaf z s.past) two (lacked-right many is)

-- the task with the neighbour that is tried then
abbrev pub with_side : Merging → Sibling → Merging
with_side r side = record r { right = side.right; place = side.place; beside_slot = side.slot }

settled-learns : Laws → (c : Config) (r : Merging) (q : MergePhase) (side : Sibling) (stage : Stage) (seen : Seen) (s : Scene) → s.past.config ≡ c → IsScene s → HasSettled r seen side q → ((i : ℕ) → q ≢ Beside i) → merge_facts r Still stage s → Tells (merge_asks c r Still) stage seen s → merge_facts r q Waiting s
settled-learns b c r NoNeighbour side stage seen s same good h not_beside f t = ((still-waits r stage s f).0, none-fitted b c r stage seen s same good f t h.0 h.1.0 h.1.1)
settled-learns b c r Freeze side stage seen s same good h not_beside f t = ((still-waits r stage s f).0, (planned b c r stage seen s same good f t h.0 h.1.0, h.1.1))
settled-learns b c r FreezeBeside side stage seen s same good h not_beside f t =
    let p : IsPlanned r s.past = planned b c r stage seen s same good f t h.0 h.1.0 in
    ((still-waits r stage s f).0, (p, (seen-frozen s (viewed_leaf r) good (own-once r s.past p) h.1.1.0, (h.1.1.1, inl h.1.1.0))))
settled-learns b c r Guard side stage seen s same good h not_beside f t =
    let p : IsPlanned r s.past = planned b c r stage seen s same good f t h.0 h.1.0 in
    ((still-waits r stage s f).0, record { planned = p; own = seen-frozen s (viewed_leaf r) good (own-once r s.past p) h.1.1.0; other = seen-frozen s (beside_leaf r) good (other-once r s.past p) h.1.1.1; froze = inl (h.1.1.1, inl h.1.1.0) })
settled-learns b c r Restart side stage seen s same good h not_beside f t = (still-waits r stage s f).0
settled-learns b c r (Beside i) side stage seen s same good h not_beside f t = absurd (not_beside i refl)
settled-learns b c r Fresh side stage seen s same good h not_beside f t = absurd (h)
settled-learns b c r (Word i) side stage seen s same good h not_beside f t = absurd (h)
settled-learns b c r Again side stage seen s same good h not_beside f t = absurd (h)
settled-learns b c r Parent side stage seen s same good h not_beside f t = absurd (h)
settled-learns b c r Still side stage seen s same good h not_beside f t = absurd (h)
settled-learns b c r (Store j) side stage seen s same good h not_beside f t = absurd (h)
settled-learns b c r (Flush j) side stage seen s same good h not_beside f t = absurd (h)
settled-learns b c r Swap side stage seen s same good h not_beside f t = absurd (h)
settled-learns b c r Done side stage seen s same good h not_beside f t = absurd (h)
settled-learns b c r NoSlot side stage seen s same good h not_beside f t = absurd (h)
settled-learns b c r NoSwap side stage seen s same good h not_beside f t = absurd (h)

other-learns : Laws → (c : Config) (r : Merging) (i : ℕ) (side : Sibling) (stage : Stage) (seen : Seen) (s : Scene) → s.past.config ≡ c → IsScene s → HasSettled r seen side (Beside i) → merge_facts r Still stage s → Tells (merge_asks c r Still) stage seen s → merge_facts (with_side r side) (Beside i) Waiting s
other-learns b c r i side stage seen s same good h f t =
    let k : IsChecked r s.past = (still-waits r stage s f).1 in
    let left : IsPair r.read r.lower.slot side.right side.place side.slot = subst (λ z. IsPair r.read r.lower.slot z side.place side.slot) (sym h.1.1.1.1.0) h.1.1.1.1.1 in (
      (still-waits r stage s f).0,
      (
        omega (arith, h.0),
        (record { viewed = k.paired.viewed; parent = k.paired.parent; pair = left; tried = tried-left b c r stage seen s same good f t h.1.0 h.1.1.0 h.1.1.1.0 side h.1.1.1.1.1 }, λ some. absurd (omega (arith, some, h.0))),
      ),
    )

-- a phase in which a neighbour is read, or not
beside-or : (q : MergePhase) → ((i : ℕ) × (q ≡ Beside i)) ⊎ ((i : ℕ) → q ≢ Beside i)
beside-or (Beside i) = inl (i, refl)
beside-or Fresh = inr (λ i e. absurd (cc))
beside-or (Word j) = inr (λ i e. absurd (cc))
beside-or Again = inr (λ i e. absurd (cc))
beside-or Parent = inr (λ i e. absurd (cc))
beside-or Still = inr (λ i e. absurd (cc))
beside-or Freeze = inr (λ i e. absurd (cc))
beside-or FreezeBeside = inr (λ i e. absurd (cc))
beside-or Guard = inr (λ i e. absurd (cc))
beside-or (Store j) = inr (λ i e. absurd (cc))
beside-or (Flush j) = inr (λ i e. absurd (cc))
beside-or Swap = inr (λ i e. absurd (cc))
beside-or Done = inr (λ i e. absurd (cc))
beside-or Restart = inr (λ i e. absurd (cc))
beside-or NoNeighbour = inr (λ i e. absurd (cc))
beside-or NoSlot = inr (λ i e. absurd (cc))
beside-or NoSwap = inr (λ i e. absurd (cc))

pub still-learns : Laws → (c : Config) (r : Merging) (q : MergePhase) (side side_before : Sibling) (stage : Stage) (seen : Seen) (s : Scene) → s.past.config ≡ c → IsScene s → HasSettled r seen side q → (((i : ℕ) → q ≢ Beside i) → side ≡ side_before) → r ≡ with_side r side_before → merge_facts r Still stage s → Tells (merge_asks c r Still) stage seen s
    → merge_facts (with_side r side) q Waiting s
still-learns b c r q side side_before stage seen s same good h kept is f t = elim (beside-or q) [
  | inl i ↦ subst (λ z. merge_facts (with_side r side) z Waiting s) (sym i.1) (other-learns b c r i.0 side stage seen s same good (subst (HasSettled r seen side) i.1 h) f t)
  | inr not_beside ↦ subst (λ z. merge_facts (with_side r z) q Waiting s) (sym (kept not_beside)) (subst (λ z. merge_facts z q Waiting s) is (settled-learns b c r q side stage seen s same good h not_beside f t))
]
