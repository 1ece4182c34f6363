-- What the statuses of the node and of its neighbour tell that are found again: their words are those of one moment, the two meet at the
-- key between them, and have room in one or not.
use Rattle.std.proofs.Common.{◌≡◌, ◌≢◌, ℕ, ◌+◌, ◌<◌, ◌≤◌, Bool, true, false, List, length, slice_index, arith, refl, sym, ap, subst, ◌∙◌, inl, inr, Option, Some}
use Rattle.std.specs.Prelude.{None}
use Rattle.std.proofs.lemmas.Bool.{cases_lt, true≢false}
use Rattle.bz_layout.specs.Addresses.{node_address}
use Rattle.bz_layout.specs.declared.config.Config.{Config}
use Rattle.bz_layout.specs.declared.sizes.TheConstants.{NODE_WORDS, STATUS_AT}
use Rattle.bz_layout.specs.declared.thresholds.TheConstants.{SPLIT_ABOVE}
use Rattle.bz_node.specs.Reading.{children_in}
use Rattle.bz_node.specs.Records.{IsAbove, IsBelow}
use Rattle.bz_slotted.specs.ReadingLaws.{node_of}
use Rattle.bz_slotted.specs.Rules.{node_fault}
use Rattle.bz_word.specs.Statuses.{status}
use Rattle.bz_united.specs.Uniting.{words_of_both}
use Rattle.bz_task.specs.Good.{IsGood}
use Rattle.bz_task.specs.Instant.{page_at, is_inside}
use Rattle.bz_task.specs.Laws.{SamePlace}
use Rattle.bz_task.specs.Scene.{Past, Scene, IsScene, here}
use Rattle.bz_task.proofs.Proved.{fronts_stay, headers_say_the_level, ranges_stay}
use Rattle.bz_renew.specs.Due.{IsStatusOf}
use Rattle.bz_renew.proofs.Words.{node-at}
use Rattle.bz_inner.specs.InnerMerges.{WasOpen, AreReadTogether}
use Rattle.bz_inner.specs.JoinFacts.{IsWeighable}
use Rattle.bz_inner.specs.Joinings.{Joining, left_slot, right_slot, left_words, right_words, sep_of, IsPaired, IsReadingOwn, HasOwn, IsReadingBeside, ArePlanned, WereTooLarge}
use Rattle.bz_inner.specs.Neighbours.{first_of, second_of, first_words, second_words, StoodAt, StoodBeside}
use Rattle.bz_inner.proofs.JoinReading.{own-beside, paired-beside, with_beside}
use Rattle.bz_inner.proofs.NodesRead.{WasMet, was-met, found-now, was-open}
use Rattle.bz_inner.proofs.Separators.{has-separator}

-- the node's words, where its status is found again
pub own-whole : (r : Joining) (s : Scene) → IsScene s → IsReadingOwn r NODE_WORDS s.past → IsStatusOf false r.lower.status → (here s).value r.lower.guard ≡ r.lower.status → HasOwn r s.past
own-whole r s good f thawed now = record {
  paired = f.paired;
  own = was-open s r.middle.slot f.paired.links.own_at r.lower.status r.own good
      (was-met s r.middle.slot f.paired.links.own_at r.lower f.paired.links.own f.paired.links.is_own_at thawed)
      (found-now s r.middle.slot f.paired.links.own_at r.lower f.paired.links.own f.paired.links.is_own_at thawed now) f.were;
}

-- the neighbour's status is the first of its words
pub beside-first : (r : Joining) (s : Scene) (read : List ℕ) → IsScene s → HasOwn r s.past → (here s).value (node_address s.past.config r.beside_slot + STATUS_AT) ≡ slice_index read STATUS_AT → IsStatusOf false (slice_index read STATUS_AT) → length read ≡ NODE_WORDS
    → ((i : ℕ) → 0 < i → slice_index read i ≡ 0) → IsReadingBeside (with_beside r read) 1 s.past
unfolding own-beside paired-beside
beside-first r s read good f value thawed size blank = record {
  has = own-beside r read s.past f;
  at = s.past.now;
  later = f.paired.stood.now;
  now = omega arith;
  status = node-at s.past.config (here s).value r.beside_slot STATUS_AT (omega arith) ∙ value;
  thawed = thawed;
  were = record { size = size; first = refl; rest = λ i some l. absurd (omega (arith, some, l)); blank = λ i l. blank i (omega (arith, l)) };
}

-- a node that was read stood at the same level between the same bounds at any other moment at which it was in the tree
record StoodSo (k m : ℕ) (read : List ℕ) (p : Past) (w : WasOpen k m read p) (level : ℕ) (low high : Option (List ℕ)) : Type 0 where
  level_is : w.node.level ≡ level
  low_is : w.node.low ≡ low
  high_is : w.node.high ≡ high

stood-so : (s : Scene) (k m n level : ℕ) (read : List ℕ) (low high : Option (List ℕ)) → IsScene s → (w : WasOpen k m read s.past) → s.past.since ≤ n → n ≤ s.past.now → StoodAt k n level low high s.past → StoodSo k m read s.past w level low high
stood-so s k m n level read low high good w since now t = elim (cases_lt m n) [
  | inl before ↦ (
      let e : SamePlace s.past.config (s.past.at m) (s.past.at n) k = ranges_stay s.past.config s.past.at s.past.since s.past.now m n k good.history (record { since = w.since; order = omega (arith, before); until = now }) in-memory w.node.inside t.inside in
      record { level_is = sym w.node.level_is ∙ (sym e.level ∙ t.level_is); low_is = sym w.node.low_is ∙ (sym e.low ∙ t.low_is); high_is = sym w.node.high_is ∙ (sym e.high ∙ t.high_is) })
  | inr after ↦ (
      let e : SamePlace s.past.config (s.past.at n) (s.past.at m) k = ranges_stay s.past.config s.past.at s.past.since s.past.now n m k good.history (record { since = since; order = after; until = w.now }) in-memory t.inside w.node.inside in
      record { level_is = sym w.node.level_is ∙ (e.level ∙ t.level_is); low_is = sym w.node.low_is ∙ (e.low ∙ t.low_is); high_is = sym w.node.high_is ∙ (e.high ∙ t.high_is) })
]
  where
    in-memory : k ≢ s.past.config.nodes
    in-memory e = absurd (omega (arith, e, (good.history.good m w.since w.now).slots k w.node.reached))

-- one of two that stood beside each other, by its side
beside-stood : (right : Bool) (own other m : ℕ) (sep : List ℕ) (p : Past) → StoodBeside (first_of right own other) (second_of right own other) m sep p → (level : ℕ) × ((low : Option (List ℕ)) × ((high : Option (List ℕ)) × ((0 < level) × StoodAt other m level low high p)))
beside-stood true own other m sep p v = (v.level, (Some sep, (v.high, (v.inner, v.right))))
beside-stood false own other m sep p v = (v.level, (v.low, (Some sep, (v.inner, v.left))))

module _ (r : Joining) (s : Scene) (good : IsScene s) (f : IsReadingBeside r NODE_WORDS s.past) where
  abbrev c : Config
  c = s.past.config

  abbrev v : IsPaired r s.past
  v = f.has.paired

  abbrev b : ℕ
  b = r.beside_slot

  -- the neighbour was in the tree when its status was read
  stood : (level : ℕ) × ((low : Option (List ℕ)) × ((high : Option (List ℕ)) × ((0 < level) × StoodAt b v.at level low high s.past)))
  stood = beside-stood r.right r.middle.slot b v.at (sep_of r.above r.place) s.past v.stood

  since-then : s.past.since ≤ f.at
  since-then = omega (arith, v.stood.since, f.later)

  then-good : IsGood c (s.past.at f.at)
  then-good = good.history.good f.at since-then f.now

  reached-then : (s.past.at f.at).reached b ≡ true
  reached-then = (fronts_stay c s.past.at s.past.since s.past.now v.at f.at b good.history (record { since = v.stood.since; order = f.later; until = f.now }) stood.1.1.1.1.reached).reached

  thawed-then : (page_at c (s.past.at f.at) b).frozen ≡ false
  thawed-then = ap (λ z. (status z).frozen) f.status ∙ f.thawed.is

  inside-then : is_inside c (s.past.at f.at) b ≡ true
  inside-then = elim (then-good.placed b reached-then) [ inl t ↦ t | inr o ↦ absurd (true≢false (sym o ∙ thawed-then)) ]

  in-memory : b ≢ c.nodes
  in-memory e = absurd (omega (arith, e, then-good.slots b reached-then))

  same : SamePlace c (s.past.at v.at) (s.past.at f.at) b
  same = ranges_stay c s.past.at s.past.since s.past.now v.at f.at b good.history (record { since = v.stood.since; order = f.later; until = f.now }) in-memory stood.1.1.1.1.inside inside-then

  inner-then : 0 < (page_at c (s.past.at f.at) b).level
  inner-then = omega (arith, (headers_say_the_level c (s.past.at f.at) b then-good in-memory inside-then).level, same.level, stood.1.1.1.1.level_is, stood.1.1.1.0)

  met : WasMet b f.at (slice_index r.beside STATUS_AT) s.past
  met = record { since = since-then; now = f.now; reached = reached-then; inner = inner-then; status = f.status; thawed = f.thawed }

  module _ (now : (here s).value (node_address c b + STATUS_AT) ≡ slice_index r.beside STATUS_AT) where
    other : WasOpen b f.at r.beside s.past
    other = was-open s b f.at (slice_index r.beside STATUS_AT) r.beside good met (node-at c (here s).value b STATUS_AT (omega arith) ∙ now) f.were

    -- the two in their order
    pub two : (right : Bool) → right ≡ r.right → (la : ℕ) × ((ra : ℕ) × (WasOpen (first_of right r.middle.slot b) la (first_words right r.own r.beside) s.past × WasOpen (second_of right r.middle.slot b) ra (second_words right r.own r.beside) s.past))
    two true e = (v.links.own_at, (f.at, (f.has.own, other)))
    two false e = (f.at, (v.links.own_at, (other, f.has.own)))

    abbrev both : (la : ℕ) × ((ra : ℕ) × (WasOpen (left_slot r) la (left_words r) s.past × WasOpen (right_slot r) ra (right_words r) s.past))
    both = two r.right refl

    pub together : AreReadTogether (left_slot r) (right_slot r) r.upper.slot both.0 both.1.0 v.links.parent_at r.place (left_words r) (right_words r) r.above (sep_of r.above r.place) s.past
    together = record {
      left = both.1.1.0;
      right = both.1.1.1;
      parent = v.parent;
      within = v.pair.within;
      left_child = v.pair.first;
      right_child = v.pair.second;
      separator = refl;
    }

    abbrev left : WasOpen (left_slot r) both.0 (left_words r) s.past
    left = together.left

    abbrev right : WasOpen (right_slot r) both.1.0 (right_words r) s.past
    right = together.right

    left-so : StoodSo (left_slot r) both.0 (left_words r) s.past left v.stood.level v.stood.low (Some (sep_of r.above r.place))
    left-so = stood-so s (left_slot r) both.0 v.at v.stood.level (left_words r) v.stood.low (Some (sep_of r.above r.place)) good left v.stood.since v.stood.now v.stood.left

    right-so : StoodSo (right_slot r) both.1.0 (right_words r) s.past right v.stood.level (Some (sep_of r.above r.place)) v.stood.high
    right-so = stood-so s (right_slot r) both.1.0 v.at v.stood.level (right_words r) (Some (sep_of r.above r.place)) v.stood.high good right v.stood.since v.stood.now v.stood.right

    left-none : node_fault c.nodes left.node.node.raw (node_of (left_words r)) left.node.level left.node.low (Some (sep_of r.above r.place)) ≡ None
    left-none = (λ t. node_fault c.nodes left.node.node.raw (node_of (left_words r)) left.node.level left.node.low (sym left-so.high_is t)) ∙ left.node.node.none

    same-level : left.node.level ≡ right.node.level
    same-level = left-so.level_is ∙ sym right-so.level_is

    right-none : node_fault c.nodes right.node.node.raw (node_of (right_words r)) left.node.level (Some (sep_of r.above r.place)) right.node.high ≡ None
    right-none = (λ t. node_fault c.nodes right.node.node.raw (node_of (right_words r)) (same-level t) (sym right-so.low_is t) right.node.high) ∙ right.node.node.none

    pub planned : words_of_both (children_in (left_words r)) (children_in (right_words r)) (sep_of r.above r.place) ≤ SPLIT_ABOVE → ArePlanned r s.past
    planned room = record {
      under = v.links.under;
      guard = v.links.guard;
      small = v.links.small;
      pair = v.pair;
      apart = v.apart;
      left_at = both.0;
      right_at = both.1.0;
      above_at = v.links.parent_at;
      read = together;
      meet = record {
        left_raw = left.node.node.raw;
        right_raw = right.node.node.raw;
        few = left.node.node.few;
        inner = left.node.node.inner;
        left_size = left.node.node.size;
        right_size = right.node.node.size;
        left_none = left-none;
        right_none = right-none;
        key = v.stood.key;
        above = subst (λ z. IsAbove z (sep_of r.above r.place)) (sym left-so.low_is) v.stood.above;
        below = subst (λ z. IsBelow z (sep_of r.above r.place)) (sym right-so.high_is) v.stood.below;
        room = room;
      };
    }

    pub too-large : SPLIT_ABOVE < words_of_both (children_in (left_words r)) (children_in (right_words r)) (sep_of r.above r.place) → WereTooLarge r.upper r.middle s.past
    too-large many = record {
      right = r.right;
      place = r.place;
      beside = r.beside_slot;
      above = r.above;
      left = left_words r;
      other = right_words r;
      left_at = both.0;
      right_at = both.1.0;
      above_at = v.links.parent_at;
      pair = v.pair;
      read = together;
      many = many;
    }

    pub weighable : IsWeighable r
    weighable = record {
      own = record { plain = f.has.own.plain; taken = f.has.own.node.node.node.taken };
      other = record { plain = other.plain; taken = other.node.node.node.taken };
      separator = has-separator c.nodes r.above v.parent.node.low v.parent.node.high v.parent.node.node.node r.place v.pair.within;
    }
