-- What a merge of two inner nodes under the root knows stays.
use Rattle.std.proofs.Common.{◌≡◌, ℕ, ◌+◌, ◌≤◌, Bool, true, false, List, slice_index, arith, refl, sym, ap, subst, ◌∙◌, inl, inr, Option, Some}
use Rattle.bz_layout.specs.Slots.{FreeSlots}
use Rattle.bz_layout.specs.declared.config.Config.{Config}
use Rattle.bz_layout.specs.declared.sizes.TheConstants.{NODE_WORDS, STATUS_AT, ROOT_AT}
use Rattle.bz_node.specs.Reading.{children_in}
use Rattle.bz_join.specs.Parents.{joined_parent}
use Rattle.bz_united.specs.Uniting.{united_words, MeetAt, IsOneOf}
use Rattle.bz_task.specs.Instant.{Instant, words, page_at, form_at, is_inside}
use Rattle.bz_task.specs.OwnActs.{gained}
use Rattle.bz_task.specs.Outcomes.{EndsAtLeaf}
use Rattle.bz_task.specs.Scene.{Past, Scene, Stage, Waiting, Took, IsLawful, Continues, HasFilled}
use Rattle.bz_task.specs.declared.path.Link.{Link}
use Rattle.bz_task.proofs.Proved.{nothing_is_gained}
use Rattle.bz_writer.specs.Laws.{IsSoundPlan}
use Rattle.bz_writer.proofs.Staying.{stable as writer-stable, no-slot as writer-no-slot}
use Rattle.bz_branch.proofs.FromSplit.Staying.{stood-stays}
use Rattle.bz_branch.proofs.Staying.{child-stays, guard-stays, under-stays, inner-stays, read-stays}
use Rattle.bz_inner.specs.InnerMerges.{WasOpen, AreReadTogether}
use Rattle.bz_inner.specs.JoinFacts.{joining_begins, joining_facts, joining_plan}
use Rattle.bz_inner.specs.Joinings.{Joining, left_slot, right_slot, left_words, right_words, sep_of, HasLinks, IsReadingAbove, IsPaired, IsReadingOwn, HasOwn, IsReadingBeside, ArePlanned, AreJoining, WasJoined, WasNotSmall, HadNoRoom}
use Rattle.bz_inner.specs.LowerFacts.{IsLinkIn}
use Rattle.bz_inner.specs.Neighbours.{first_of, second_of, StoodAt, StoodBeside}
use Rattle.bz_inner.specs.declared.join_phase.JoinPhase.{JoinPhase}
use Rattle.bz_inner.specs.declared.join_phase.JoinPhase.TheVariants.{Fresh, Pointer, Above, AboveAgain, Own, OwnAgain, Status, Beside, BesideAgain, NoRoom, Writing}

-- two plans of the same nodes
pub record AreSame {p q : Past} (r : Joining) (v : ArePlanned r p) (w : ArePlanned r q) : Type 0 where
  pub root : joined_parent (children_in r.above) r.place (r.slot 1) v.read.parent.node.low v.read.parent.node.high v.read.parent.node.level ≡ joined_parent (children_in r.above) r.place (r.slot 1) w.read.parent.node.low w.read.parent.node.high w.read.parent.node.level
  pub joined : united_words (children_in (left_words r)) (children_in (right_words r)) (sep_of r.above r.place) v.read.left.node.low v.read.right.node.high v.read.left.node.level ≡ united_words (children_in (left_words r)) (children_in (right_words r)) (sep_of r.above r.place) w.read.left.node.low w.read.right.node.high w.read.left.node.level

module _ (p q : Past) (c : Continues p q) where
  unfoldable link-in-stays : (k : ℕ) (link : Link) → IsLinkIn k link p → IsLinkIn k link q
  unfolding guard-stays under-stays child-stays
  link-in-stays k link o = record { guard = guard-stays p q c link o.guard; under = under-stays p q c link o.guard.guarded (omega (arith, o.guard.order, o.guard.now)) o.under; parent = o.parent }

  link-guarded : (k : ℕ) (link : Link) (o : IsLinkIn k link p) → (link-in-stays k link o).guard.guarded ≡ o.guard.guarded
  unfolding link-in-stays guard-stays
  link-guarded k link o = refl

  unfoldable links-stay : (upper middle lower : Link) → HasLinks upper middle lower p → HasLinks upper middle lower q
  links-stay upper middle lower v = record {
    under = v.under;
    guard = guard-stays p q c upper v.guard;
    parent = link-in-stays upper.slot middle v.parent;
    own = link-in-stays middle.slot lower v.own;
    small = v.small;
    parent_at = v.parent_at;
    is_parent_at = link-guarded upper.slot middle v.parent ∙ v.is_parent_at;
    own_at = v.own_at;
    is_own_at = link-guarded middle.slot lower v.own ∙ v.is_own_at;
  }

  leaf-stays : (link : Link) → EndsAtLeaf p link → EndsAtLeaf q link
  leaf-stays link v = record {
    was = v.was;
    since = omega (arith, v.since, c.since);
    now = omega (arith, v.now, c.now);
    reached = ap (λ (x : Instant). x.reached link.slot) (c.at v.was v.now) ∙ v.reached;
    leaf = (λ t. (page_at (c.config t) (c.at v.was v.now t) link.slot).level) ∙ v.leaf;
  }

  unfoldable open-node-stays : (k m : ℕ) (read : List ℕ) → WasOpen k m read p → WasOpen k m read q
  open-node-stays k m read v = record {
    since = omega (arith, v.since, c.since);
    now = omega (arith, v.now, c.now);
    node = inner-stays p q c k m read v.now v.node;
    plain = v.plain;
    thawed = v.thawed;
  }

  stood-at-stays : (k m level : ℕ) (low high : Option (List ℕ)) → m ≤ p.now → StoodAt k m level low high p → StoodAt k m level low high q
  stood-at-stays k m level low high l v = record {
    reached = ap (λ (x : Instant). x.reached k) (c.at m l) ∙ v.reached;
    inside = (λ t. is_inside (c.config t) (c.at m l t) k) ∙ v.inside;
    level_is = (λ t. (form_at (c.config t) (c.at m l t)).level k) ∙ v.level_is;
    low_is = (λ t. (form_at (c.config t) (c.at m l t)).low k) ∙ v.low_is;
    high_is = (λ t. (form_at (c.config t) (c.at m l t)).high k) ∙ v.high_is;
  }

  beside-stays : (a b m : ℕ) (sep : List ℕ) → StoodBeside a b m sep p → StoodBeside a b m sep q
  beside-stays a b m sep v = record {
    since = omega (arith, v.since, c.since);
    now = omega (arith, v.now, c.now);
    level = v.level;
    low = v.low;
    high = v.high;
    inner = v.inner;
    left = stood-at-stays a m v.level v.low (Some sep) v.now v.left;
    right = stood-at-stays b m v.level (Some sep) v.high v.now v.right;
    key = v.key;
    above = v.above;
    below = v.below;
  }

  above-stays : (r : Joining) (place : ℕ) → IsReadingAbove r place p → IsReadingAbove r place q
  unfolding links-stay
  above-stays r place v = record {
    links = links-stay r.upper r.middle r.lower v.links;
    were = read-stays p q c r.upper.slot v.links.parent_at r.middle.status place r.above v.were;
    own = read-stays p q c r.middle.slot v.links.own_at r.lower.status 1 r.own v.own;
  }

  unfoldable paired-stays : (r : Joining) → IsPaired r p → IsPaired r q
  unfolding links-stay
  paired-stays r v = record {
    links = links-stay r.upper r.middle r.lower v.links;
    parent = open-node-stays r.upper.slot v.links.parent_at r.above v.parent;
    pair = v.pair;
    apart = v.apart;
    at = v.at;
    later = v.later;
    stood = beside-stays (left_slot r) (right_slot r) v.at (sep_of r.above r.place) v.stood;
  }

  own-stays : (r : Joining) (place : ℕ) → IsReadingOwn r place p → IsReadingOwn r place q
  unfolding paired-stays links-stay
  own-stays r place v = record {
    paired = paired-stays r v.paired;
    were = read-stays p q c r.middle.slot v.paired.links.own_at r.lower.status place r.own v.were;
  }

  unfoldable has-own-stays : (r : Joining) → HasOwn r p → HasOwn r q
  unfolding paired-stays links-stay
  has-own-stays r v = record { paired = paired-stays r v.paired; own = open-node-stays r.middle.slot v.paired.links.own_at r.own v.own }

  neighbour-stays : (r : Joining) (place : ℕ) → IsReadingBeside r place p → IsReadingBeside r place q
  unfolding has-own-stays paired-stays
  neighbour-stays r place v = record {
    has = has-own-stays r v.has;
    at = v.at;
    later = v.later;
    now = omega (arith, v.now, c.now);
    status = (λ t. words (c.config t) (c.at v.at v.now t) r.beside_slot STATUS_AT) ∙ v.status;
    thawed = v.thawed;
    were = read-stays p q c r.beside_slot v.at (slice_index r.beside STATUS_AT) place r.beside v.were;
  }

  unfoldable together-stays : (a b k ma mb mk i : ℕ) (ra rb rk sep : List ℕ) → AreReadTogether a b k ma mb mk i ra rb rk sep p → AreReadTogether a b k ma mb mk i ra rb rk sep q
  together-stays a b k ma mb mk i ra rb rk sep v = record {
    left = open-node-stays a ma ra v.left;
    right = open-node-stays b mb rb v.right;
    parent = open-node-stays k mk rk v.parent;
    within = v.within;
    left_child = v.left_child;
    right_child = v.right_child;
    separator = v.separator;
  }

  unfoldable pub planned-stays : (r : Joining) → ArePlanned r p → ArePlanned r q
  unfolding together-stays open-node-stays inner-stays
  planned-stays r v = record {
    under = v.under;
    guard = guard-stays p q c r.upper v.guard;
    small = v.small;
    pair = v.pair;
    apart = v.apart;
    left_at = v.left_at;
    right_at = v.right_at;
    above_at = v.above_at;
    read = together-stays (left_slot r) (right_slot r) r.upper.slot v.left_at v.right_at v.above_at r.place (left_words r) (right_words r) r.above (sep_of r.above r.place) v.read;
    meet = subst (λ (z : Config). MeetAt z.nodes (left_words r) (right_words r) (sep_of r.above r.place) v.read.left.node.level v.read.left.node.low v.read.right.node.high) (sym c.config) v.meet;
  }

  -- the new nodes are made of the same nodes
  pub planned-same : (r : Joining) (v : ArePlanned r p) → AreSame r v (planned-stays r v)
  unfolding planned-stays together-stays open-node-stays inner-stays
  planned-same r v = record { root = refl; joined = refl }

  pub joining-stays : (r : Joining) → AreJoining r p → AreJoining r q
  unfolding planned-stays together-stays open-node-stays inner-stays
  joining-stays r v = record {
    planned = planned-stays r v.planned;
    over = v.over;
    one = subst (λ (z : Config). IsOneOf z.nodes (left_words r) (right_words r) (sep_of r.above r.place) v.planned.read.left.node.level v.planned.read.left.node.low v.planned.read.right.node.high (r.image 1)) (sym c.config) v.one;
  }

  pub joined-stays : (upper middle : Link) → WasJoined upper middle p → WasJoined upper middle q
  unfolding together-stays open-node-stays inner-stays
  joined-stays upper middle v = record {
    right = v.right;
    place = v.place;
    beside = v.beside;
    above = v.above;
    left = v.left;
    other = v.other;
    left_at = v.left_at;
    right_at = v.right_at;
    above_at = v.above_at;
    root_slot = v.root_slot;
    joined_slot = v.joined_slot;
    before = v.before;
    since = omega (arith, v.since, c.since);
    now = omega (arith, v.now, c.now);
    pair = v.pair;
    read = together-stays (first_of v.right middle.slot v.beside) (second_of v.right middle.slot v.beside) upper.slot v.left_at v.right_at v.above_at v.place v.left v.other v.above (sep_of v.above v.place) v.read;
    room = v.room;
    led = ap (λ (x : Instant). x.value ROOT_AT) (c.at (v.before + 1) v.now) ∙ v.led;
    root = stood-stays p q c upper v.above v.above v.above v.root_slot v.before _ v.now v.root;
    joined = stood-stays p q c upper v.above v.above v.above v.joined_slot v.before _ v.now v.joined;
  }

  not-small-stays : (upper middle lower : Link) → WasNotSmall upper middle lower p → WasNotSmall upper middle lower q
  not-small-stays upper middle lower v = record {
    under = v.under;
    guard = guard-stays p q c upper v.guard;
    why = elim v.why [
      | inl e ↦ inl (leaf-stays upper e)
      | inr f ↦ inr (elim f [
        | inl e ↦ inl (link-in-stays upper.slot middle e.0, leaf-stays middle e.1)
        | inr e ↦ inr (link-in-stays upper.slot middle e.0, (link-in-stays middle.slot lower e.1.0, e.1.1))
      ])
    ];
  }

  no-room-stays : (upper middle lower : Link) → HadNoRoom upper middle lower p → HadNoRoom upper middle lower q
  no-room-stays upper middle lower v = elim v [
    | inl e ↦ inl (not-small-stays upper middle lower e)
    | inr f ↦ inr (elim f [
      | inl e ↦ inl (record { at = e.at; above = e.above; parent = open-node-stays upper.slot e.at e.above e.parent; only = e.only })
      | inr e ↦ inr (record {
        right = e.right;
        place = e.place;
        beside = e.beside;
        above = e.above;
        left = e.left;
        other = e.other;
        left_at = e.left_at;
        right_at = e.right_at;
        above_at = e.above_at;
        pair = e.pair;
        read = together-stays (first_of e.right middle.slot e.beside) (second_of e.right middle.slot e.beside) upper.slot e.left_at e.right_at e.above_at e.place e.left e.other e.above (sep_of e.above e.place) e.read;
        many = e.many;
      })
    ])
  ]

  begins-stay : (small : Bool) (r : Joining) → joining_begins small r p → joining_begins small r q
  begins-stay true r v = above-stays r 1 v
  begins-stay false r v = not-small-stays r.upper r.middle r.lower v

module _ (r : Joining) (sound : IsSoundPlan (joining_plan r)) (s after : Scene) (l : IsLawful s after) where
  filled : HasFilled s → HasFilled after
  filled f k t = l.filled k ∙ f k (sym (l.took k) ∙ t)

  pub stable : (phase : JoinPhase) (stage : Stage) → joining_facts r phase stage s → joining_facts r phase stage after
  stable Fresh Waiting f = begins-stay s.past after.past l.continues r.small r f
  stable Pointer Waiting f = (filled f.0, not-small-stays s.past after.past l.continues r.upper r.middle r.lower f.1)
  stable (Above i) Waiting f = (filled f.0, (f.1.0, (f.1.1.0, above-stays s.past after.past l.continues r i f.1.1.1)))
  stable AboveAgain Waiting f = (filled f.0, above-stays s.past after.past l.continues r NODE_WORDS f.1)
  stable (Own i) Waiting f = (filled f.0, (f.1.0, (f.1.1.0, own-stays s.past after.past l.continues r i f.1.1.1)))
  stable OwnAgain Waiting f = (filled f.0, own-stays s.past after.past l.continues r NODE_WORDS f.1)
  stable Status Waiting f = (filled f.0, has-own-stays s.past after.past l.continues r f.1)
  stable (Beside i) Waiting f = (filled f.0, (f.1.0, (f.1.1.0, neighbour-stays s.past after.past l.continues r i f.1.1.1)))
  stable BesideAgain Waiting f = (filled f.0, neighbour-stays s.past after.past l.continues r NODE_WORDS f.1)
  stable NoRoom Waiting f = (filled f.0, no-room-stays s.past after.past l.continues r.upper r.middle r.lower f.1)
  stable (Writing w) stage f = writer-stable (joining_plan r) sound s after l w stage f
  stable phase Took f = absurd (f)

-- it stays where no slot is taken
module _ (r : Joining) (s : Scene) (free : FreeSlots) where
  pub no-slot : (phase : JoinPhase) → joining_facts r phase Waiting s → joining_facts r phase Waiting (gained s free free)
  no-slot Fresh f = f
  no-slot (Writing w) f = writer-no-slot (joining_plan r) s free w f
  no-slot phase f = (nothing_is_gained s free f.0, f.1)
