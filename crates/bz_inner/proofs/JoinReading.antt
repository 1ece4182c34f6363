-- What is known of the three nodes while their words are read.
use Rattle.std.proofs.Common.{◌≡◌, ℕ, ◌+◌, ◌<◌, ◌≤◌, if◌then◌else◌, Bool, true, false, List, slice_index, slice_set, arith, refl, sym, subst, ◌∙◌}
use Rattle.std.specs.Prelude.{nat_lt}
use Rattle.std.proofs.lemmas.Bool.Decides.{nat_tests}
use Rattle.std.proofs.lemmas.List.{get_or-set_other}
use Rattle.bz_gaps.specs.FreeWords.{IsFree}
use Rattle.bz_layout.specs.Addresses.{node_address}
use Rattle.bz_layout.specs.declared.sizes.TheConstants.{NODE_WORDS, STATUS_AT}
use Rattle.bz_slotted.specs.ReadingLaws.{node_of}
use Rattle.bz_task.specs.Requests.{Answers}
use Rattle.bz_task.specs.Scene.{Past, Scene, Waiting, IsScene, HasFilled}
use Rattle.bz_task.specs.declared.path.Link.{Link}
use Rattle.bz_renew.specs.Due.{IsStatusOf}
use Rattle.bz_below.proofs.ReadWords.{kept}
use Rattle.bz_below.specs.Parents.{WereRead}
use Rattle.bz_inner.specs.JoinFacts.{joining_facts, above_after, own_after, beside_after}
use Rattle.bz_inner.specs.Joinings.{Joining, HasLinks, IsReadingAbove, IsPaired, IsReadingOwn, HasOwn, IsReadingBeside}
use Rattle.bz_inner.specs.LowerFacts.{IsLinkIn}
use Rattle.bz_inner.specs.declared.join_phase.JoinPhase.TheVariants.{Above, AboveAgain, Own, OwnAgain, Beside, BesideAgain}

-- the task with other words of one of the three
abbrev pub with_above : Joining → List ℕ → Joining
with_above r read = record r { above = read }

abbrev pub with_own : Joining → List ℕ → Joining
with_own r read = record r { own = read }

abbrev pub with_beside : Joining → List ℕ → Joining
with_beside r read = record r { beside = read }

-- what was known of the others is known still
unfoldable pub same-paired : (r : Joining) (read : List ℕ) (p : Past) → IsPaired r p → IsPaired (with_own r read) p
same-paired r read p v = record { links = v.links; parent = v.parent; pair = v.pair; apart = v.apart; at = v.at; later = v.later; stood = v.stood }

unfoldable pub paired-beside : (r : Joining) (read : List ℕ) (p : Past) → IsPaired r p → IsPaired (with_beside r read) p
paired-beside r read p v = record { links = v.links; parent = v.parent; pair = v.pair; apart = v.apart; at = v.at; later = v.later; stood = v.stood }

unfoldable pub own-beside : (r : Joining) (read : List ℕ) (p : Past) → HasOwn r p → HasOwn (with_beside r read) p
unfolding paired-beside
own-beside r read p v = record { paired = paired-beside r read p v.paired; own = v.own }

-- the slot of a node in which a link stands
pub link-slot : (s : Scene) (k : ℕ) (link : Link) → IsScene s → IsLinkIn k link s.past → k < s.past.config.nodes
link-slot s k link good o = (good.history.good o.guard.guarded o.guard.since (omega (arith, o.guard.order, o.guard.now))).slots k (subst (λ z. (s.past.at o.guard.guarded).reached z ≡ true) o.parent o.under.reached)

-- the moments at which the statuses were read are past
pub parent-past : (upper middle lower : Link) (p : Past) (v : HasLinks upper middle lower p) → v.parent_at ≤ p.now
parent-past upper middle lower p v = omega (arith, v.parent.guard.order, v.parent.guard.now, v.is_parent_at)

pub own-past : (upper middle lower : Link) (p : Past) (v : HasLinks upper middle lower p) → v.own_at ≤ p.now
own-past upper middle lower p v = omega (arith, v.own.guard.order, v.own.guard.now, v.is_own_at)

-- after a word; those between it and the next one that is read are free
module _ (r : Joining) (i j v : ℕ) (s : Scene) (some : 0 < i) (l : i < NODE_WORDS) (after : i < j) where
  pub above-read : IsReadingAbove r i s.past → ((q : ℕ) → i < q → q < j → IsFree (node_of (slice_set r.above i v)) q) → Answers s (node_address s.past.config r.upper.slot + i) v → IsReadingAbove (with_above r (slice_set r.above i v)) j s.past
  above-read f skipped a = record {
    links = f.links;
    were = kept r.upper.slot f.links.parent_at r.middle.status i j v r.above s (parent-past r.upper r.middle r.lower s.past f.links) some l after f.were skipped a;
    own = f.own;
  }

  pub own-read : IsReadingOwn r i s.past → ((q : ℕ) → i < q → q < j → IsFree (node_of (slice_set r.own i v)) q) → Answers s (node_address s.past.config r.middle.slot + i) v → IsReadingOwn (with_own r (slice_set r.own i v)) j s.past
  unfolding same-paired
  own-read f skipped a = record {
    paired = same-paired r (slice_set r.own i v) s.past f.paired;
    were = kept r.middle.slot f.paired.links.own_at r.lower.status i j v r.own s (own-past r.upper r.middle r.lower s.past f.paired.links) some l after f.were skipped a;
  }

-- the phase after a word
next-phase : (j : ℕ) → j ≤ NODE_WORDS → nat_lt j NODE_WORDS ≡ false → j ≡ NODE_WORDS
next-phase j l e = let past : NODE_WORDS ≤ j = grind (arith, nat_tests) in omega (arith, past, l)

pub above-next : (r : Joining) (j : ℕ) (s : Scene) → HasFilled s → 0 < j → j ≤ NODE_WORDS → IsReadingAbove r j s.past → joining_facts r (above_after j) Waiting s
above-next r j s filled some l f = choose (nat_lt j NODE_WORDS) refl
  where
    choose : (b : Bool) → nat_lt j NODE_WORDS ≡ b → joining_facts r (if b then Above j else AboveAgain) Waiting s
    choose true e = (filled, (some, ((let k : j < NODE_WORDS = grind (arith, nat_tests) in k), f)))
    choose false e = (filled, subst (λ z. IsReadingAbove r z s.past) (next-phase j l e) f)

pub own-next : (r : Joining) (j : ℕ) (s : Scene) → HasFilled s → 0 < j → j ≤ NODE_WORDS → IsReadingOwn r j s.past → joining_facts r (own_after j) Waiting s
own-next r j s filled some l f = choose (nat_lt j NODE_WORDS) refl
  where
    choose : (b : Bool) → nat_lt j NODE_WORDS ≡ b → joining_facts r (if b then Own j else OwnAgain) Waiting s
    choose true e = (filled, (some, ((let k : j < NODE_WORDS = grind (arith, nat_tests) in k), f)))
    choose false e = (filled, subst (λ z. IsReadingOwn r z s.past) (next-phase j l e) f)

pub beside-next : (r : Joining) (j : ℕ) (s : Scene) → HasFilled s → 0 < j → j ≤ NODE_WORDS → IsReadingBeside r j s.past → joining_facts r (beside_after j) Waiting s
beside-next r j s filled some l f = choose (nat_lt j NODE_WORDS) refl
  where
    choose : (b : Bool) → nat_lt j NODE_WORDS ≡ b → joining_facts r (if b then Beside j else BesideAgain) Waiting s
    choose true e = (filled, (some, ((let k : j < NODE_WORDS = grind (arith, nat_tests) in k), f)))
    choose false e = (filled, subst (λ z. IsReadingBeside r z s.past) (next-phase j l e) f)

-- a word of the neighbour: its status stays the first one
module _ (r : Joining) (i j v : ℕ) (s : Scene) (some : 0 < i) (l : i < NODE_WORDS) (after : i < j) where
  first-same : slice_index (slice_set r.beside i v) STATUS_AT ≡ slice_index r.beside STATUS_AT
  first-same = get_or-set_other r.beside i STATUS_AT v 0 (λ e. absurd (omega (arith, e, some)))

  pub beside-read : IsReadingBeside r i s.past → ((q : ℕ) → i < q → q < j → IsFree (node_of (slice_set r.beside i v)) q) → Answers s (node_address s.past.config r.beside_slot + i) v → IsReadingBeside (with_beside r (slice_set r.beside i v)) j s.past
  unfolding own-beside paired-beside
  beside-read f skipped a = record {
    has = own-beside r (slice_set r.beside i v) s.past f.has;
    at = f.at;
    later = f.later;
    now = f.now;
    status = f.status ∙ sym first-same;
    thawed = subst (IsStatusOf false) (sym first-same) f.thawed;
    were = subst (λ z. WereRead r.beside_slot f.at z j (slice_set r.beside i v) s.past) (sym first-same) (kept r.beside_slot f.at (slice_index r.beside STATUS_AT) i j v r.beside s f.now some l after f.were skipped a);
  }
