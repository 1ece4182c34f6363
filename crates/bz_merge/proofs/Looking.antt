-- What another look at the guard of the link to the parent leads to, and teaches.
use Rattle.std.proofs.Common.{◌≡◌, ◌≢◌, ◌⊎◌, ℕ, zero, suc, ◌+◌, ◌<◌, ◌≤◌, Bool, true, false, List, length, arith, refl, sym, ap, subst, ◌∙◌, inl, inr, Some}
use Rattle.std.specs.Prelude.{All}
use Rattle.bz_layout.specs.Addresses.{node_address, SlotsApart}
use Rattle.bz_layout.specs.Slots.{FreeSlots}
use Rattle.bz_layout.specs.declared.config.Config.{Config}
use Rattle.bz_layout.specs.declared.sizes.TheConstants.{NODE_WORDS, STATUS_AT}
use Rattle.bz_layout.specs.declared.thresholds.TheConstants.{SPLIT_ABOVE}
use Rattle.bz_node.specs.Reading.{children_in}
use Rattle.bz_slotted.specs.Readers.{live_of}
use Rattle.bz_slotted.specs.ReadingLaws.{node_of}
use Rattle.bz_word.specs.Statuses.{status}
use Rattle.bz_join.specs.Parents.{joined, IsJoinedParent, ChildrenJoin}
use Rattle.bz_task.specs.Instant.{form_at}
use Rattle.bz_task.specs.Laws.{NothingIsGained}
use Rattle.bz_task.specs.Outcomes.{IsGuarded, IsUnderRoot, IsUnderNode}
use Rattle.bz_task.specs.OwnActs.{AreUnreached, gained}
use Rattle.bz_task.specs.Requests.{Answers, Hears, Tells}
use Rattle.bz_task.specs.Scene.{Past, Scene, Stage, Waiting, Took, IsScene, HasFilled, here}
use Rattle.bz_task.specs.declared.path.Link.{Link}
use Rattle.bz_task.specs.declared.todo.Seen.{Seen}
use Rattle.bz_task.specs.declared.todo.Seen.TheVariants.{Start, Read as Was, Stored, Flushed, Swapped, NoSwap as NoneLeft}
use Rattle.bz_task.specs.declared.todo.Outcome.TheVariants.{Restart as Restarts}
use Rattle.bz_renew.specs.Nodes.{ArePlain, HaveSlots, HasFilledBegun}
use Rattle.bz_renew.specs.Standing.{StillLeads, GuardedLinksStand}
use Rattle.bz_renew.proofs.Guards.{answered-as-read}
use Rattle.bz_renew.proofs.NodeWrites.{nodes-taken, none-begun}
use Rattle.bz_renew.proofs.Plainness.{IsPlain, inner-plain}
use Rattle.bz_merge.specs.Decisions.{MayMerge, HasBegun, HasLooked}
use Rattle.bz_merge.specs.Facts.{AreFrozen, IsMerging, SomeFitted, merge_asks, merge_end, merge_facts, merge_differs}
use Rattle.bz_merge.specs.OwnFreezes.{FrozeAfter, ViewedWasFrozen, BothWereFrozen}
use Rattle.bz_merge.specs.Plans.{Merging, merge_nodes, viewed_leaf, beside_leaf, first_of, second_of, own_place, other_place, IsPaired, IsPlanned}
use Rattle.bz_merge.specs.Siblings.{SeenLeaf}
use Rattle.bz_merge.specs.declared.phase.MergePhase.{MergePhase}
use Rattle.bz_merge.specs.declared.phase.MergePhase.TheVariants.{Fresh, Word, Again, Beside, Parent, Still, Freeze, FreezeBeside, Guard, Store, Flush, Swap, Done, Restart, NoNeighbour, NoSlot, NoSwap}
use Rattle.bz_merge.proofs.Reading.{answered}
use Rattle.bz_merge.proofs.Readying.{may-merge}

-- the two hang side by side
side-by-side : (right : Bool) (place : ℕ) → (other_place right place ≡ own_place right place + 1) ⊎ (other_place right place + 1 ≡ own_place right place)
side-by-side true place = inl refl
side-by-side false place = inr refl

both-live : (right : Bool) (own other : SeenLeaf) → live_of (node_of (first_of right own other).image) + live_of (node_of (second_of right own other).image) ≤ SPLIT_ABOVE → live_of (node_of own.image) + live_of (node_of other.image) ≤ SPLIT_ABOVE
both-live true own other l = l
both-live false own other l = omega (arith, l)

-- so what is planned tells that a neighbour fitted
some-fitted : (r : Merging) (p : Past) → IsPlanned r p → SomeFitted r.lower r.status r.leaf p
some-fitted r p f = record {
  at = f.paired.viewed.at;
  low = f.paired.viewed.low;
  high = f.paired.viewed.high;
  viewed = f.paired.viewed.seen;
  few = f.paired.viewed.few;
  other = beside_leaf r;
  own_place = own_place r.right r.place;
  place = other_place r.right r.place;
  next = side-by-side r.right r.place;
  beside = f.beside;
  later = f.later;
  room = both-live r.right (viewed_leaf r) (beside_leaf r) f.room;
}

-- the upper link and its guard are no status of the node to which the link leads
record IsClear (s : Scene) (upper : Link) : Type 0 where
  link : upper.link ≢ node_address s.past.config upper.slot + STATUS_AT
  guard : upper.guard ≢ node_address s.past.config upper.slot + STATUS_AT

clear-of : GuardedLinksStand → SlotsApart → (s : Scene) (upper : Link) → IsScene s → (g : IsGuarded s.past upper) → (status upper.status).frozen ≡ false → (here s).value upper.guard ≡ upper.status → IsClear s upper
clear-of stand apart s upper good g thawed now = elim g.under [ inl u ↦ at-root u | inr u ↦ at-node u ]
  where
    at-root : IsUnderRoot upper → IsClear s upper
    at-root u = record { link = λ e. absurd (omega (arith, e, u.pointer)); guard = λ e. absurd (omega (arith, e, u.guard)) }

    not-itself : (u : IsUnderNode s.past upper g.guarded) → u.parent ≢ upper.slot
    not-itself u e =
        let leads : StillLeads upper s g.guarded u.parent u.child.child = stand s upper good g thawed u now in
        absurd (omega (arith, leads.stands.level, ap (form_at s.past.config (here s)).level e))

    at-node : IsUnderNode s.past upper g.guarded → IsClear s upper
    at-node u = record {
      link = λ e. not-itself u (apart s.past.config u.parent upper.slot u.place STATUS_AT u.within (omega arith) (sym u.pointer ∙ e)).0;
      guard = λ e. not-itself u (apart s.past.config u.parent upper.slot STATUS_AT STATUS_AT (omega arith) (omega arith) (sym u.guard ∙ e)).0;
    }

-- the task with other slots and words for its two nodes
abbrev pub with_nodes : Merging → (ℕ → ℕ) → (ℕ → List ℕ) → Merging
with_nodes r slot image = record r { slot = slot; image = image }

same-paired : (r : Merging) (slot : ℕ → ℕ) (image : ℕ → List ℕ) (p : Past) → IsPaired r p → IsPaired (with_nodes r slot image) p
same-paired r slot image p f = record { viewed = f.viewed; parent = f.parent; pair = f.pair; tried = f.tried }

same-plan : (r : Merging) (slot : ℕ → ℕ) (image : ℕ → List ℕ) (p : Past) → IsPlanned r p → IsPlanned (with_nodes r slot image) p
unfolding same-paired
same-plan r slot image p f = record {
  paired = same-paired r slot image p f.paired;
  low = f.low;
  high = f.high;
  low_is = f.low_is;
  high_is = f.high_is;
  above = f.above;
  below = f.below;
  first_at = f.first_at;
  second_at = f.second_at;
  first = f.first;
  second = f.second;
  beside = f.beside;
  later = f.later;
  room = f.room;
}

-- its freezes too were planned
same-froze : (r : Merging) (slot : ℕ → ℕ) (image : ℕ → List ℕ) (l : SeenLeaf) (s : Scene) (p : Past) → FrozeAfter r l s p → FrozeAfter (with_nodes r slot image) l s p
same-froze r slot image l s p f = record { thawed = f.thawed; planned = same-plan r slot image s.past f.planned; earlier = f.earlier; effects = f.effects; others = f.others }

same-viewed : (r : Merging) (slot : ℕ → ℕ) (image : ℕ → List ℕ) (p : Past) → ViewedWasFrozen r p → ViewedWasFrozen (with_nodes r slot image) p
same-viewed r slot image p (inl e) = inl e
same-viewed r slot image p (inr f) = inr (record { before = f.before; froze = same-froze r slot image (viewed_leaf r) f.before p f.froze })

same-both : (r : Merging) (slot : ℕ → ℕ) (image : ℕ → List ℕ) (p : Past) → BothWereFrozen r p → BothWereFrozen (with_nodes r slot image) p
same-both r slot image p (inl e) = inl (e.0, same-viewed r slot image p e.1)
same-both r slot image p (inr f) = inr (record { before = f.before; froze = same-froze r slot image (beside_leaf r) f.before p f.froze; viewed = same-viewed r slot image f.before.past f.viewed })

same-frozen : (r : Merging) (slot : ℕ → ℕ) (image : ℕ → List ℕ) (p : Past) → AreFrozen r p → AreFrozen (with_nodes r slot image) p
same-frozen r slot image p f = record { planned = same-plan r slot image p f.planned; own = f.own; other = f.other; froze = same-both r slot image p f.froze }

guard-waits : (r : Merging) (stage : Stage) (s : Scene) → merge_facts r Guard stage s → HasFilled s × AreFrozen r s.past
guard-waits r Waiting s f = f
guard-waits r Took s f = absurd (f)

-- the new nodes may be made
pub look-may : (c : Config) (r : Merging) (nodes : ℕ) (stage : Stage) (s : Scene) → s.past.config ≡ c → nodes ≡ c.nodes → merge_facts r Guard stage s → MayMerge nodes r
look-may c r nodes stage s same is f = subst (λ z. MayMerge z r) (sym is) (subst (λ (z : Config). MayMerge z.nodes r) same (may-merge r s (guard-waits r stage s f).1.planned))

-- the two nodes are words that may be stored
module _ (law : ChildrenJoin) (r : Merging) (s : Scene) (good : IsScene s) (f : IsPlanned r s.past) (old new : FreeSlots) (j : ℕ) (h : HasBegun r (Store j) old new) (nodes : old.nodes ≡ s.past.config.nodes) where
  pub slots : HaveSlots s.past.config.nodes (merge_nodes r)
  slots = subst (λ z. HaveSlots z (merge_nodes r)) nodes h.1.0.slots

  is-joined : IsJoinedParent s.past.config.nodes r.read f.paired.parent.level f.paired.parent.low f.paired.parent.high r.place (r.slot 1)
  is-joined = law s.past.config.nodes f.paired.parent.raw r.read f.paired.parent.level f.paired.parent.low f.paired.parent.high r.place (r.slot 1)
      (record { few = f.paired.parent.few; size = f.paired.parent.size; inner = f.paired.parent.inner; none = f.paired.parent.none; within = f.paired.pair.counted }) (slots.within 1 (omega arith))

  parent-plain : All IsPlain (r.image 0)
  parent-plain =
      subst (All IsPlain) (sym (h.1.1.0 s.past.config.nodes f.paired.parent.raw f.paired.parent.level f.paired.parent.low f.paired.parent.high f.paired.parent.none))
      (inner-plain (joined (children_in r.read) r.place (r.slot 1)) f.paired.parent.low f.paired.parent.high f.paired.parent.level is-joined.each is-joined.low_bound is-joined.high_bound (omega (arith, is-joined.levels)) is-joined.room)

  sizes : (n : ℕ) → n < 2 → length (r.image n) ≡ NODE_WORDS
  sizes zero l = h.1.1.1.0
  sizes (suc zero) l = h.1.1.1.1.size
  sizes (suc (suc n)) l = absurd (omega (arith, l))

  plains : (n : ℕ) → n < 2 → All IsPlain (r.image n)
  plains zero l = parent-plain
  plains (suc zero) l = h.1.1.1.1.plain
  plains (suc (suc n)) l = absurd (omega (arith, l))

  pub are-plain : ArePlain (merge_nodes r)
  are-plain = record { size = sizes; plain = plains }

-- the slots were taken, and so the first store is known
begun-knows : SlotsApart → ChildrenJoin → NothingIsGained → (r : Merging) (phase : MergePhase) (s : Scene) (old new : FreeSlots) → IsScene s → HasBegun r phase old new → old.nodes ≡ s.past.config.nodes → AreUnreached s old → HasFilled s → AreFrozen r s.past → Answers s r.upper.guard r.upper.status → IsClear s r.upper
    → merge_facts r phase Waiting (gained s old new)
begun-knows apart law nothing r (Store j) s old new good h nodes unreached filled v a clear =
    let first : IsMerging r 0 0 (gained s old new) = record {
      frozen = v;
      since = s.past.now;
      own_first = v.own.now;
      other_first = v.other.now;
      looked = answered-as-read s r.upper s.past.now (omega arith) a;
      link_apart = clear.link;
      guard_apart = clear.guard;
      over = h.1.1.0;
      one = h.1.1.1.1;
      plain = are-plain law r s good v.planned old new j h nodes;
      writing = nodes-taken apart (merge_nodes r) s old new h.1.0 nodes unreached;
    } in (
      subst (λ z. HasFilledBegun (merge_nodes r) z (gained s old new)) (sym h.0) (none-begun apart (merge_nodes r) s old new h.1.0 nodes unreached filled),
      (omega (arith, h.0), subst (λ z. IsMerging r z 0 (gained s old new)) (sym h.0) first),
    )
begun-knows apart law nothing r NoSlot s old new good h nodes unreached filled v a clear = (subst (λ z. HasFilled (gained s old z)) (sym h.1) (nothing s old filled), some-fitted r s.past v.planned)
begun-knows apart law nothing r Fresh s old new good h nodes unreached filled v a clear = absurd (h)
begun-knows apart law nothing r (Word i) s old new good h nodes unreached filled v a clear = absurd (h)
begun-knows apart law nothing r Again s old new good h nodes unreached filled v a clear = absurd (h)
begun-knows apart law nothing r (Beside i) s old new good h nodes unreached filled v a clear = absurd (h)
begun-knows apart law nothing r Parent s old new good h nodes unreached filled v a clear = absurd (h)
begun-knows apart law nothing r Still s old new good h nodes unreached filled v a clear = absurd (h)
begun-knows apart law nothing r Freeze s old new good h nodes unreached filled v a clear = absurd (h)
begun-knows apart law nothing r FreezeBeside s old new good h nodes unreached filled v a clear = absurd (h)
begun-knows apart law nothing r Guard s old new good h nodes unreached filled v a clear = absurd (h)
begun-knows apart law nothing r (Flush j) s old new good h nodes unreached filled v a clear = absurd (h)
begun-knows apart law nothing r Swap s old new good h nodes unreached filled v a clear = absurd (h)
begun-knows apart law nothing r Done s old new good h nodes unreached filled v a clear = absurd (h)
begun-knows apart law nothing r Restart s old new good h nodes unreached filled v a clear = absurd (h)
begun-knows apart law nothing r NoNeighbour s old new good h nodes unreached filled v a clear = absurd (h)
begun-knows apart law nothing r NoSwap s old new good h nodes unreached filled v a clear = absurd (h)

-- the task before the look, with the nodes that it has after it, is the task after it
pub looked-learns : SlotsApart → ChildrenJoin → GuardedLinksStand → NothingIsGained → (c : Config) (o r : Merging) (q : MergePhase) (seen : Seen) (old new : FreeSlots) → r ≡ with_nodes o r.slot r.image → HasLooked r seen q old new → old.nodes ≡ c.nodes → (stage : Stage) (s : Scene) → s.past.config ≡ c → IsScene s → AreUnreached s old
    → merge_facts o Guard stage s → Tells (merge_asks c o Guard) stage seen s → merge_facts r q Waiting (gained s old new)
looked-learns apart law stand nothing c o r q seen old new same h nodes stage s config good free facts tells =
    let w = guard-waits o stage s facts in
    let v : AreFrozen r s.past = subst (λ z. AreFrozen z s.past) (sym same) (same-frozen o r.slot r.image s.past w.1) in
    let up : r.upper ≡ o.upper = ap (λ (z : Merging). z.upper) same in
    elim h [
      | inl g ↦ (
          let a : Answers s o.upper.guard o.upper.status = (answered o.upper.guard o.upper.status stage seen s (g.0 ∙ ap (λ (z : Link). Was z.status) up) tells).1 in
          let b : Answers s r.upper.guard r.upper.status = subst (λ (z : Link). Answers s z.guard z.status) (sym up) a in
          let i = v.planned.paired.viewed.links in
          begun-knows apart law nothing r q s old new good g.1 (nodes ∙ ap (λ z. z.nodes) (sym config)) free w.0 v b (clear-of stand apart s r.upper good i.upper_guard i.upper_thawed b.value))
      | inr g ↦ subst (λ z. merge_facts r z Waiting (gained s old new)) (sym g.1.0) (subst (λ z. HasFilled (gained s old z)) (sym g.1.1) (nothing s old w.0))
    ]

begun-no-restart : (r : Merging) (q : MergePhase) (old new : FreeSlots) → HasBegun r q old new → merge_end q ≡ Some Restarts → ⊥
begun-no-restart r (Store j) old new h e = absurd (cc)
begun-no-restart r NoSlot old new h e = absurd (cc)
begun-no-restart r Fresh old new h e = absurd (h)
begun-no-restart r (Word i) old new h e = absurd (h)
begun-no-restart r Again old new h e = absurd (h)
begun-no-restart r (Beside i) old new h e = absurd (h)
begun-no-restart r Parent old new h e = absurd (h)
begun-no-restart r Still old new h e = absurd (h)
begun-no-restart r Freeze old new h e = absurd (h)
begun-no-restart r FreezeBeside old new h e = absurd (h)
begun-no-restart r Guard old new h e = absurd (h)
begun-no-restart r (Flush j) old new h e = absurd (h)
begun-no-restart r Swap old new h e = absurd (h)
begun-no-restart r Done old new h e = absurd (h)
begun-no-restart r Restart old new h e = absurd (h)
begun-no-restart r NoNeighbour old new h e = absurd (h)
begun-no-restart r NoSwap old new h e = absurd (h)

other-guard : (c : Config) (o : Merging) (seen : Seen) → Hears (merge_asks c o Guard) seen → seen ≢ Was o.upper.status → merge_differs o Guard seen
other-guard c o (Was v) h ne = λ e. ne (ap Was e)
other-guard c o Start h ne = absurd (h)
other-guard c o Stored h ne = absurd (h)
other-guard c o Flushed h ne = absurd (h)
other-guard c o (Swapped won) h ne = absurd (h)
other-guard c o NoneLeft h ne = absurd (h)

-- where it ends with a restart, the guard was another one
pub looked-restarts : (c : Config) (o r : Merging) (q : MergePhase) (seen : Seen) (old new : FreeSlots) → r.upper ≡ o.upper → Hears (merge_asks c o Guard) seen → HasLooked r seen q old new → merge_end q ≡ Some Restarts → merge_differs o Guard seen
looked-restarts c o r q seen old new up hears h e = elim h [
  | inl g ↦ absurd (begun-no-restart r q old new g.1 e)
  | inr g ↦ other-guard c o seen hears (λ z. g.0 (z ∙ ap (λ (l : Link). Was l.status) (sym up)))
]
