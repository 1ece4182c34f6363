-- What the parent's status tells that is found again: first its words, and then that its children stand where they stood.
use Rattle.std.proofs.Common.{◌≡◌, ◌≢◌, ℕ, ◌+◌, ◌<◌, ◌⊎◌, Bool, true, false, List, arith, sym, subst, inl, inr}
use Rattle.bz_layout.specs.declared.config.Config.{Config}
use Rattle.bz_layout.specs.declared.sizes.TheConstants.{NODE_WORDS}
use Rattle.bz_slotted.specs.Readers.{count_of, child_of}
use Rattle.bz_slotted.specs.ReadingLaws.{node_of}
use Rattle.bz_task.specs.Instant.{words, form_at}
use Rattle.bz_task.specs.Requests.{Tells}
use Rattle.bz_task.specs.Scene.{Past, Scene, Stage, Waiting, Took, IsScene, HasFilled, here}
use Rattle.bz_task.specs.declared.todo.Seen.{Seen}
use Rattle.bz_task.specs.declared.todo.Seen.TheVariants.{Read as Was}
use Rattle.bz_merge.specs.Decisions.{IsParentOfLeaf, HasNoRight, HasTold}
use Rattle.bz_merge.specs.Facts.{merge_asks, merge_facts}
use Rattle.bz_merge.specs.Plans.{Merging, viewed_leaf, own_place, other_place, IsPair, IsViewed, IsReadingParent, IsTried, IsPaired, IsReadingBeside}
use Rattle.bz_merge.specs.Siblings.{WereRead, WasParentNode, IsChildAt, ParentsReadWere, ChildrenStand, HungFrom, StoodAsChild}
use Rattle.bz_merge.specs.declared.phase.MergePhase.{MergePhase}
use Rattle.bz_merge.specs.declared.phase.MergePhase.TheVariants.{Fresh, Word, Again, Beside, Parent, Still, Freeze, FreezeBeside, Guard, Store, Flush, Swap, Done, Restart, NoNeighbour, NoSlot, NoSwap}
use Rattle.bz_merge.specs.declared.sibling.Sibling.{Sibling}
use Rattle.bz_merge.proofs.Reading.{answered}
use Rattle.bz_merge.proofs.Readying.{leaf-once}

-- the parent that was read, and the leaf's place in it
pub record Known (r : Merging) (p : Past) : Type 0 where
  pub viewed : IsViewed r.upper r.lower (viewed_leaf r) p
  pub parent : WasParentNode r.upper.slot viewed.guarded r.read p
  pub place : ℕ
  pub child : IsChildAt r.read r.lower.slot place

known : ParentsReadWere → (r : Merging) (s : Scene) → IsScene s → IsReadingParent r NODE_WORDS s.past → (here s).value r.lower.guard ≡ r.lower.status → Known r s.past
known law r s good f now =
    let v = f.viewed in
    let h = law s r.upper r.lower r.read good v.links (leaf-once r s.past v) now (subst (λ g. WereRead r.upper.slot g r.lower.status NODE_WORDS r.read s.past) (sym v.is_guarded) f.were) in
    record {
      viewed = v;
      parent = subst (λ g. WasParentNode r.upper.slot g r.read s.past) v.is_guarded h.0;
      place = v.links.under.child.child;
      child = h.1;
    }

reading-waits : (r : Merging) (stage : Stage) (s : Scene) → merge_facts r Again stage s → HasFilled s × IsReadingParent r NODE_WORDS s.past
reading-waits r Waiting s f = f
reading-waits r Took s f = absurd (f)

module _ (law : ParentsReadWere) (c : Config) (r : Merging) (stage : Stage) (seen : Seen) (s : Scene) (same : s.past.config ≡ c) (good : IsScene s) (f : merge_facts r Again stage s) (t : Tells (merge_asks c r Again) stage seen s) where
  at-again : seen ≡ Was r.lower.status → Known r s.past
  at-again e = known law r s good (reading-waits r stage s f).1 (answered r.lower.guard r.lower.status stage seen s e t).1.value

  pub told-parent : seen ≡ Was r.lower.status → IsParentOfLeaf r.read r.lower.slot
  told-parent e = let k = at-again e in record { size = k.parent.size; reads = k.parent.reads; place = k.place; child = k.child }

  -- the task with the neighbour that is tried
  pub told-learns : (side : Sibling) (q : MergePhase) → HasTold r seen side q → merge_facts (record r { right = side.right; place = side.place; beside_slot = side.slot }) q Waiting s
  told-learns side (Beside i) h =
      let k = at-again h.1.0 in (
        (reading-waits r stage s f).0,
        (
          omega (arith, h.0),
          (record { viewed = k.viewed; parent = k.parent; pair = h.1.1.0; tried = none-right side h.1.1.0 h.1.1.1 }, λ some. absurd (omega (arith, some, h.0))),
        ),
      )
    where
      none-right : (side : Sibling) → IsPair r.read r.lower.slot side.right side.place side.slot → (side.right ≡ false → HasNoRight r.read r.lower.slot) → IsTried r.read r.leaf side.right side.place s.past
      none-right side p none e l =
          let at : IsChildAt r.read r.lower.slot (side.place + 1) = subst (λ b. IsChildAt r.read r.lower.slot (own_place b side.place)) e p.own in
          absurd (omega (arith, l, none e (side.place + 1) at))
  told-learns side NoNeighbour h =
      let k = at-again h.0 in (
        (reading-waits r stage s f).0,
        record {
          moment = k.viewed.guarded;
          read = r.read;
          place = k.place;
          since = omega (arith, k.viewed.links.guard.since, k.viewed.is_guarded);
          now = omega (arith, k.viewed.links.guard.order, k.viewed.links.guard.now, k.viewed.is_guarded);
          old = k.parent;
          own = k.child;
          right = λ l. absurd (omega (arith, l, h.1.0 k.place k.child));
          left = λ j e. absurd (omega (arith, e, h.1.1 k.place k.child));
        },
      )
  told-learns side Restart h = (reading-waits r stage s f).0
  told-learns side Fresh h = absurd (h)
  told-learns side (Word i) h = absurd (h)
  told-learns side Again h = absurd (h)
  told-learns side Parent h = absurd (h)
  told-learns side Still h = absurd (h)
  told-learns side Freeze h = absurd (h)
  told-learns side FreezeBeside h = absurd (h)
  told-learns side Guard h = absurd (h)
  told-learns side (Store j) h = absurd (h)
  told-learns side (Flush j) h = absurd (h)
  told-learns side Swap h = absurd (h)
  told-learns side Done h = absurd (h)
  told-learns side NoSlot h = absurd (h)
  told-learns side NoSwap h = absurd (h)

-- once the neighbour was read
parent-waits : (r : Merging) (stage : Stage) (s : Scene) → merge_facts r Parent stage s → HasFilled s × (IsPaired r s.past × IsReadingBeside r.beside_slot r.beside NODE_WORDS s.past)
parent-waits r Waiting s f = f
parent-waits r Took s f = absurd (f)

own-within : (right : Bool) (place count : ℕ) → place + 1 < count → own_place right place < count
own-within true place count l = omega (arith, l)
own-within false place count l = l

other-within : (right : Bool) (place count : ℕ) → place + 1 < count → other_place right place < count
other-within true place count l = l
other-within false place count l = omega (arith, l)

-- the parent at a moment that is the same
moved-parent : (k g h : ℕ) (read : List ℕ) (p : Past) → g ≡ h → WasParentNode k g read p → WasParentNode k h read p
moved-parent k g h read p e n = record {
  raw = n.raw;
  level = n.level;
  low = n.low;
  high = n.high;
  few = n.few;
  size = n.size;
  inner = n.inner;
  none = n.none;
  reads = n.reads;
  were = subst (λ z. words p.config (p.at z) k ≡ node_of read) e n.were;
  level_is = subst (λ z. (form_at p.config (p.at z)).level k ≡ n.level) e n.level_is;
  low_is = subst (λ z. (form_at p.config (p.at z)).low k ≡ n.low) e n.low_is;
  high_is = subst (λ z. (form_at p.config (p.at z)).high k ≡ n.high) e n.high_is;
  reached = λ j l. subst (λ z. (p.at z).reached (child_of (node_of read) j) ≡ true) e (n.reached j l);
}

child-stood : ChildrenStand → (r : Merging) (s : Scene) → IsScene s → (v : IsViewed r.upper r.lower (viewed_leaf r) s.past) → (here s).value r.lower.guard ≡ r.lower.status → (k j : ℕ) → j < count_of (node_of r.read) → child_of (node_of r.read) j ≡ k
    → (g : ℕ) → g ≡ v.links.guard.guarded → (n : WasParentNode r.upper.slot g r.read s.past) → StoodAsChild r.upper.slot g r.read s.past n k j s.past.now × HungFrom k r.upper.slot j s.past.now s.past
unfolding moved-parent
child-stood law r s good v now k j l e g same n = law s r.upper r.lower r.read k j good v.links (leaf-once r s.past v) now (moved-parent r.upper.slot g v.links.guard.guarded r.read s.past same n) l e

pub checked-learns : ChildrenStand → (c : Config) (r : Merging) (q : MergePhase) (stage : Stage) (seen : Seen) (s : Scene) → s.past.config ≡ c → IsScene s → ((seen ≡ Was r.lower.status) × (q ≡ Still)) ⊎ ((seen ≢ Was r.lower.status) × (q ≡ Restart)) → merge_facts r Parent stage s → Tells (merge_asks c r Parent) stage seen s
    → merge_facts r q Waiting s
checked-learns law c r q stage seen s same good h f t = elim h [
  | inl g ↦ subst (λ z. merge_facts r z Waiting s) (sym g.1) (
      let w = parent-waits r stage s f in
      let now : (here s).value r.lower.guard ≡ r.lower.status = (answered r.lower.guard r.lower.status stage seen s g.0 t).1.value in
      let p : IsPaired r s.past = w.1.0 in
      let own = child-stood law r s good p.viewed now r.lower.slot (own_place r.right r.place) (own-within r.right r.place (count_of (node_of r.read)) p.pair.counted) p.pair.own.there p.viewed.guarded (sym p.viewed.is_guarded) p.parent in
      let other = child-stood law r s good p.viewed now r.beside_slot (other_place r.right r.place) (other-within r.right r.place (count_of (node_of r.read)) p.pair.counted) p.pair.other p.viewed.guarded (sym p.viewed.is_guarded) p.parent in (
        w.0,
        record {
          paired = p;
          reading = w.1.1;
          moment = s.past.now;
          order = w.1.1.now;
          viewed = p.viewed.seen.stood.now;
          own = own.0;
          other = other.0;
          own_hung = own.1;
          other_hung = other.1;
        },
      ))
  | inr g ↦ subst (λ z. merge_facts r z Waiting s) (sym g.1) (parent-waits r stage s f).0
]
