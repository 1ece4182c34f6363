-- What another look at the root pointer leads to: the new nodes are made where slots were taken.
use Rattle.std.proofs.Common.{◌≡◌, ℕ, ◌<◌, List, [], arith, refl, sym, ap, subst, ◌∙◌}
use Rattle.std.proofs.lemmas.Bool.{true≢false}
use Rattle.bz_layout.specs.Slots.{FreeSlots}
use Rattle.bz_layout.specs.declared.config.Config.{Config}
use Rattle.bz_layout.specs.declared.thresholds.TheConstants.{MERGE_SLOTS}
use Rattle.bz_tree.specs.Walk.{is_among}
use Rattle.bz_task.specs.Requests.{IsKnown}
use Rattle.bz_task.specs.Scene.{Past, Scene, Stage, Waiting, Took}
use Rattle.bz_task.specs.declared.todo.Seen.{Seen}
use Rattle.bz_renew.specs.Nodes.{AreSlotsTaken, HaveSlots}
use Rattle.bz_writer.specs.Facts.{write_asks, write_facts}
use Rattle.bz_writer.specs.Laws.{LooksWell}
use Rattle.bz_writer.specs.Phases.{HasLooked, write_needs}
use Rattle.bz_writer.specs.declared.phase.WritePhase.{WritePhase}
use Rattle.bz_writer.specs.declared.phase.WritePhase.TheVariants.{Guard, Store, NoSlot, Restart}
use Rattle.bz_inner.specs.JoinFacts.{joining_nodes, joining_plan, AreMadeOf, MayJoin}
use Rattle.bz_inner.specs.Joinings.{Joining, ArePlanned}
use Rattle.bz_inner.proofs.JoinPlans.{may-join, made-ready}

-- the task with other slots and words for its two nodes
abbrev pub with_nodes : Joining → (ℕ → ℕ) → (ℕ → List ℕ) → Joining
with_nodes r slot image = record r { slot = slot; image = image }

same-plan : (r : Joining) (slot : ℕ → ℕ) (image : ℕ → List ℕ) (p : Past) → ArePlanned r p → ArePlanned (with_nodes r slot image) p
same-plan r slot image p f = record {
  under = f.under;
  guard = f.guard;
  small = f.small;
  pair = f.pair;
  apart = f.apart;
  left_at = f.left_at;
  right_at = f.right_at;
  above_at = f.above_at;
  read = f.read;
  meet = f.meet;
}

same-made : (r : Joining) (slot : ℕ → ℕ) (image : ℕ → List ℕ) (k : ℕ) (root joined : List ℕ) → AreMadeOf r k root joined → AreMadeOf (with_nodes r slot image) k root joined
same-made r slot image k root joined m = record { over = m.over; size = m.size; one = m.one; one_size = m.one_size }

guard-waits : (r : Joining) (stage : Stage) (s : Scene) → write_facts (joining_plan r) Guard stage s → ArePlanned r s.past
guard-waits r Waiting s f = f.1
guard-waits r Took s f = absurd (f)

-- what is planned may be made
pub look-may : (c : Config) (r : Joining) (phase : WritePhase) (seen : Seen) (moment : ℕ) → phase ≡ Guard → IsKnown c (write_facts (joining_plan r) phase) (write_asks c (joining_plan r) phase) seen moment → MayJoin c.nodes r
look-may c r phase seen moment is k =
    subst (λ (z : Config). MayJoin z.nodes r) k.config (may-join r k.scene (guard-waits r k.stage k.scene (subst (λ z. write_facts (joining_plan r) z k.stage k.scene) is k.holds)))

-- the first store comes where slots were taken
pub slot-within : (status : ℕ) (slot : ℕ → ℕ) (seen : Seen) (p : WritePhase) (old new : FreeSlots) (nodes : ℕ) → old.nodes ≡ nodes → HasLooked MERGE_SLOTS status slot seen p old new → (j : ℕ) → p ≡ Store j → slot 1 < nodes
slot-within status slot seen p old new nodes same h j is =
    let t : AreSlotsTaken (record { count = MERGE_SLOTS; slot = slot; image = λ n. [] }) old new = (subst (λ z. HasLooked MERGE_SLOTS status slot seen z old new) is h).1.1 (λ n. []) in
    subst (λ z. slot 1 < z) same (t.slots.within 1 (omega arith))

-- and nowhere else
stores : (r : Joining) (status : ℕ) (seen : Seen) (p : WritePhase) (old new : FreeSlots) → HasLooked MERGE_SLOTS status r.slot seen p old new → AreSlotsTaken (joining_nodes r) old new → (j : ℕ) × (p ≡ Store j)
stores r status seen (Store j) old new h t = (j, refl)
stores r status seen NoSlot old new h t = absurd (omega (arith, h.1.0, t.enough))
stores r status seen Restart old new h t = absurd (true≢false (sym (t.were 0 (omega arith)) ∙ (ap (λ (z : FreeSlots). is_among z.free (r.slot 0)) (sym h.1) ∙ t.gone 0 (omega arith))))
stores r status seen p old new h t = absurd (h)

-- so what is looked at leads to what was planned
pub looks-well : (o : Joining) (slot : ℕ → ℕ) (image : ℕ → List ℕ) (status : ℕ) (seen : Seen) (p : WritePhase) (old new : FreeSlots) → HasLooked MERGE_SLOTS status slot seen p old new → ((j : ℕ) → p ≡ Store j → AreMadeOf o (slot 1) (image 0) (image 1))
    → LooksWell (joining_plan o) (joining_plan (with_nodes o slot image)) old new
looks-well o slot image status seen p old new h made = record {
  ready = λ s good nodes v a taken.
      let w = stores (with_nodes o slot image) status seen p old new h taken in
      made-ready (with_nodes o slot image) s (same-plan o slot image s.past v) (same-made o slot image (slot 1) (image 0) (image 1) (made w.0 w.1)) (subst (λ z. HaveSlots z (joining_nodes (with_nodes o slot image))) nodes taken.slots);
  none = λ s good v. tt;
}

-- slots are still to be taken then
pub needs-slots : (p : WritePhase) → p ≡ Guard → 0 < write_needs MERGE_SLOTS p
needs-slots p is = omega (arith, ap (write_needs MERGE_SLOTS) is)
