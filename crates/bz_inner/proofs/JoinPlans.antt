-- The plan of a merge of two inner nodes is sound, and its swap is lawful and leads to what it should.
use Rattle.std.proofs.Common.{◌≡◌, ◌≢◌, ℕ, zero, suc, ◌+◌, ◌<◌, false, List, [], ◌∷◌, length, slice_index, arith, refl, sym, ap, subst, ◌∙◌, inl, inr}
use Rattle.std.specs.Prelude.{All}
use Rattle.std.proofs.lemmas.List.Elements.{All-cons}
use Rattle.bz_layout.specs.Addresses.{node_address}
use Rattle.bz_layout.specs.declared.config.Config.{Config}
use Rattle.bz_layout.specs.declared.sizes.TheConstants.{NODE_WORDS, STATUS_AT, ROOT_AT}
use Rattle.bz_node.specs.Reading.{children_in}
use Rattle.bz_tree.specs.Slots.{Wider, Halves}
use Rattle.bz_slotted.specs.Readers.{count_of, child_of}
use Rattle.bz_slotted.specs.ReadingLaws.{node_of}
use Rattle.bz_slotted.specs.Rules.{node_fault}
use Rattle.bz_word.specs.declared.entry.Entry.{Entry}
use Rattle.bz_content.specs.Restructures.{children_of}
use Rattle.bz_join.specs.Parents.{joined, joined_parent, IsJoinedParent}
use Rattle.bz_join.proofs.Proved.{children_join}
use Rattle.bz_united.specs.Uniting.{IsOneOf}
use Rattle.bz_task.proofs.FrozenWords.{frozen-plain}
use Rattle.bz_task.proofs.FromSwap.EntryLists.{All-inserted}
use Rattle.bz_task.proofs.Proved.{fronts_stay}
use Rattle.bz_task.specs.Instant.{words}
use Rattle.bz_task.specs.Requests.{Differed, IsEntryToAsk, IsReadable, IsTarget}
use Rattle.bz_task.specs.Scene.{Scene, IsScene, here}
use Rattle.bz_task.specs.Swaps.{Takes}
use Rattle.bz_renew.specs.Freezings.{freezing_entry}
use Rattle.bz_renew.specs.Nodes.{ArePlain, HaveSlots}
use Rattle.bz_renew.proofs.Plainness.{IsPlain, inner-plain}
use Rattle.bz_branch.specs.FromSplit.Facts.{StoodFresh}
use Rattle.bz_writer.specs.Laws.{IsSoundPlan, IsGoodPlan, IsWritten}
use Rattle.bz_writer.specs.Phases.{no_change}
use Rattle.bz_writer.proofs.Written.{holds, fresh, was-unreached, stood}
use Rattle.bz_inner.specs.InnerMerges.{WasOpen, AreReadyJoined, merge_swap, open_freezing}
use Rattle.bz_inner.specs.JoinFacts.{joining_nodes, joining_plan, AreMadeOf, IsSwapReady, MayJoin}
use Rattle.bz_inner.specs.Joinings.{Joining, left_slot, right_slot, left_words, right_words, sep_of, ArePlanned, AreJoining, WasJoined}
use Rattle.bz_inner.specs.Relinks.{relink_with, root_entry}
use Rattle.bz_inner.proofs.InnerMerging.{inner-merges}
use Rattle.bz_inner.proofs.JoinStaying.{planned-stays, joining-stays, joined-stays, planned-same}
use Rattle.bz_inner.proofs.Relinks.{set-root}
use Rattle.bz_inner.proofs.Separators.{has-separator}

-- a node that was read is in the memory, and its status may be named
module _ (s : Scene) (k m : ℕ) (read : List ℕ) (good : IsScene s) (w : WasOpen k m read s.past) where
  pub open-slot : k < s.past.config.nodes
  open-slot = (good.history.good m w.since w.now).slots k w.node.reached

  status-target : IsTarget s (node_address s.past.config k + STATUS_AT)
  status-target = inr (inr (record {
    slot = k;
    place = STATUS_AT;
    address = refl;
    within = omega arith;
    reached = (fronts_stay s.past.config s.past.at s.past.since s.past.now m s.past.now k good.history (record { since = w.since; order = w.now; until = omega arith }) w.node.reached).reached;
    kind = inl refl;
  }))

  freezing-to-ask : IsEntryToAsk s (freezing_entry s.past.config (open_freezing k read))
  freezing-to-ask = record { target = status-target; expected = w.plain; new = frozen-plain (slice_index read STATUS_AT) w.plain }

module _ (r : Joining) (s : Scene) (good : IsScene s) (f : ArePlanned r s.past) where
  abbrev c : Config
  c = s.past.config

  may-swap : (to : ℕ) → to < c.nodes → All (IsEntryToAsk s) (merge_swap c (left_slot r) (right_slot r) r.upper.slot (left_words r) (right_words r) r.above to)
  may-swap to slot =
      let root : IsEntryToAsk s (root_entry r.upper.slot to) = record {
        target = inl refl;
        expected = omega (arith, open-slot s r.upper.slot f.above_at r.above good f.read.parent, good.config.nodes_in_range.at_most);
        new = omega (arith, slot, good.config.nodes_in_range.at_most);
      } in
      All-inserted (IsEntryToAsk s) (freezing_entry c (open_freezing (left_slot r) (left_words r))) (relink_with c r.upper.slot to (open_freezing (right_slot r) (right_words r) ∷ open_freezing r.upper.slot r.above ∷ [])) (freezing-to-ask s (left_slot r) f.left_at (left_words r) good f.read.left)
      (All-inserted (IsEntryToAsk s) (freezing_entry c (open_freezing (right_slot r) (right_words r))) (relink_with c r.upper.slot to (open_freezing r.upper.slot r.above ∷ [])) (freezing-to-ask s (right_slot r) f.right_at (right_words r) good f.read.right)
      (All-inserted (IsEntryToAsk s) (freezing_entry c (open_freezing r.upper.slot r.above)) (relink_with c r.upper.slot to []) (freezing-to-ask s r.upper.slot f.above_at r.above good f.read.parent)
      (All-cons (IsEntryToAsk s) (root_entry r.upper.slot to) [] root (λ i d l. absurd (omega (arith, l))))))

  swap-ready : IsSwapReady c r
  swap-ready = record {
    above_plain = f.read.parent.plain;
    left_plain = f.read.left.plain;
    right_plain = f.read.right.plain;
    root_within = open-slot s r.upper.slot f.above_at r.above good f.read.parent;
    left_within = open-slot s (left_slot r) f.left_at (left_words r) good f.read.left;
    right_within = open-slot s (right_slot r) f.right_at (right_words r) good f.read.right;
    apart = f.apart;
  }

root-differed : (s : Scene) (r : Joining) (v : ℕ) → ArePlanned r s.past → v ≢ r.upper.slot + 1 → Differed s ROOT_AT v
root-differed s r v f ne = record {
  moment = f.guard.read;
  since = omega (arith, f.guard.since, f.guard.order);
  now = f.guard.now;
  other = λ e. ne (sym e ∙ (ap (s.past.at f.guard.read).value (sym f.under.pointer) ∙ f.guard.slot));
}

pub root-readable : (s : Scene) → IsReadable s ROOT_AT
root-readable s = record { outside = inl (omega arith); within = omega arith }

pub sound : (r : Joining) → IsSoundPlan (joining_plan r)
sound r = record {
  some = omega arith;
  few = omega arith;
  planned = λ p q c v. planned-stays p q c r v;
  ready = λ p q c v. joining-stays p q c r v;
  done = λ p q c v. joined-stays p q c r.upper r.middle v;
  none = λ p q c v. v;
  readable = λ s good v. root-readable s;
  differed = λ s v f ne. root-differed s r v f ne;
  nameable = λ s good f slots. swap-ready r s good f.planned;
  named = λ s good f slots. may-swap r s good f.planned (r.slot 0) (slots.within 0 (omega arith));
}

-- once all words are stored and durable, the slots hold the two nodes
module _ (r : Joining) (s : Scene) (w : IsWritten (joining_plan r) s) where
  abbrev c2 : Config
  c2 = s.past.config

  abbrev f : ArePlanned r s.past
  f = w.ready.planned

  held : (n : ℕ) → n < 2 → words c2 (here s) (r.slot n) ≡ node_of (r.image n)
  held n h = holds (joining_plan r) s w n h

  parent : IsJoinedParent c2.nodes r.above f.read.parent.node.level f.read.parent.node.low f.read.parent.node.high r.place (r.slot 1)
  parent = children_join c2.nodes f.read.parent.node.node.raw r.above f.read.parent.node.level f.read.parent.node.low f.read.parent.node.high r.place (r.slot 1)
      (record { few = f.read.parent.node.node.few; size = f.read.parent.node.node.size; inner = f.read.parent.node.node.inner; none = f.read.parent.node.node.none; within = f.read.within }) (w.writing.slots.within 1 (omega arith))

  abbrev root_words : List ℕ
  root_words = joined_parent (children_in r.above) r.place (r.slot 1) f.read.parent.node.low f.read.parent.node.high f.read.parent.node.level

  holds-root : words c2 (here s) (r.slot 0) ≡ node_of root_words
  holds-root = held 0 (omega arith) ∙ ap node_of w.ready.over

  narrower : Wider (children_of (words c2 (here s) (r.slot 0))) (children_of (node_of r.above)) r.place (left_slot r) (right_slot r) (sep_of r.above r.place)
  narrower =
      subst (λ n. Wider (children_of n) (children_of (node_of r.above)) r.place (left_slot r) (right_slot r) (sep_of r.above r.place)) (sym holds-root)
      (subst (λ z. Wider (children_of (node_of root_words)) (children_of (node_of r.above)) r.place z (right_slot r) (sep_of r.above r.place)) f.read.left_child
      (subst (λ z. Wider (children_of (node_of root_words)) (children_of (node_of r.above)) r.place (child_of (node_of r.above) r.place) z (sep_of r.above r.place)) f.read.right_child parent.narrower))

  pub ready : AreReadyJoined (left_slot r) (right_slot r) r.upper.slot f.left_at f.right_at f.above_at r.place (r.slot 0) (r.slot 1) (left_words r) (right_words r) r.above (sep_of r.above r.place) s
  ready = record {
    read = f.read;
    fresh_q = fresh (joining_plan r) s w 0 (omega arith);
    fresh_m = fresh (joining_plan r) s w 1 (omega arith);
    two = λ e. absurd (omega (arith, w.writing.slots.apart 0 1 (omega arith) (omega arith) e));
    child = ap (λ n. child_of n r.place) holds-root ∙ parent.child;
    narrower = narrower;
    joined = subst (λ n. Halves (children_of n) (children_of (node_of (left_words r))) (children_of (node_of (right_words r))) (count_of (node_of (left_words r))) (sep_of r.above r.place)) (sym (held 1 (omega arith))) w.ready.one.halves;
    whole_q = (λ t. node_fault c2.nodes (holds-root t) (holds-root t) f.read.parent.node.level f.read.parent.node.low f.read.parent.node.high) ∙ parent.inner.none;
    whole_m = (λ t. node_fault c2.nodes (held 1 (omega arith) t) (held 1 (omega arith) t) f.read.left.node.level f.read.left.node.low f.read.right.node.high) ∙ w.ready.one.whole;
  }

-- once the swap took effect, the root pointer leads to the new root; to neither of the two a link had led before
module _ (r : Joining) (s after : Scene) (good : IsScene s) (w : IsWritten (joining_plan r) s) (takes : Takes false (merge_swap s.past.config (left_slot r) (right_slot r) r.upper.slot (left_words r) (right_words r) r.above (r.slot 0)) s after) where
  abbrev entries : List Entry
  entries = merge_swap s.past.config (left_slot r) (right_slot r) r.upper.slot (left_words r) (right_words r) r.above (r.slot 0)

  stood-fresh : (n : ℕ) → n < 2 → StoodFresh (r.slot n) (r.image n) s.past.now after.past
  stood-fresh n h = record { unreached = was-unreached (joining_plan r) s w n h good entries after takes; copied = stood (joining_plan r) s w n h good entries after takes }

  abbrev plan : ArePlanned r after.past
  plan = planned-stays s.past after.past takes.continues r w.ready.planned

  led-after : (here after).value ROOT_AT ≡ r.slot 0 + 1
  led-after = takes.swaps.value ROOT_AT ∙ set-root s.past.config r.upper.slot (r.slot 0) (open_freezing (left_slot r) (left_words r) ∷ open_freezing (right_slot r) (right_words r) ∷ open_freezing r.upper.slot r.above ∷ []) (here s).value

  was-joined : WasJoined r.upper r.middle after.past
  unfolding planned-stays
  was-joined = record {
    right = r.right;
    place = r.place;
    beside = r.beside_slot;
    above = r.above;
    left = left_words r;
    other = right_words r;
    left_at = plan.left_at;
    right_at = plan.right_at;
    above_at = plan.above_at;
    root_slot = r.slot 0;
    joined_slot = r.slot 1;
    before = s.past.now;
    since = omega (arith, good.begun, takes.continues.since);
    now = omega (arith, takes.continues.now);
    pair = plan.pair;
    read = plan.read;
    room = plan.meet.room;
    led = subst (λ (m : ℕ). (after.past.at m).value ROOT_AT ≡ r.slot 0 + 1) takes.continues.now led-after;
    root = subst (λ z. StoodFresh (r.slot 0) z s.past.now after.past) (w.ready.over ∙ (planned-same s.past after.past takes.continues r w.ready.planned).root) (stood-fresh 0 (omega arith));
    joined = subst (λ z. StoodFresh (r.slot 1) z s.past.now after.past) (w.ready.one.is ∙ (planned-same s.past after.past takes.continues r w.ready.planned).joined) (stood-fresh 1 (omega arith));
  }

pub good-plan : (r : Joining) → IsGoodPlan (joining_plan r)
good-plan r = record {
  effect = λ s y good w stand swaps. inner-merges no_change s y (left_slot r) (right_slot r) r.upper.slot w.ready.planned.left_at w.ready.planned.right_at w.ready.planned.above_at r.place (r.slot 0) (r.slot 1) (left_words r) (right_words r) r.above (sep_of r.above r.place) good (ready r s w) stand swaps;
  took = λ s after good w takes. was-joined r s after good w takes;
}

-- what is planned may be made
pub may-join : (r : Joining) (s : Scene) → ArePlanned r s.past → MayJoin s.past.config.nodes r
may-join r s f = record {
  raw = f.read.parent.node.node.raw;
  level = f.read.parent.node.level;
  low = f.read.parent.node.low;
  high = f.read.parent.node.high;
  two = record { few = f.read.parent.node.node.few; size = f.read.parent.node.node.size; inner = f.read.parent.node.node.inner; none = f.read.parent.node.node.none; within = f.read.within };
  unite = record { nodes = s.past.config.nodes; level = f.read.left.node.level; low = f.read.left.node.low; high = f.read.right.node.high; meet = f.meet };
  separator = has-separator s.past.config.nodes r.above f.read.parent.node.low f.read.parent.node.high f.read.parent.node.node.node r.place f.read.within;
}

-- the two nodes are words that may be stored
module _ (r : Joining) (s : Scene) (f : ArePlanned r s.past) (made : AreMadeOf r (r.slot 1) (r.image 0) (r.image 1)) (slots : HaveSlots s.past.config.nodes (joining_nodes r)) where
  abbrev node : WasOpen r.upper.slot f.above_at r.above s.past
  node = f.read.parent

  one : IsOneOf s.past.config.nodes (left_words r) (right_words r) (sep_of r.above r.place) f.read.left.node.level f.read.left.node.low f.read.right.node.high (r.image 1)
  one = made.one s.past.config.nodes f.read.left.node.level f.read.left.node.low f.read.right.node.high f.meet

  over : r.image 0 ≡ joined_parent (children_in r.above) r.place (r.slot 1) node.node.low node.node.high node.node.level
  over = made.over s.past.config.nodes node.node.node.raw node.node.level node.node.low node.node.high node.node.node.none

  is-joined : IsJoinedParent s.past.config.nodes r.above node.node.level node.node.low node.node.high r.place (r.slot 1)
  is-joined = children_join s.past.config.nodes node.node.node.raw r.above node.node.level node.node.low node.node.high r.place (r.slot 1)
      (record { few = node.node.node.few; size = node.node.node.size; inner = node.node.node.inner; none = node.node.node.none; within = f.read.within }) (slots.within 1 (omega arith))

  root-plain : All IsPlain (r.image 0)
  root-plain = subst (All IsPlain) (sym over) (inner-plain (joined (children_in r.above) r.place (r.slot 1)) node.node.low node.node.high node.node.level is-joined.each is-joined.low_bound is-joined.high_bound (omega (arith, is-joined.levels)) is-joined.room)

  sizes : (n : ℕ) → n < 2 → length (r.image n) ≡ NODE_WORDS
  sizes zero l = made.size
  sizes (suc zero) l = made.one_size
  sizes (suc (suc n)) l = absurd (omega (arith, l))

  plains : (n : ℕ) → n < 2 → All IsPlain (r.image n)
  plains zero l = root-plain
  plains (suc zero) l = one.plain
  plains (suc (suc n)) l = absurd (omega (arith, l))

  pub made-ready : AreJoining r s.past × ArePlain (joining_nodes r)
  made-ready = (record { planned = f; over = over; one = one }, record { size = sizes; plain = plains })
