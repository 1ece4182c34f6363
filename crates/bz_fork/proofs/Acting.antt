-- What the split of an inner node below a parent asks for may be asked for, and what its acts lead to.
use Rattle.std.proofs.Common.{◌≡◌, ◌≢◌, ◌==◌, Option, ℕ, ◌+◌, ◌<◌, ◌≤◌, false, List, [], ◌∷◌, arith, refl, sym, ap, subst, ◌∙◌, inl, inr, Some}
use Rattle.std.specs.Prelude.{All}
use Rattle.std.proofs.lemmas.Bool.Decides.{nat_tests}
use Rattle.bz_tree.specs.Walk.{is_among}
use Rattle.bz_task.specs.FromSwap.SwapMemory.{is_target}
use Rattle.bz_layout.specs.Addresses.{node_address}
use Rattle.bz_layout.specs.declared.config.Config.{Config}
use Rattle.bz_layout.specs.declared.sizes.TheConstants.{NODE_WORDS, STATUS_AT}
use Rattle.bz_tree.specs.Slots.{Wider, Halves}
use Rattle.bz_node.specs.Reading.{children_in}
use Rattle.bz_halves.specs.Parents.{HasRoomToPart, IsPartedParent}
use Rattle.bz_tree.specs.Split.{AreThree}
use Rattle.bz_slotted.specs.ReadingLaws.{node_of}
use Rattle.bz_slotted.specs.Rules.{node_fault}
use Rattle.bz_task.proofs.FromSwap.EntryLists.{All-inserted}
use Rattle.bz_word.specs.declared.entry.Entry.{Entry}
use Rattle.bz_branch.specs.FromContent.Restructures.{children_of}
use Rattle.bz_task.specs.Instant.{Instant, words}
use Rattle.bz_task.specs.OwnActs.{Stores, Flushes}
use Rattle.bz_task.specs.Requests.{Answers, IsEntryToAsk, IsAskable, IsReadable, IsTarget, IsCause}
use Rattle.bz_task.specs.Scene.{Past, Scene, Stage, Waiting, Took, IsScene, HasFilled, here}
use Rattle.bz_task.specs.Swaps.{Stand, SwapsTo, IsGoodSwap, Takes}
use Rattle.bz_task.specs.declared.todo.Seen.{Seen}
use Rattle.bz_task.specs.declared.todo.Seen.TheVariants.{Read as Was}
use Rattle.bz_task.specs.declared.todo.Todo.{Todo}
use Rattle.bz_task.specs.declared.todo.Todo.TheVariants.{Store as Stores_at, Flush as Flushes_line, Swap as Swaps_for}
use Rattle.bz_task.specs.declared.path.Link.{Link}
use Rattle.bz_renew.specs.Freezings.{freezing_entry, renewal_with}
use Rattle.bz_renew.specs.LinkSwaps.{IsFresh}
use Rattle.bz_renew.specs.Nodes.{HaveSlots}
use Rattle.bz_renew.specs.Renewals.{renewal, link_entry, guard_entry, IsTurnable}
use Rattle.bz_task.proofs.FrozenWords.{frozen-plain}
use Rattle.bz_renew.proofs.Guards.{guard-readable, guard-differed}
use Rattle.bz_renew.proofs.Inserting.{inserted-other}
use Rattle.bz_renew.proofs.Restamping.{restamped-plain}
use Rattle.bz_renew.proofs.TwoEntries.{all-two, sets-first}
use Rattle.bz_branch.specs.InnerSplits.{inner_swap, AreReadyInner, IsInnerSplit}
use Rattle.bz_fork.specs.Facts.{Fork, fork_nodes, fork_plan, HasLinks, IsPlan, IsPlanned, IsSplitting, WasSplitInner, AreClear, AreMadeOf, HasPlace, IsSwapReady, parent_words, fork_asks, fork_end, fork_facts, fork_means, fork_needs, fork_differs}
use Rattle.bz_branch.specs.FromSplit.BelowSplits.{parent_freezing}
use Rattle.bz_branch.specs.FromSplit.Facts.{StoodFresh, split_change}
use Rattle.bz_branch.specs.FromSplit.RootSplits.{AreFreshThree}
use Rattle.bz_fork.specs.declared.phase.ForkPhase.{ForkPhase}
use Rattle.bz_fork.specs.declared.phase.ForkPhase.TheVariants.{Fresh, Unread, Tight, Word, Again, Room, Above, Check, NoRoom, Writing}
use Rattle.bz_writer.specs.Facts.{write_asks, write_facts}
use Rattle.bz_writer.specs.declared.phase.WritePhase.TheVariants.{Guard}
use Rattle.bz_writer.specs.Phases.{means_of}
use Rattle.bz_writer.specs.declared.phase.WritePhase.{WritePhase}
use Rattle.bz_layout.specs.Slots.{FreeSlots}
use Rattle.bz_layout.specs.declared.thresholds.TheConstants.{SPLIT_SLOTS}
use Rattle.bz_task.specs.declared.todo.Outcome.{Outcome}
use Rattle.bz_task.specs.declared.todo.Outcome.TheVariants.{Done as IsDone, Restart as Restarts, Full as IsFull, NeedsRoom as NoneFits}
use Rattle.bz_call.specs.declared.replies.Spent.TheVariants.{Nodes as NoNodes, Swaps as NoSwaps}
use Rattle.bz_branch.specs.FromBelow.Facts.{HasRoom, HasParent}
use Rattle.bz_branch.specs.Parts.{ArePartsOfNode}
use Rattle.bz_branch.specs.Nodes.{IsOpenLink}
use Rattle.bz_branch.proofs.Standing.{guard-is, node-below}
use Rattle.bz_fork.proofs.Staying.{guarded-now, counted-now, has-links-stay, planned-stays, parts-stay, over-stays, split-stays, splitting-stays}
use Rattle.bz_halves.proofs.Proved.{parents_of_halves_are_whole}
use Rattle.bz_layout.proofs.Laws.{slots_apart}
use Rattle.bz_word.proofs.Proved.{statuses}
use Rattle.bz_renew.proofs.Proved.{guarded_links_stand, links_may_be_turned}
use Rattle.bz_task.proofs.Proved.{ranges_stay}
use Rattle.bz_renew.proofs.Freezings.{far-target, slot-far}
use Rattle.bz_renew.proofs.TwoEntries.{no-target}
use Rattle.bz_renew.proofs.Guards.{answered-as-read}
use Rattle.bz_writer.specs.Laws.{IsSoundPlan, IsGoodPlan, IsWritten, LooksWell}
use Rattle.bz_writer.proofs.Written.{holds, fresh, was-unreached, stood}
use Rattle.bz_writer.proofs.Acting.{askable as writer-askable, cause as writer-cause, ends as writer-ends, stored-here, flushed-here, effect-here, took-here}
use Rattle.bz_writer.proofs.Sizes.{needs-few}
use Rattle.bz_branch.proofs.Proved.{inner_splits_are_good}
use Rattle.bz_fork.proofs.Clearing.{are-clear}
use Rattle.bz_fork.proofs.Making.{are-plain, halves, over}
use Rattle.bz_fork.proofs.Uniting.{one-separator}

some-same : (a b : Todo) → Some a ≡ Some b → a ≡ b
some-same a b e = cc

-- the middle link, as one of the open parent
pub above-of : (upper middle lower : Link) (s : Scene) → HasLinks upper middle lower s.past → IsOpenLink upper.slot middle s.past
above-of upper middle lower s v = record { guard = v.down.guard; thawed = v.down.thawed; under = v.down.under; parent = v.down.parent }

module _ (upper middle lower : Link) (s : Scene) (good : IsScene s) (v : HasLinks upper middle lower s.past) where
  pub upper-slot : upper.slot < s.past.config.nodes
  upper-slot = node-below s upper.slot middle good (above-of upper middle lower s v)

  pub middle-slot : middle.slot < s.past.config.nodes
  middle-slot = node-below s middle.slot lower good v.node

  above-readable : (i : ℕ) → i < NODE_WORDS → IsReadable s (node_address s.past.config upper.slot + i)
  above-readable i l = record { outside = inr (omega arith); within = omega (arith, upper-slot, l) }

  word-readable : (i : ℕ) → i < NODE_WORDS → IsReadable s (node_address s.past.config middle.slot + i)
  word-readable i l = record { outside = inr (omega arith); within = omega (arith, middle-slot, l) }

-- the entries of the swap
may-swap : (r : Fork) (s : Scene) → IsScene s → IsSplitting r s.past → r.slot 0 < s.past.config.nodes → All (IsEntryToAsk s) (inner_swap s.past.config r.upper r.middle r.lower (r.slot 0))
may-swap r s good f new =
    let v = f.planned.links in
    let t : IsTurnable r.upper s = links_may_be_turned s r.upper good v.down.upper_guard v.down.upper_thawed in
    let m : IsTurnable r.middle s = links_may_be_turned s r.middle good v.down.guard v.down.thawed in
    let u : IsTurnable r.lower s = links_may_be_turned s r.lower good v.node.guard v.node.thawed in
    let old : r.upper.slot < s.past.config.nodes = upper-slot r.upper r.middle r.lower s good v in
    let parent_target : IsTarget s (node_address s.past.config r.upper.slot + STATUS_AT) = subst (IsTarget s) (guard-is s r.upper.slot r.middle good (above-of r.upper r.middle r.lower s v)) m.guard_target in
    let node_target : IsTarget s (node_address s.past.config r.middle.slot + STATUS_AT) = subst (IsTarget s) (guard-is s r.middle.slot r.lower good v.node) u.guard_target in
    All-inserted (IsEntryToAsk s) (freezing_entry s.past.config (parent_freezing r.middle r.lower)) (renewal_with s.past.config r.upper (r.slot 0) (parent_freezing r.upper r.middle ∷ []))
    (record { target = node_target; expected = u.plain; new = frozen-plain r.lower.status u.plain })
    (All-inserted (IsEntryToAsk s) (freezing_entry s.past.config (parent_freezing r.upper r.middle)) (renewal r.upper (r.slot 0))
    (record { target = parent_target; expected = m.plain; new = frozen-plain r.middle.status m.plain })
    (all-two (IsEntryToAsk s) (link_entry r.upper (r.slot 0)) (guard_entry r.upper)
    (record { target = t.link_target; expected = omega (arith, old, good.config.nodes_in_range.at_most); new = omega (arith, new, good.config.nodes_in_range.at_most) })
    (record { target = t.guard_target; expected = t.plain; new = restamped-plain statuses r.upper.status t.plain })))

-- the status of the node is none of the other targets
node-apart : (s : Scene) (upper middle : Link) (to : ℕ) → AreClear s.past.config upper middle → is_target (renewal_with s.past.config upper to (parent_freezing upper middle ∷ [])) (node_address s.past.config middle.slot + STATUS_AT) ≡ false
node-apart s upper middle to v =
    let c = s.past.config in
    far-target c upper to (parent_freezing upper middle ∷ []) (node_address c middle.slot + STATUS_AT) (slot-far slots_apart c (parent_freezing upper middle ∷ []) middle.slot STATUS_AT (omega arith) (inl (one-other upper.slot middle.slot v.two)))
    ∙ no-target (link_entry upper to) (guard_entry upper) (node_address c middle.slot + STATUS_AT) v.link_node v.guard_node
  where
    one-other : (a b : ℕ) → a ≢ b → is_among (a ∷ []) b ≡ false
    one-other a b ne = let t : (a == b) ≡ false = grind (arith, nat_tests) in rw t refl

swap-ready : (r : Fork) (s : Scene) → IsScene s → IsSplitting r s.past → IsSwapReady s.past.config r
swap-ready r s good f =
    let v = f.planned.links in
    let t : IsTurnable r.upper s = links_may_be_turned s r.upper good v.down.upper_guard v.down.upper_thawed in
    let m : IsTurnable r.middle s = links_may_be_turned s r.middle good v.down.guard v.down.thawed in
    let u : IsTurnable r.lower s = links_may_be_turned s r.lower good v.node.guard v.node.thawed in
    record {
      upper_plain = t.plain;
      middle_plain = m.plain;
      lower_plain = u.plain;
      apart = t.apart;
      upper_slot = upper-slot r.upper r.middle r.lower s good v;
      slot = middle-slot r.upper r.middle r.lower s good v;
      target = no-target (link_entry r.upper (r.slot 0)) (guard_entry r.upper) (node_address s.past.config r.upper.slot + STATUS_AT) f.clear.link_parent f.clear.guard_parent;
      node_target = node-apart s r.upper r.middle (r.slot 0) f.clear;
    }

pub sound : (r : Fork) → IsSoundPlan (fork_plan r)
sound r = record {
  some = omega arith;
  few = omega arith;
  planned = λ p q c v. planned-stays p q c r.upper r.middle r.lower r.read r.above v;
  ready = λ p q c v. splitting-stays p q c r v;
  done = λ p q c v. split-stays p q c r.upper r.middle v;
  none = λ p q c v. v;
  readable = λ s good v. guard-readable s r.upper good v.links.down.upper_guard;
  differed = λ s v p ne. guard-differed s r.upper v p.links.down.upper_guard ne;
  nameable = λ s good f slots. swap-ready r s good f;
  named = λ s good f slots. may-swap r s good f (slots.within 0 (omega arith));
}

-- once all words are stored and durable, the slots hold the three nodes
module _ (r : Fork) (s : Scene) (w : IsWritten (fork_plan r) s) where
  held : (n : ℕ) → n < 3 → words s.past.config (here s) (r.slot n) ≡ node_of (r.image n)
  held n h = holds (fork_plan r) s w n h

  own : (n : ℕ) → n < 3 → IsFresh s (r.slot n)
  own n h = fresh (fork_plan r) s w n h

  three : AreThree (r.slot 0) (r.slot 1) (r.slot 2)
  three = record {
    q_l = λ e. absurd (omega (arith, w.writing.slots.apart 0 1 (omega arith) (omega arith) e));
    q_r = λ e. absurd (omega (arith, w.writing.slots.apart 0 2 (omega arith) (omega arith) e));
    l_r = λ e. absurd (omega (arith, w.writing.slots.apart 1 2 (omega arith) (omega arith) e));
  }

  fresh-three : AreFreshThree (r.slot 0) (r.slot 1) (r.slot 2) s
  fresh-three = record { three = three; root = own 0 (omega arith); left = own 1 (omega arith); right = own 2 (omega arith) }

  room : HasRoomToPart s.past.config.nodes (children_in r.above) w.ready.planned.parent.level (r.slot 1) (r.slot 2) w.ready.planned.sep
  room = record {
    few = w.ready.planned.parent.parent.few;
    slots = w.ready.planned.parent.parent.partable.slots;
    left_slot = w.writing.slots.within 1 (omega arith);
    right_slot = w.writing.slots.within 2 (omega arith);
    inner = w.ready.planned.parent.parent.inner;
    few_levels = w.ready.planned.parent.parent.lowest;
    room = w.ready.planned.room;
  }

  made : IsPartedParent s.past.config.nodes (node_of r.above) (children_in r.above) w.ready.planned.parent.low w.ready.planned.parent.high w.ready.planned.parent.level w.ready.planned.links.child (r.slot 1) (r.slot 2) w.ready.planned.sep
  made = parents_of_halves_are_whole s.past.config.nodes (node_of r.above) (children_in r.above) w.ready.planned.parent.low w.ready.planned.parent.high w.ready.planned.parent.level w.ready.planned.links.child (r.slot 1) (r.slot 2) w.ready.planned.sep w.ready.planned.parent.parent.partable.may room w.ready.planned.parent.parent.partable.has

  holds-parent : words s.past.config (here s) (r.slot 0) ≡ node_of (parent_words r w.ready.planned.sep w.ready.planned.links.child w.ready.planned.parent.level w.ready.planned.parent.low w.ready.planned.parent.high)
  holds-parent = held 0 (omega arith) ∙ ap node_of w.ready.over

  ready : AreReadyInner r.upper.slot r.middle.slot w.ready.planned.links.guarded w.ready.planned.links.counted w.ready.planned.links.child w.ready.halves.cut (r.slot 0) (r.slot 1) (r.slot 2) w.ready.planned.sep s
  ready = record {
    fresh = fresh-three;
    parent_whole = (λ t. node_fault s.past.config.nodes (holds-parent t) (holds-parent t) (w.ready.planned.parent.level_is t) (w.ready.planned.parent.low_is t) (w.ready.planned.parent.high_is t)) ∙ made.inner.none;
    wider = subst (λ n. Wider (children_of n) (children_of (words s.past.config (here s) (r.slot 0))) w.ready.planned.links.child (r.slot 1) (r.slot 2) w.ready.planned.sep) (sym w.ready.planned.parent.were)
        (subst (λ n. Wider (children_of (node_of r.above)) (children_of n) w.ready.planned.links.child (r.slot 1) (r.slot 2) w.ready.planned.sep) (sym holds-parent) made.wider);
    left_whole = (λ t. node_fault s.past.config.nodes (held 1 (omega arith) t) (held 1 (omega arith) t) (w.ready.planned.node.level_is t) (w.ready.planned.node.low_is t) (Some w.ready.planned.sep)) ∙ w.ready.halves.left_whole;
    right_whole = (λ t. node_fault s.past.config.nodes (held 2 (omega arith) t) (held 2 (omega arith) t) (w.ready.planned.node.level_is t) (Some w.ready.planned.sep) (w.ready.planned.node.high_is t)) ∙ w.ready.halves.right_whole;
    halves = subst (λ n. Halves (children_of n) (children_of (words s.past.config (here s) (r.slot 1))) (children_of (words s.past.config (here s) (r.slot 2))) w.ready.halves.cut w.ready.planned.sep) (sym w.ready.planned.node.were)
        (subst (λ n. Halves (children_of (node_of r.read)) (children_of n) (children_of (words s.past.config (here s) (r.slot 2))) w.ready.halves.cut w.ready.planned.sep) (sym (held 1 (omega arith)))
        (subst (λ n. Halves (children_of (node_of r.read)) (children_of (node_of (r.image 1))) (children_of n) w.ready.halves.cut w.ready.planned.sep) (sym (held 2 (omega arith))) w.ready.halves.halves));
  }

  pub inner-split : IsInnerSplit r.upper r.middle r.lower (r.slot 0) (r.slot 1) (r.slot 2) w.ready.halves.cut w.ready.planned.sep s
  inner-split = record {
    down = w.ready.planned.links.down;
    node = w.ready.planned.links.node;
    ready = subst (λ z. AreReadyInner r.upper.slot r.middle.slot z w.ready.planned.links.node.guard.guarded w.ready.planned.links.down.under.child.child w.ready.halves.cut (r.slot 0) (r.slot 1) (r.slot 2) w.ready.planned.sep s) (sym w.ready.planned.links.is_guarded)
        (subst (λ z. AreReadyInner r.upper.slot r.middle.slot w.ready.planned.links.guarded z w.ready.planned.links.down.under.child.child w.ready.halves.cut (r.slot 0) (r.slot 1) (r.slot 2) w.ready.planned.sep s) (sym w.ready.planned.links.is_counted)
        (subst (λ z. AreReadyInner r.upper.slot r.middle.slot w.ready.planned.links.guarded w.ready.planned.links.counted z w.ready.halves.cut (r.slot 0) (r.slot 1) (r.slot 2) w.ready.planned.sep s) (sym w.ready.planned.links.is_child) ready));
  }

-- once the swap took effect, the upper link leads to the new parent; to none of the three a link had led before
module _ (r : Fork) (s after : Scene) (good : IsScene s) (w : IsWritten (fork_plan r) s) (takes : Takes false (inner_swap s.past.config r.upper r.middle r.lower (r.slot 0)) s after) where
  stood-fresh : (n : ℕ) → n < 3 → StoodFresh (r.slot n) (r.image n) s.past.now after.past
  stood-fresh n h = record { unreached = was-unreached (fork_plan r) s w n h good (inner_swap s.past.config r.upper r.middle r.lower (r.slot 0)) after takes; copied = stood (fork_plan r) s w n h good (inner_swap s.past.config r.upper r.middle r.lower (r.slot 0)) after takes }

  led-after : (here after).value r.upper.link ≡ r.slot 0 + 1
  led-after =
      let v = w.ready.planned.links in
      let t : IsTurnable r.upper s = links_may_be_turned s r.upper good v.down.upper_guard v.down.upper_thawed in
      takes.swaps.value r.upper.link
      ∙ (inserted-other (freezing_entry s.past.config (parent_freezing r.middle r.lower)) (renewal_with s.past.config r.upper (r.slot 0) (parent_freezing r.upper r.middle ∷ [])) (here s).value r.upper.link (λ e. w.ready.clear.link_node (sym e))
      ∙ (inserted-other (freezing_entry s.past.config (parent_freezing r.upper r.middle)) (renewal r.upper (r.slot 0)) (here s).value r.upper.link (λ e. w.ready.clear.link_parent (sym e))
      ∙ sets-first (link_entry r.upper (r.slot 0)) (guard_entry r.upper) (here s).value r.upper.link refl (λ e. t.apart (sym e))))

  -- what the old parent and the node were stays known
  abbrev plan : IsPlan r.upper r.middle r.lower r.read r.above after.past
  plan = planned-stays s.past after.past takes.continues r.upper r.middle r.lower r.read r.above w.ready.planned

  was-split : WasSplitInner r.upper r.middle after.past
  unfolding planned-stays has-links-stay
  was-split = record {
    parent_slot = r.slot 0;
    left_slot = r.slot 1;
    right_slot = r.slot 2;
    read = r.read;
    above = r.above;
    left = r.image 1;
    right = r.image 2;
    sep = plan.sep;
    child = plan.links.child;
    moment = plan.links.guarded;
    counted = plan.links.counted;
    before = s.past.now;
    since = omega (arith, plan.links.down.guard.since, plan.links.is_guarded);
    order = guarded-now s.past after.past takes.continues r.upper r.middle r.lower w.ready.planned.links;
    counted_since = omega (arith, plan.links.node.guard.since, plan.links.is_counted);
    counted_order = counted-now s.past after.past takes.continues r.upper r.middle r.lower w.ready.planned.links;
    now = omega (arith, takes.continues.now);
    old = plan.parent;
    node = plan.node;
    parts = parts-stay s.past after.past takes.continues r.upper r.middle r.lower r.read r.above (r.image 1) (r.image 2) w.ready.planned w.ready.halves;
    led = subst (λ (m : ℕ). (after.past.at m).value r.upper.link ≡ r.slot 0 + 1) takes.continues.now led-after;
    parent = subst (λ z. StoodFresh (r.slot 0) z s.past.now after.past) (over-stays s.past after.past takes.continues r.upper r.middle r.lower r.read r.above w.ready.planned (r.image 0) (r.slot 1) (r.slot 2) w.ready.over) (stood-fresh 0 (omega arith));
    left_half = stood-fresh 1 (omega arith);
    right_half = stood-fresh 2 (omega arith);
  }

pub good-plan : (r : Fork) → IsGoodPlan (fork_plan r)
good-plan r = record {
  effect = λ s y good w stand swaps. inner_splits_are_good _ s y r.upper r.middle r.lower (r.slot 0) (r.slot 1) (r.slot 2) w.ready.halves.cut w.ready.planned.sep good (inner-split r s w) stand swaps;
  took = λ s after good w takes. was-split r s after good w takes;
}

-- the separator of whatever halves is that for which there is room
same-separator : (r : Fork) (s : Scene) (v : IsPlanned r s.past) (left right sep : List ℕ) → ArePartsOfNode r.read left right sep → v.sep ≡ sep
same-separator r s v left right sep parts =
    one-separator s.past.config.nodes r.read v.left v.right v.sep left right sep v.node.level v.node.low v.node.high v.parts (parts s.past.config.nodes v.node.level v.node.low v.node.high v.node.node)

-- the node that is split, and its parent, which has room
pub planned-place : (c : Config) (r : Fork) (s : Scene) → s.past.config ≡ c → IsPlanned r s.past → HasPlace c.nodes r.middle.slot r.read r.above
planned-place c r s same v =
    let parent : HasParent s.past.config.nodes r.middle.slot v.sep r.above = record { level = v.parent.level; child = v.links.child; low = v.parent.low; high = v.parent.high; is = v.parent.parent } in
    subst (λ (z : Config). HasPlace z.nodes r.middle.slot r.read r.above) same (record {
      node = record {
        full = record { nodes = s.past.config.nodes; level = v.node.level; low = v.node.low; high = v.node.high; node = v.node.node; many = v.many };
        parent = λ left right sep parts. subst (λ z. HasParent s.past.config.nodes r.middle.slot z r.above) (same-separator r s v left right sep parts) parent;
      };
      room = λ left right sep parts. subst (HasRoom r.above) (same-separator r s v left right sep parts) v.room;
    })

pub at-guard : (r : Fork) (stage : Stage) (s : Scene) → write_facts (fork_plan r) Guard stage s → IsPlanned r s.past
at-guard r Waiting s f = f.1
at-guard r Took s f = absurd (f)

-- where the upper guard is as the path names it, the nodes may be written
pub looks-well : (o r : Fork) → ((p : Past) → IsPlanned o p → IsPlanned r p) → ((s : Scene) → Answers s o.upper.guard o.upper.status → Answers s r.upper.guard r.upper.status) → (c : Config)
    → AreMadeOf c.nodes r.middle.slot r.read r.above (r.image 0) (r.image 1) (r.image 2) (r.slot 1) (r.slot 2) → (old new : FreeSlots) → old.nodes ≡ c.nodes → LooksWell (fork_plan o) (fork_plan r) old new
looks-well o r planned answers c made old new same = record {
  ready = λ s good nodes v a taken. (
      let plan : IsPlanned r s.past = planned s.past v in
      let found : Answers s r.upper.guard r.upper.status = answers s a in
      let slots : HaveSlots s.past.config.nodes (fork_nodes r) = subst (λ z. HaveSlots z (fork_nodes r)) nodes taken.slots in
      let is : AreMadeOf s.past.config.nodes r.middle.slot r.read r.above (r.image 0) (r.image 1) (r.image 2) (r.slot 1) (r.slot 2) = subst (λ z. AreMadeOf z r.middle.slot r.read r.above (r.image 0) (r.image 1) (r.image 2) (r.slot 1) (r.slot 2)) (sym same ∙ nodes) made in (
        record {
          planned = plan;
          looked = answered-as-read s r.upper plan.links.counted (omega (arith, plan.links.node.guard.order, plan.links.node.guard.now, plan.links.is_counted)) found;
          clear = are-clear guarded_links_stand ranges_stay slots_apart links_may_be_turned r.upper r.middle r.lower r.read r.above s good plan found.value;
          halves = halves r s good plan is slots;
          over = over r s good plan is slots;
        },
        are-plain r s good plan is slots,
      ));
  none = λ s good v. tt;
}

-- what is asked for may be asked for
pub askable : (c : Config) (r : Fork) (phase : ForkPhase) (s : Scene) (todo : Todo) → s.past.config ≡ c → fork_facts r phase Waiting s → IsScene s → fork_asks c r phase ≡ Some todo → IsAskable s todo
askable c r Fresh s todo same f good e = absurd (cc)
askable c r Unread s todo same f good e = subst (IsAskable s) (some-same _ todo e) (guard-readable s r.lower good f.1.0.links.node.guard)
askable c r Tight s todo same f good e = subst (IsAskable s) (some-same _ todo e) (guard-readable s r.middle good f.1.links.down.guard)
askable c r (Word i) s todo same f good e =
    subst (IsAskable s) (some-same _ todo e)
    (subst (λ (z : Config). IsReadable s (node_address z r.middle.slot + i)) same (word-readable r.upper r.middle r.lower s good f.1.1.1.links i f.1.1.0))
askable c r Again s todo same f good e = subst (IsAskable s) (some-same _ todo e) (guard-readable s r.lower good f.1.links.node.guard)
askable c r Room s todo same f good e = subst (IsAskable s) (some-same _ todo e) (guard-readable s r.middle good f.1.links.down.guard)
askable c r (Above i) s todo same f good e =
    subst (IsAskable s) (some-same _ todo e)
    (subst (λ (z : Config). IsReadable s (node_address z r.upper.slot + i)) same (above-readable r.upper r.middle r.lower s good f.1.1.1.links i f.1.1.0))
askable c r Check s todo same f good e = subst (IsAskable s) (some-same _ todo e) (guard-readable s r.middle good f.1.links.down.guard)
askable c r NoRoom s todo same f good e = subst (IsAskable s) (some-same _ todo e) tt
askable c r (Writing w) s todo same f good e = writer-askable (fork_plan r) (sound r) c s w todo same f good e

-- a guard that differs has been changed since it was read
pub cause : (c : Config) (r : Fork) (phase : ForkPhase) (s : Scene) (seen : Seen) → fork_facts r phase Waiting s → fork_differs r.upper r.middle r.lower phase seen → IsCause (fork_asks c r phase) seen s
cause c r Unread s (Was v) f d = inl (guard-differed s r.lower v f.1.0.links.node.guard d)
cause c r Tight s (Was v) f d = inl (guard-differed s r.middle v f.1.links.down.guard d)
cause c r Again s (Was v) f d = inl (guard-differed s r.lower v f.1.links.node.guard d)
cause c r Room s (Was v) f d = inl (guard-differed s r.middle v f.1.links.down.guard d)
cause c r Check s (Was v) f d = inl (guard-differed s r.middle v f.1.links.down.guard d)
cause c r (Writing w) s seen f d = writer-cause (fork_plan r) (sound r) c s w seen f d
cause c r phase s seen f d = absurd (d)

pub few : (phase : ForkPhase) → fork_needs phase ≤ SPLIT_SLOTS
few (Writing w) = needs-few SPLIT_SLOTS w
few phase = omega arith

-- what the writer's end means
of-writer : (upper middle : Link) (outcome : Outcome) (s : Scene) → means_of (WasSplitInner upper middle) (λ p. Unit {0}) outcome s → fork_means upper middle outcome s
of-writer upper middle IsDone s m = m
of-writer upper middle Restarts s m = tt
of-writer upper middle (IsFull NoNodes) s m = tt
of-writer upper middle (IsFull NoSwaps) s m = tt
of-writer upper middle outcome s m = absurd (m)

one-outcome : (a b : Outcome) → Some a ≡ Some b → a ≡ b
one-outcome a b e = cc

pub ends : (r : Fork) (phase : ForkPhase) (s : Scene) (outcome : Outcome) → fork_facts r phase Waiting s → fork_end phase ≡ Some outcome → fork_means r.upper r.middle outcome s × HasFilled s
ends r (Writing w) s outcome f e = let means = writer-ends (fork_plan r) (sound r) w s outcome f e in (of-writer r.upper r.middle outcome s means.0, means.1)
ends r NoRoom s outcome f e = subst (λ z. fork_means r.upper r.middle z s × HasFilled s) (one-outcome NoneFits outcome e) (f.1, f.0)
ends r phase s outcome f e = absurd (cc)

-- what its acts lead to: it stores, flushes and swaps only while it writes
module _ (c : Config) (r : Fork) (s after : Scene) (same : s.past.config ≡ c) where
  at : (w : WritePhase) (asked : Option Todo) → write_asks c (fork_plan r) w ≡ asked → write_asks s.past.config (fork_plan r) w ≡ asked
  at w asked e = ap (λ z. write_asks z (fork_plan r) w) same ∙ e

  pub stored : (phase : ForkPhase) (a v : ℕ) → fork_facts r phase Waiting s → fork_asks c r phase ≡ Some (Stores_at a v) → Stores a v s after → fork_facts r phase Took after
  stored (Writing w) a v f e t = stored-here (fork_plan r) (sound r) s after w a v f (at w (Some (Stores_at a v)) e) t
  stored phase a v f e t = absurd (cc)

  pub flushed : (phase : ForkPhase) (line : ℕ) → fork_facts r phase Waiting s → fork_asks c r phase ≡ Some (Flushes_line line) → Flushes line s after → fork_facts r phase Took after
  flushed (Writing w) line f e t = flushed-here (fork_plan r) (sound r) s after w line f (at w (Some (Flushes_line line)) e) t
  flushed phase line f e t = absurd (cc)

  pub took : (phase : ForkPhase) (entries : List Entry) → fork_facts r phase Waiting s → IsScene s → fork_asks c r phase ≡ Some (Swaps_for entries) → Takes false entries s after → fork_facts r phase Took after
  took (Writing w) entries f good e takes = took-here (fork_plan r) (good-plan r) s after w entries f good (at w (Some (Swaps_for entries)) e) takes
  took phase entries f good e takes = absurd (cc)

pub effect : (c : Config) (r : Fork) (phase : ForkPhase) (s : Scene) (y : Instant) (entries : List Entry) → s.past.config ≡ c → fork_facts r phase Waiting s → IsScene s → fork_asks c r phase ≡ Some (Swaps_for entries) → Stand entries (here s) → SwapsTo s.past.config entries (here s) y → IsGoodSwap false split_change entries s y
effect c r (Writing w) s y entries same f good e stand swaps = effect-here (fork_plan r) (good-plan r) s w y entries f good (ap (λ z. write_asks z (fork_plan r) w) same ∙ e) stand swaps
effect c r phase s y entries same f good e stand swaps = absurd (cc)
