-- What the split of an inner root asks for may be asked for, and what its acts lead to.
use Rattle.std.proofs.Common.{◌≡◌, ◌≢◌, Option, ℕ, ◌+◌, ◌<◌, ◌≤◌, false, List, arith, refl, sym, ap, subst, ◌∙◌, inl, inr, Some}
use Rattle.std.specs.Prelude.{All, None}
use Rattle.bz_layout.specs.Addresses.{node_address}
use Rattle.bz_layout.specs.declared.config.Config.{Config}
use Rattle.bz_layout.specs.declared.sizes.TheConstants.{NODE_WORDS, STATUS_AT}
use Rattle.bz_tree.specs.Slots.{Halves, AreTwo}
use Rattle.bz_tree.specs.Split.{AreThree}
use Rattle.bz_slotted.specs.ReadingLaws.{node_of}
use Rattle.bz_slotted.specs.Rules.{node_fault}
use Rattle.bz_task.proofs.FromSwap.EntryLists.{All-inserted}
use Rattle.bz_word.specs.declared.entry.Entry.{Entry}
use Rattle.bz_branch.specs.FromContent.Restructures.{children_of}
use Rattle.bz_task.specs.Instant.{Instant, words}
use Rattle.bz_task.specs.OwnActs.{Stores, Flushes}
use Rattle.bz_task.specs.Requests.{Answers, IsEntryToAsk, IsAskable, IsReadable, IsTarget, IsCause}
use Rattle.bz_task.specs.Scene.{Past, Scene, Stage, Waiting, Took, IsScene, HasFilled, here}
use Rattle.bz_task.specs.Swaps.{Stand, SwapsTo, IsGoodSwap, Takes}
use Rattle.bz_task.specs.declared.todo.Seen.{Seen}
use Rattle.bz_task.specs.declared.todo.Seen.TheVariants.{Read as Was}
use Rattle.bz_task.specs.declared.todo.Todo.{Todo}
use Rattle.bz_task.specs.declared.todo.Todo.TheVariants.{Store as Stores_at, Flush as Flushes_line, Swap as Swaps_for}
use Rattle.bz_task.specs.declared.path.Link.{Link}
use Rattle.bz_renew.specs.Freezings.{freezing_entry}
use Rattle.bz_renew.specs.LinkSwaps.{IsFresh}
use Rattle.bz_renew.specs.Nodes.{HaveSlots}
use Rattle.bz_renew.specs.Renewals.{renewal, link_entry, guard_entry, IsTurnable}
use Rattle.bz_task.proofs.FrozenWords.{frozen-plain}
use Rattle.bz_renew.proofs.Guards.{guard-readable, guard-differed}
use Rattle.bz_renew.proofs.Inserting.{inserted-other}
use Rattle.bz_renew.proofs.Restamping.{restamped-plain}
use Rattle.bz_renew.proofs.TwoEntries.{all-two, sets-first}
use Rattle.bz_parted.specs.Laws.{IsTallRoot}
use Rattle.bz_parted.specs.Roots.{tall_root_words}
use Rattle.bz_branch.specs.RootSplits.{AreReadyInnerHalves, IsInnerRootSplit}
use Rattle.bz_crown.specs.Facts.{Crown, crown_nodes, crown_plan, HasLinks, IsPlan, IsPlanned, IsSplitting, IsSplittable, WasSplitAtRoot, AreMadeOf, IsSwapReady, crown_asks, crown_end, crown_facts, crown_means, crown_needs, crown_differs}
use Rattle.bz_branch.specs.FromSplit.BelowSplits.{parent_freezing, below_swap}
use Rattle.bz_branch.specs.FromSplit.Facts.{StoodFresh, split_change}
use Rattle.bz_branch.specs.FromSplit.RootSplits.{AreFreshThree}
use Rattle.bz_crown.specs.declared.phase.CrownPhase.{CrownPhase}
use Rattle.bz_crown.specs.declared.phase.CrownPhase.TheVariants.{Fresh, Word, Again, TooHigh, Writing}
use Rattle.bz_writer.specs.Facts.{write_asks, write_facts}
use Rattle.bz_writer.specs.Phases.{means_of}
use Rattle.bz_writer.specs.declared.phase.WritePhase.{WritePhase}
use Rattle.bz_writer.specs.declared.phase.WritePhase.TheVariants.{Guard}
use Rattle.bz_layout.specs.Slots.{FreeSlots}
use Rattle.bz_layout.specs.declared.thresholds.TheConstants.{SPLIT_SLOTS}
use Rattle.bz_task.specs.declared.todo.Outcome.{Outcome}
use Rattle.bz_task.specs.declared.todo.Outcome.TheVariants.{Done as IsDone, Restart as Restarts, Full as IsFull}
use Rattle.bz_call.specs.declared.replies.Spent.TheVariants.{Nodes as NoNodes, Swaps as NoSwaps, Height as NoLevels}
use Rattle.bz_branch.proofs.Standing.{guard-is, node-below}
use Rattle.bz_crown.proofs.Staying.{links-stay, guarded-now, planned-stays, parts-stay, over-stays, split-stays, splitting-stays}
use Rattle.bz_parted.proofs.Proved.{roots_stand_at_levels}
use Rattle.bz_word.proofs.Proved.{statuses}
use Rattle.bz_renew.proofs.Proved.{links_may_be_turned}
use Rattle.bz_renew.proofs.TwoEntries.{no-target}
use Rattle.bz_renew.proofs.Guards.{answered-as-read}
use Rattle.bz_writer.specs.Laws.{IsSoundPlan, IsGoodPlan, IsWritten, LooksWell}
use Rattle.bz_writer.proofs.Written.{holds, fresh, was-unreached, stood}
use Rattle.bz_writer.proofs.Acting.{askable as writer-askable, cause as writer-cause, ends as writer-ends, stored-here, flushed-here, effect-here, took-here}
use Rattle.bz_writer.proofs.Sizes.{needs-few}
use Rattle.bz_branch.proofs.Proved.{inner_root_splits_are_good}
use Rattle.bz_crown.proofs.Making.{are-plain, parts, over}

some-same : (a b : Todo) → Some a ≡ Some b → a ≡ b
some-same a b e = cc

-- the root pointer and the root status are others than the root's own status
module _ (upper lower : Link) (s : Scene) (v : HasLinks upper lower s.past) where
  pub link-apart : upper.link ≢ node_address s.past.config upper.slot + STATUS_AT
  link-apart e = absurd (omega (arith, e, v.under.pointer))

  pub guard-apart : upper.guard ≢ node_address s.past.config upper.slot + STATUS_AT
  guard-apart e = absurd (omega (arith, e, v.under.guard))

module _ (upper lower : Link) (s : Scene) (good : IsScene s) (v : HasLinks upper lower s.past) where
  pub upper-slot : upper.slot < s.past.config.nodes
  upper-slot = node-below s upper.slot lower good v.node

  word-readable : (i : ℕ) → i < NODE_WORDS → IsReadable s (node_address s.past.config upper.slot + i)
  word-readable i l = record { outside = inr (omega arith); within = omega (arith, upper-slot, l) }

-- the entries of the swap
may-swap : (r : Crown) (s : Scene) → IsScene s → IsSplitting r s.past → r.slot 0 < s.past.config.nodes → All (IsEntryToAsk s) (below_swap s.past.config r.upper r.lower (r.slot 0))
may-swap r s good f new =
    let v = f.planned.links in
    let t : IsTurnable r.upper s = links_may_be_turned s r.upper good v.guard v.thawed in
    let u : IsTurnable r.lower s = links_may_be_turned s r.lower good v.node.guard v.node.thawed in
    let old : r.upper.slot < s.past.config.nodes = upper-slot r.upper r.lower s good v in
    let status_target : IsTarget s (node_address s.past.config r.upper.slot + STATUS_AT) = subst (IsTarget s) (guard-is s r.upper.slot r.lower good v.node) u.guard_target in
    All-inserted (IsEntryToAsk s) (freezing_entry s.past.config (parent_freezing r.upper r.lower)) (renewal r.upper (r.slot 0))
    (record { target = status_target; expected = u.plain; new = frozen-plain r.lower.status u.plain })
    (all-two (IsEntryToAsk s) (link_entry r.upper (r.slot 0)) (guard_entry r.upper)
    (record { target = t.link_target; expected = omega (arith, old, good.config.nodes_in_range.at_most); new = omega (arith, new, good.config.nodes_in_range.at_most) })
    (record { target = t.guard_target; expected = t.plain; new = restamped-plain statuses r.upper.status t.plain }))

swap-ready : (r : Crown) (s : Scene) → IsScene s → IsSplitting r s.past → IsSwapReady s.past.config r
swap-ready r s good f =
    let v = f.planned.links in
    let t : IsTurnable r.upper s = links_may_be_turned s r.upper good v.guard v.thawed in
    let u : IsTurnable r.lower s = links_may_be_turned s r.lower good v.node.guard v.node.thawed in
    record {
      upper_plain = t.plain;
      lower_plain = u.plain;
      apart = t.apart;
      slot = upper-slot r.upper r.lower s good v;
      target = no-target (link_entry r.upper (r.slot 0)) (guard_entry r.upper) (node_address s.past.config r.upper.slot + STATUS_AT) (link-apart r.upper r.lower s v) (guard-apart r.upper r.lower s v);
    }

pub sound : (r : Crown) → IsSoundPlan (crown_plan r)
sound r = record {
  some = omega arith;
  few = omega arith;
  planned = λ p q c v. planned-stays p q c r.upper r.lower r.read v;
  ready = λ p q c v. splitting-stays p q c r v;
  done = λ p q c v. split-stays p q c r.upper v;
  none = λ p q c v. v;
  readable = λ s good v. guard-readable s r.upper good v.links.guard;
  differed = λ s v p ne. guard-differed s r.upper v p.links.guard ne;
  nameable = λ s good f slots. swap-ready r s good f;
  named = λ s good f slots. may-swap r s good f (slots.within 0 (omega arith));
}

-- once all words are stored and durable, the slots hold the three nodes
module _ (r : Crown) (s : Scene) (w : IsWritten (crown_plan r) s) where
  held : (n : ℕ) → n < 3 → words s.past.config (here s) (r.slot n) ≡ node_of (r.image n)
  held n h = holds (crown_plan r) s w n h

  own : (n : ℕ) → n < 3 → IsFresh s (r.slot n)
  own n h = fresh (crown_plan r) s w n h

  three : AreThree (r.slot 0) (r.slot 1) (r.slot 2)
  three = record {
    q_l = λ e. absurd (omega (arith, w.writing.slots.apart 0 1 (omega arith) (omega arith) e));
    q_r = λ e. absurd (omega (arith, w.writing.slots.apart 0 2 (omega arith) (omega arith) e));
    l_r = λ e. absurd (omega (arith, w.writing.slots.apart 1 2 (omega arith) (omega arith) e));
  }

  fresh-three : AreFreshThree (r.slot 0) (r.slot 1) (r.slot 2) s
  fresh-three = record { three = three; root = own 0 (omega arith); left = own 1 (omega arith); right = own 2 (omega arith) }

  made : IsTallRoot s.past.config.nodes (r.slot 1) (r.slot 2) w.ready.sep (w.ready.planned.node.level + 1)
  made = roots_stand_at_levels s.past.config.nodes (r.slot 1) (r.slot 2) (w.ready.planned.node.level + 1) w.ready.sep w.ready.planned.node.node.few (w.writing.slots.within 1 (omega arith)) (w.writing.slots.within 2 (omega arith)) w.ready.parts.separator (omega arith) w.ready.planned.low_enough

  holds-root : words s.past.config (here s) (r.slot 0) ≡ node_of (tall_root_words (r.slot 1) (r.slot 2) w.ready.sep (w.ready.planned.node.level + 1))
  holds-root = held 0 (omega arith) ∙ ap node_of w.ready.over

  ready : AreReadyInnerHalves r.upper.slot w.ready.planned.links.guarded w.ready.parts.cut (r.slot 0) (r.slot 1) (r.slot 2) w.ready.sep s
  ready = record {
    fresh = fresh-three;
    root_whole = (λ t. node_fault s.past.config.nodes (holds-root t) (holds-root t) (w.ready.planned.node.level_is t + 1) None None) ∙ made.none;
    two = subst (λ n. AreTwo (children_of n) (r.slot 1) (r.slot 2) w.ready.sep) (sym holds-root) made.two;
    left_whole = (λ t. node_fault s.past.config.nodes (held 1 (omega arith) t) (held 1 (omega arith) t) (w.ready.planned.node.level_is t) (w.ready.planned.node.low_is t) (Some w.ready.sep)) ∙ w.ready.parts.left_whole;
    right_whole = (λ t. node_fault s.past.config.nodes (held 2 (omega arith) t) (held 2 (omega arith) t) (w.ready.planned.node.level_is t) (Some w.ready.sep) (w.ready.planned.node.high_is t)) ∙ w.ready.parts.right_whole;
    halves = subst (λ n. Halves (children_of n) (children_of (words s.past.config (here s) (r.slot 1))) (children_of (words s.past.config (here s) (r.slot 2))) w.ready.parts.cut w.ready.sep) (sym w.ready.planned.node.were)
        (subst (λ n. Halves (children_of (node_of r.read)) (children_of n) (children_of (words s.past.config (here s) (r.slot 2))) w.ready.parts.cut w.ready.sep) (sym (held 1 (omega arith)))
        (subst (λ n. Halves (children_of (node_of r.read)) (children_of (node_of (r.image 1))) (children_of n) w.ready.parts.cut w.ready.sep) (sym (held 2 (omega arith))) w.ready.parts.halves));
  }

  pub root-split : IsInnerRootSplit r.upper r.lower (r.slot 0) (r.slot 1) (r.slot 2) w.ready.parts.cut w.ready.sep s
  root-split = record {
    under = w.ready.planned.links.under;
    node = w.ready.planned.links.node;
    ready = subst (λ z. AreReadyInnerHalves r.upper.slot z w.ready.parts.cut (r.slot 0) (r.slot 1) (r.slot 2) w.ready.sep s) (sym w.ready.planned.links.is_guarded) ready;
  }

-- once the swap took effect, the root link leads to the new root; to none of the three a link had led before
module _ (r : Crown) (s after : Scene) (good : IsScene s) (w : IsWritten (crown_plan r) s) (takes : Takes false (below_swap s.past.config r.upper r.lower (r.slot 0)) s after) where
  stood-fresh : (n : ℕ) → n < 3 → StoodFresh (r.slot n) (r.image n) s.past.now after.past
  stood-fresh n h = record { unreached = was-unreached (crown_plan r) s w n h good (below_swap s.past.config r.upper r.lower (r.slot 0)) after takes; copied = stood (crown_plan r) s w n h good (below_swap s.past.config r.upper r.lower (r.slot 0)) after takes }

  led-after : (here after).value r.upper.link ≡ r.slot 0 + 1
  led-after =
      let v = w.ready.planned.links in
      let t : IsTurnable r.upper s = links_may_be_turned s r.upper good v.guard v.thawed in
      takes.swaps.value r.upper.link
      ∙ (inserted-other (freezing_entry s.past.config (parent_freezing r.upper r.lower)) (renewal r.upper (r.slot 0)) (here s).value r.upper.link (λ e. link-apart r.upper r.lower s v (sym e))
      ∙ sets-first (link_entry r.upper (r.slot 0)) (guard_entry r.upper) (here s).value r.upper.link refl (λ e. t.apart (sym e)))

  -- what the old root was stays known
  abbrev plan : IsPlan r.upper r.lower r.read after.past
  plan = planned-stays s.past after.past takes.continues r.upper r.lower r.read w.ready.planned

  was-split : WasSplitAtRoot r.upper after.past
  unfolding planned-stays links-stay
  was-split = record {
    root_slot = r.slot 0;
    left_slot = r.slot 1;
    right_slot = r.slot 2;
    read = r.read;
    left = r.image 1;
    right = r.image 2;
    sep = w.ready.sep;
    moment = plan.links.guarded;
    before = s.past.now;
    since = omega (arith, plan.links.node.guard.since, plan.links.is_guarded);
    order = guarded-now s.past after.past takes.continues r.upper r.lower w.ready.planned.links;
    now = omega (arith, takes.continues.now);
    old = plan.node;
    parts = parts-stay s.past after.past takes.continues r.upper r.lower r.read (r.image 1) (r.image 2) w.ready.sep w.ready.planned w.ready.parts;
    led = subst (λ (m : ℕ). (after.past.at m).value r.upper.link ≡ r.slot 0 + 1) takes.continues.now led-after;
    root = subst (λ z. StoodFresh (r.slot 0) z s.past.now after.past) (over-stays s.past after.past takes.continues r.upper r.lower r.read w.ready.planned (r.image 0) (r.slot 1) (r.slot 2) w.ready.sep w.ready.over) (stood-fresh 0 (omega arith));
    left_half = stood-fresh 1 (omega arith);
    right_half = stood-fresh 2 (omega arith);
  }

pub good-plan : (r : Crown) → IsGoodPlan (crown_plan r)
good-plan r = record {
  effect = λ s y good w stand swaps. inner_root_splits_are_good _ s y r.upper r.lower (r.slot 0) (r.slot 1) (r.slot 2) w.ready.parts.cut w.ready.sep good (root-split r s w) stand swaps;
  took = λ s after good w takes. was-split r s after good w takes;
}

-- the node that is split
pub planned-node : (r : Crown) (s : Scene) → IsPlanned r s.past → IsSplittable r.read
planned-node r s g =
    record { full = record { nodes = s.past.config.nodes; level = g.node.level; low = g.node.low; high = g.node.high; node = g.node.node; many = g.many }; low_enough = g.low_enough }

pub at-guard : (r : Crown) (stage : Stage) (s : Scene) → write_facts (crown_plan r) Guard stage s → IsPlanned r s.past
at-guard r Waiting s f = f.1
at-guard r Took s f = absurd (f)

-- where the root status is as the path names it, the nodes may be written
pub looks-well : (o r : Crown) → ((p : Past) → IsPlanned o p → IsPlanned r p) → ((s : Scene) → Answers s o.upper.guard o.upper.status → Answers s r.upper.guard r.upper.status)
    → AreMadeOf r.read (r.image 0) (r.image 1) (r.image 2) (r.slot 1) (r.slot 2) → (old new : FreeSlots) → LooksWell (crown_plan o) (crown_plan r) old new
looks-well o r planned answers made old new = record {
  ready = λ s good nodes v a taken. (
      let plan : IsPlanned r s.past = planned s.past v in
      let slots : HaveSlots s.past.config.nodes (crown_nodes r) = subst (λ z. HaveSlots z (crown_nodes r)) nodes taken.slots in (
        record {
          planned = plan;
          looked = answered-as-read s r.upper plan.links.guarded (omega (arith, plan.links.node.guard.order, plan.links.node.guard.now, plan.links.is_guarded)) (answers s a);
          sep = made.sep;
          parts = parts r s good plan made slots;
          over = over r s good plan made slots;
        },
        are-plain r s good plan made slots,
      ));
  none = λ s good v. tt;
}

-- what is asked for may be asked for
pub askable : (c : Config) (r : Crown) (phase : CrownPhase) (s : Scene) (todo : Todo) → s.past.config ≡ c → crown_facts r phase Waiting s → IsScene s → crown_asks c r phase ≡ Some todo → IsAskable s todo
askable c r Fresh s todo same f good e = absurd (cc)
askable c r (Word i) s todo same f good e =
    subst (IsAskable s) (some-same _ todo e)
    (subst (λ (z : Config). IsReadable s (node_address z r.upper.slot + i)) same (word-readable r.upper r.lower s good f.1.1.1.links i f.1.1.0))
askable c r Again s todo same f good e = subst (IsAskable s) (some-same _ todo e) (guard-readable s r.lower good f.1.links.node.guard)
askable c r TooHigh s todo same f good e = subst (IsAskable s) (some-same _ todo e) tt
askable c r (Writing w) s todo same f good e = writer-askable (crown_plan r) (sound r) c s w todo same f good e

-- a guard that differs has been changed since it was read
pub cause : (c : Config) (r : Crown) (phase : CrownPhase) (s : Scene) (seen : Seen) → crown_facts r phase Waiting s → crown_differs r.upper r.lower phase seen → IsCause (crown_asks c r phase) seen s
cause c r Again s (Was v) f d = inl (guard-differed s r.lower v f.1.links.node.guard d)
cause c r (Writing w) s seen f d = writer-cause (crown_plan r) (sound r) c s w seen f d
cause c r phase s seen f d = absurd (d)

pub few : (phase : CrownPhase) → crown_needs phase ≤ SPLIT_SLOTS
few (Writing w) = needs-few SPLIT_SLOTS w
few phase = omega arith

-- what the writer's end means
of-writer : (upper : Link) (outcome : Outcome) (s : Scene) → means_of (WasSplitAtRoot upper) (λ p. Unit {0}) outcome s → crown_means upper outcome s
of-writer upper IsDone s m = m
of-writer upper Restarts s m = tt
of-writer upper (IsFull NoNodes) s m = tt
of-writer upper (IsFull NoSwaps) s m = tt
of-writer upper outcome s m = absurd (m)

one-outcome : (a b : Outcome) → Some a ≡ Some b → a ≡ b
one-outcome a b e = cc

pub ends : (r : Crown) (phase : CrownPhase) (s : Scene) (outcome : Outcome) → crown_facts r phase Waiting s → crown_end phase ≡ Some outcome → crown_means r.upper outcome s × HasFilled s
ends r (Writing w) s outcome f e = let means = writer-ends (crown_plan r) (sound r) w s outcome f e in (of-writer r.upper outcome s means.0, means.1)
ends r TooHigh s outcome f e = subst (λ z. crown_means r.upper z s × HasFilled s) (one-outcome (IsFull NoLevels) outcome e) (f.1, f.0)
ends r phase s outcome f e = absurd (cc)

-- what its acts lead to: it stores, flushes and swaps only while it writes
module _ (c : Config) (r : Crown) (s after : Scene) (same : s.past.config ≡ c) where
  at : (w : WritePhase) (asked : Option Todo) → write_asks c (crown_plan r) w ≡ asked → write_asks s.past.config (crown_plan r) w ≡ asked
  at w asked e = ap (λ z. write_asks z (crown_plan r) w) same ∙ e

  pub stored : (phase : CrownPhase) (a v : ℕ) → crown_facts r phase Waiting s → crown_asks c r phase ≡ Some (Stores_at a v) → Stores a v s after → crown_facts r phase Took after
  stored (Writing w) a v f e t = stored-here (crown_plan r) (sound r) s after w a v f (at w (Some (Stores_at a v)) e) t
  stored phase a v f e t = absurd (cc)

  pub flushed : (phase : CrownPhase) (line : ℕ) → crown_facts r phase Waiting s → crown_asks c r phase ≡ Some (Flushes_line line) → Flushes line s after → crown_facts r phase Took after
  flushed (Writing w) line f e t = flushed-here (crown_plan r) (sound r) s after w line f (at w (Some (Flushes_line line)) e) t
  flushed phase line f e t = absurd (cc)

  pub took : (phase : CrownPhase) (entries : List Entry) → crown_facts r phase Waiting s → IsScene s → crown_asks c r phase ≡ Some (Swaps_for entries) → Takes false entries s after → crown_facts r phase Took after
  took (Writing w) entries f good e takes = took-here (crown_plan r) (good-plan r) s after w entries f good (at w (Some (Swaps_for entries)) e) takes
  took phase entries f good e takes = absurd (cc)

pub effect : (c : Config) (r : Crown) (phase : CrownPhase) (s : Scene) (y : Instant) (entries : List Entry) → s.past.config ≡ c → crown_facts r phase Waiting s → IsScene s → crown_asks c r phase ≡ Some (Swaps_for entries) → Stand entries (here s) → SwapsTo s.past.config entries (here s) y → IsGoodSwap false split_change entries s y
effect c r (Writing w) s y entries same f good e stand swaps = effect-here (crown_plan r) (good-plan r) s w y entries f good (ap (λ z. write_asks z (crown_plan r) w) same ∙ e) stand swaps
effect c r phase s y entries same f good e stand swaps = absurd (cc)
