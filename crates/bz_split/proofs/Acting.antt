-- The plan of a split is sound and good: its link may be turned to the root, which stands over the halves in their slots then.
use Rattle.std.proofs.Common.{◌≡◌, ℕ, ◌+◌, ◌<◌, false, List, arith, refl, sym, ap, subst, ◌∙◌, Some, Option, length}
use Rattle.std.specs.Prelude.{All, None}
use Rattle.bz_layout.specs.Slots.{FreeSlots}
use Rattle.bz_layout.specs.declared.sizes.TheConstants.{NODE_WORDS}
use Rattle.bz_tree.specs.Slots.{AreTwo}
use Rattle.bz_tree.specs.Split.{AreThree}
use Rattle.bz_slotted.specs.Readers.{found_of}
use Rattle.bz_slotted.specs.ReadingLaws.{node_of}
use Rattle.bz_slotted.specs.Rules.{node_fault}
use Rattle.bz_word.proofs.Proved.{statuses}
use Rattle.bz_content.specs.Restructures.{children_of}
use Rattle.bz_task.specs.Instant.{words}
use Rattle.bz_task.specs.Requests.{Answers, IsEntryToAsk}
use Rattle.bz_task.specs.Scene.{Past, Scene, IsScene, here}
use Rattle.bz_task.specs.Swaps.{Takes}
use Rattle.bz_halves.specs.Laws.{IsRootOver}
use Rattle.bz_halves.specs.Roots.{root_words}
use Rattle.bz_halves.proofs.Proved.{roots_stand_over_two}
use Rattle.bz_renew.specs.LinkSwaps.{IsFresh}
use Rattle.bz_renew.specs.Nodes.{HaveSlots}
use Rattle.bz_renew.specs.Renewals.{renewal, link_entry, guard_entry, IsTurnable}
use Rattle.bz_renew.proofs.Guards.{guard-readable, guard-differed, answered-as-read}
use Rattle.bz_renew.proofs.Proved.{links_may_be_turned}
use Rattle.bz_renew.proofs.Restamping.{restamped-plain}
use Rattle.bz_renew.proofs.TwoEntries.{all-two, sets-first}
use Rattle.bz_writer.specs.Laws.{IsSoundPlan, IsGoodPlan, IsWritten, LooksWell}
use Rattle.bz_writer.proofs.Written.{holds, fresh, was-unreached, stood}
use Rattle.bz_split.specs.Facts.{Split, HasParted, IsSplitting, StoodFresh, WasSplit, nodes_in, split_plan}
use Rattle.bz_split.specs.RootSplits.{StandsReady, AreFreshThree, AreReadyHalves, IsRootSplit}
use Rattle.bz_split.proofs.Making.{are-plain}
use Rattle.bz_split.proofs.Proved.{root_leaf_splits_are_good}
use Rattle.bz_split.proofs.Staying.{parted-stays, split-stays, splitting-stays}

-- the entries of the swap
may-swap : (r : Split) (s : Scene) → IsScene s → IsSplitting r s.past → r.slot 0 < s.past.config.nodes → All (IsEntryToAsk s) (renewal r.link (r.slot 0))
may-swap r s good f new =
    let t : IsTurnable r.link s = links_may_be_turned s r.link good f.parted.guard f.parted.thawed in
    let old : r.link.slot < s.past.config.nodes = f.parted.leaf.slot in
    all-two (IsEntryToAsk s) (link_entry r.link (r.slot 0)) (guard_entry r.link)
    (record { target = t.link_target; expected = omega (arith, old, good.config.nodes_in_range.at_most); new = omega (arith, new, good.config.nodes_in_range.at_most) })
    (record { target = t.guard_target; expected = t.plain; new = restamped-plain statuses r.link.status t.plain })

pub sound : (r : Split) → IsSoundPlan (split_plan r)
sound r = record {
  some = omega arith;
  few = omega arith;
  planned = λ p q c v. parted-stays p q c r.link (r.image 1) (r.image 2) r.sep v;
  ready = λ p q c v. splitting-stays p q c r v;
  done = λ p q c v. split-stays p q c r.link (r.image 1) (r.image 2) r.sep v;
  none = λ p q c v. v;
  readable = λ s good v. guard-readable s r.link good v.guard;
  differed = λ s v p ne. guard-differed s r.link v p.guard ne;
  nameable = λ s good f slots. let t : IsTurnable r.link s = links_may_be_turned s r.link good f.parted.guard f.parted.thawed in (t.plain, t.apart);
  named = λ s good f slots. may-swap r s good f (slots.within 0 (omega arith));
}

-- once all words are stored and durable, the slots hold the three nodes
module _ (r : Split) (s : Scene) (good : IsScene s) (w : IsWritten (split_plan r) s) where
  held : (n : ℕ) → n < 3 → words s.past.config (here s) (r.slot n) ≡ node_of (r.image n)
  held n h = holds (split_plan r) s w n h

  own : (n : ℕ) → n < 3 → IsFresh s (r.slot n)
  own n h = fresh (split_plan r) s w n h

  three : AreThree (r.slot 0) (r.slot 1) (r.slot 2)
  three = record {
    q_l = λ e. absurd (omega (arith, w.writing.slots.apart 0 1 (omega arith) (omega arith) e));
    q_r = λ e. absurd (omega (arith, w.writing.slots.apart 0 2 (omega arith) (omega arith) e));
    l_r = λ e. absurd (omega (arith, w.writing.slots.apart 1 2 (omega arith) (omega arith) e));
  }

  fresh-three : AreFreshThree (r.slot 0) (r.slot 1) (r.slot 2) s
  fresh-three = record { three = three; root = own 0 (omega arith); left = own 1 (omega arith); right = own 2 (omega arith) }

  over : IsRootOver s.past.config.nodes (r.slot 1) (r.slot 2) r.sep
  over = roots_stand_over_two s.past.config.nodes (r.slot 1) (r.slot 2) r.sep good.config.nodes_in_range.at_most (w.writing.slots.within 1 (omega arith)) (w.writing.slots.within 2 (omega arith)) w.ready.parted.separator

  holds-root : words s.past.config (here s) (r.slot 0) ≡ node_of (root_words (r.slot 1) (r.slot 2) r.sep)
  holds-root = held 0 (omega arith) ∙ ap node_of w.ready.over

  -- a node that breaks no rule as a list of words breaks none in its slot
  stands : (n : ℕ) (h : n < 3) (level : ℕ) (low high : Option (List ℕ)) → node_fault s.past.config.nodes (node_of (r.image n)) (node_of (r.image n)) level low high ≡ None → StandsReady s (r.slot n) level low high
  stands n h level low high e = (λ t. node_fault s.past.config.nodes (held n h t) (held n h t) level low high) ∙ e

  ready-halves : AreReadyHalves r.link.slot (r.slot 0) (r.slot 1) (r.slot 2) w.ready.parted.moment r.sep s
  ready-halves = record {
    fresh = fresh-three;
    root_whole = (λ t. node_fault s.past.config.nodes (holds-root t) (holds-root t) 1 None None) ∙ over.none;
    two = subst (λ n. AreTwo (children_of n) (r.slot 1) (r.slot 2) r.sep) (sym holds-root) over.two;
    left_whole = stands 1 (omega arith) 0 _ (Some r.sep) w.ready.parted.left_whole;
    right_whole = stands 2 (omega arith) 0 (Some r.sep) _ w.ready.parted.right_whole;
    before = λ key e. ap (λ n. found_of n key) (held 1 (omega arith)) ∙ w.ready.parted.before key e;
    from = λ key e. ap (λ n. found_of n key) (held 2 (omega arith)) ∙ w.ready.parted.from key e;
  }

  pub root-split : IsRootSplit r.link (r.slot 0) (r.slot 1) (r.slot 2) w.ready.parted.moment r.sep s
  root-split = record { under = w.ready.parted.under; leaf = w.ready.parted.leaf; halves = ready-halves }

-- once the swap took effect, the link leads to the root over the two halves; to none of the three a link had led before
module _ (r : Split) (s after : Scene) (good : IsScene s) (w : IsWritten (split_plan r) s) (takes : Takes false (renewal r.link (r.slot 0)) s after) where
  stood-fresh : (n : ℕ) → n < 3 → StoodFresh (r.slot n) (r.image n) s.past.now after.past
  stood-fresh n h = record { unreached = was-unreached (split_plan r) s w n h good (renewal r.link (r.slot 0)) after takes; copied = stood (split_plan r) s w n h good (renewal r.link (r.slot 0)) after takes }

  was-split : WasSplit r.link (r.image 1) (r.image 2) r.sep after.past
  was-split =
      let t : IsTurnable r.link s = links_may_be_turned s r.link good w.ready.parted.guard w.ready.parted.thawed in
      record {
        root_slot = r.slot 0;
        left_slot = r.slot 1;
        right_slot = r.slot 2;
        before = s.past.now;
        since = omega (arith, good.begun, takes.continues.since);
        now = omega (arith, takes.continues.now);
        led = subst (λ (m : ℕ). (after.past.at m).value r.link.link ≡ r.slot 0 + 1) takes.continues.now
            (takes.swaps.value r.link.link ∙ sets-first (link_entry r.link (r.slot 0)) (guard_entry r.link) (here s).value r.link.link refl (λ e. t.apart (sym e)));
        root = subst (λ z. StoodFresh (r.slot 0) z s.past.now after.past) w.ready.over (stood-fresh 0 (omega arith));
        left_half = stood-fresh 1 (omega arith);
        right_half = stood-fresh 2 (omega arith);
      }

pub good : (r : Split) → IsGoodPlan (split_plan r)
good r = record {
  effect = λ s y scene w stand swaps. root_leaf_splits_are_good _ s y r.link (r.slot 0) (r.slot 1) (r.slot 2) w.ready.parted.moment r.sep scene (root-split r s scene w) stand swaps;
  took = λ s after scene w takes. was-split r s after scene w takes;
}

-- where the guard is as the path names it, the nodes may be written
pub looks-well : (o r : Split) → ((p : Past) → HasParted o.link (o.image 1) (o.image 2) o.sep p → HasParted r.link (r.image 1) (r.image 2) r.sep p) → ((s : Scene) → Answers s o.link.guard o.link.status → Answers s r.link.guard r.link.status)
    → r.image 0 ≡ root_words (r.slot 1) (r.slot 2) r.sep → length (r.image 0) ≡ NODE_WORDS → (old new : FreeSlots) → LooksWell (split_plan o) (split_plan r) old new
looks-well o r parted answers over size old new = record {
  ready = λ s good nodes v a taken. (
      let w : HasParted r.link (r.image 1) (r.image 2) r.sep s.past = parted s.past v in
      (record { parted = w; looked = answered-as-read s r.link w.moment w.leaf.now (answers s a); over = over }, are-plain r s good w over size (subst (λ z. HaveSlots z (nodes_in r)) nodes taken.slots)));
  none = λ s good v. tt;
}
