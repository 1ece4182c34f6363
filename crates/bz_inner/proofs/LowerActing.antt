-- What a lowering asks for may be asked for, and what its acts lead to.
use Rattle.std.proofs.Common.{◌≡◌, ◌≢◌, ℕ, ◌+◌, ◌<◌, true, false, List, arith, refl, sym, ap, subst, ◌∙◌, inl, inr, Some}
use Rattle.std.specs.Prelude.{All}
use Rattle.std.proofs.lemmas.Bool.{true≢false}
use Rattle.bz_call.specs.declared.replies.Spent.TheVariants.{Swaps as NoSwaps}
use Rattle.bz_layout.specs.Addresses.{node_address}
use Rattle.bz_layout.specs.declared.config.Config.{Config}
use Rattle.bz_layout.specs.declared.sizes.TheConstants.{STATUS_AT, ROOT_AT}
use Rattle.bz_word.specs.Statuses.{status}
use Rattle.bz_word.specs.declared.entry.Entry.{Entry}
use Rattle.bz_word.proofs.Proved.{statuses}
use Rattle.bz_task.specs.Contract.{IsSound, ActsWell}
use Rattle.bz_task.specs.Instant.{Instant, page_at, form_at}
use Rattle.bz_task.specs.Requests.{IsAskable, IsCause, IsEntryToAsk, IsTarget}
use Rattle.bz_task.specs.Scene.{Scene, Waiting, Took, IsScene, HasFilled, here}
use Rattle.bz_task.specs.Swaps.{Stand, SwapsTo, IsGoodSwap, Takes}
use Rattle.bz_task.specs.declared.todo.Outcome.{Outcome}
use Rattle.bz_task.specs.declared.todo.Outcome.TheVariants.{Done as IsDone, Restart as Restarts, NeedsRoom, Full as IsFull}
use Rattle.bz_task.specs.declared.todo.Seen.{Seen}
use Rattle.bz_task.specs.declared.todo.Seen.TheVariants.{Read as Was}
use Rattle.bz_task.specs.declared.todo.Todo.{Todo}
use Rattle.bz_task.specs.declared.todo.Todo.TheVariants.{Store as Stores_at, Flush as Flushes_line, Swap as Swaps_for}
use Rattle.bz_task.proofs.FromSwap.EntryLists.{All-inserted}
use Rattle.bz_task.proofs.FrozenWords.{frozen-plain}
use Rattle.bz_renew.specs.Freezings.{freezing_entry}
use Rattle.bz_renew.specs.Renewals.{renewal, link_entry, guard_entry, IsTurnable}
use Rattle.bz_renew.proofs.Guards.{guard-readable, guard-differed}
use Rattle.bz_renew.proofs.Inserting.{inserted-other}
use Rattle.bz_renew.proofs.Restamping.{restamped-plain}
use Rattle.bz_renew.proofs.TwoEntries.{all-two, no-target, sets-first}
use Rattle.bz_renew.proofs.Proved.{links_may_be_turned}
use Rattle.bz_writer.specs.Phases.{no_change}
use Rattle.bz_branch.specs.FromSplit.BelowSplits.{parent_freezing, below_swap}
use Rattle.bz_branch.specs.Nodes.{IsOpenLink}
use Rattle.bz_branch.proofs.Standing.{guard-is, node-below}
use Rattle.bz_inner.specs.LowerDuties.{view_in_phase}
use Rattle.bz_inner.specs.LowerFacts.{Lowering, HasLoneRoot, IsSwapReady, WasLowered, lower_asks, lower_differs, lower_end, lower_facts, lower_means}
use Rattle.bz_inner.specs.Lowerings.{IsLowering}
use Rattle.bz_inner.specs.declared.lower_phase.LowerPhase.{LowerPhase}
use Rattle.bz_inner.specs.declared.lower_phase.LowerPhase.TheVariants.{Fresh, Status, Swap, Done, Restart, NotLone, NoSwap}
use Rattle.bz_inner.proofs.Lowering.{leads, lowerings, one-now, pointer-now, root-frozen}
use Rattle.bz_inner.proofs.LowerStaying.{stable}
use Rattle.bz_inner.proofs.Roots.{root-thawed}

some-same : (a b : Todo) → Some a ≡ Some b → a ≡ b
some-same a b e = cc

same-entries : (a b : List Entry) → Some (Swaps_for a) ≡ Some (Swaps_for b) → a ≡ b
same-entries a b e = cc

one-outcome : (a b : Outcome) → Some a ≡ Some b → a ≡ b
one-outcome a b e = cc

-- the root, where its status was no frozen node's
module _ (r : Lowering) (s : Scene) (good : IsScene s) (v : HasLoneRoot r.upper r.lower s.past) (thawed : (status r.lower.status).frozen ≡ false) where
  node : IsOpenLink r.upper.slot r.lower s.past
  node = record { guard = v.node.guard; thawed = thawed; under = v.node.under; parent = v.node.parent }

  pub lowering : IsLowering r.upper r.lower s
  lowering = record { under = v.under; node = node; slot = v.slot; one = v.one }

  upper-turns : IsTurnable r.upper s
  upper-turns = links_may_be_turned s r.upper good v.guard (root-thawed s r.upper good v.under v.guard)

  lower-turns : IsTurnable r.lower s
  lower-turns = links_may_be_turned s r.lower good v.node.guard thawed

  root-slot : r.upper.slot < s.past.config.nodes
  root-slot = node-below s r.upper.slot r.lower good node

  link-apart : r.upper.link ≢ node_address s.past.config r.upper.slot + STATUS_AT
  link-apart e = absurd (omega (arith, e, v.under.pointer))

  guard-apart : r.upper.guard ≢ node_address s.past.config r.upper.slot + STATUS_AT
  guard-apart e = absurd (omega (arith, e, v.under.guard))

  pub swap-ready : IsSwapReady s.past.config r
  swap-ready = record {
    upper_plain = upper-turns.plain;
    lower_plain = v.one.plain;
    apart = upper-turns.apart;
    slot = root-slot;
    target = no-target (link_entry r.upper r.lower.slot) (guard_entry r.upper) (node_address s.past.config r.upper.slot + STATUS_AT) link-apart guard-apart;
  }

  may-swap : All (IsEntryToAsk s) (below_swap s.past.config r.upper r.lower r.lower.slot)
  may-swap =
      let status_target : IsTarget s (node_address s.past.config r.upper.slot + STATUS_AT) = subst (IsTarget s) (guard-is s r.upper.slot r.lower good node) lower-turns.guard_target in
      All-inserted (IsEntryToAsk s) (freezing_entry s.past.config (parent_freezing r.upper r.lower)) (renewal r.upper r.lower.slot)
      (record { target = status_target; expected = v.one.plain; new = frozen-plain r.lower.status v.one.plain })
      (all-two (IsEntryToAsk s) (link_entry r.upper r.lower.slot) (guard_entry r.upper)
      (record { target = upper-turns.link_target; expected = omega (arith, root-slot, good.config.nodes_in_range.at_most); new = omega (arith, v.slot, good.config.nodes_in_range.at_most) })
      (record { target = upper-turns.guard_target; expected = upper-turns.plain; new = restamped-plain statuses r.upper.status upper-turns.plain }))

  -- once the swap took effect, the child is the root
  module _ (after : Scene) (stand : Stand (below_swap s.past.config r.upper r.lower r.lower.slot) (here s)) (takes : Takes false (below_swap s.past.config r.upper r.lower r.lower.slot) s after) where
    led-after : (here after).value ROOT_AT ≡ r.lower.slot + 1
    led-after =
        ap (here after).value (sym v.under.pointer)
        ∙ (takes.swaps.value r.upper.link
        ∙ (inserted-other (freezing_entry s.past.config (parent_freezing r.upper r.lower)) (renewal r.upper r.lower.slot) (here s).value r.upper.link (λ e. link-apart (sym e))
        ∙ sets-first (link_entry r.upper r.lower.slot) (guard_entry r.upper) (here s).value r.upper.link refl (λ e. upper-turns.apart (sym e))))

    was-now : after.past.at s.past.now ≡ s.past.at s.past.now
    was-now = takes.continues.at s.past.now (omega arith)

    frozen-after : (page_at after.past.config (here after) r.upper.slot).frozen ≡ true
    frozen-after = subst (λ (z : Config). (page_at z (here after) r.upper.slot).frozen ≡ true) (sym takes.continues.config) (root-frozen s (here after) r.upper r.lower good lowering stand takes.swaps)

    was-lowered : WasLowered r.upper r.lower after.past
    was-lowered = record {
      before = s.past.now;
      since = omega (arith, good.begun, takes.continues.since);
      now = omega (arith, takes.continues.now);
      was = ap (λ (x : Instant). x.value ROOT_AT) was-now ∙ pointer-now s (here after) r.upper r.lower good lowering stand takes.swaps;
      one = (λ t. (page_at (takes.continues.config t) (was-now t) r.upper.slot).count) ∙ one-now s (here after) r.upper r.lower good lowering stand takes.swaps;
      child = (λ t. (form_at (takes.continues.config t) (was-now t)).up r.lower.slot) ∙ (leads s (here after) r.upper r.lower good lowering stand takes.swaps).stands.up;
      led = subst (λ (m : ℕ). (after.past.at m).value ROOT_AT ≡ r.lower.slot + 1) takes.continues.now led-after;
      frozen = subst (λ (m : ℕ). (page_at after.past.config (after.past.at m) r.upper.slot).frozen ≡ true) takes.continues.now frozen-after;
    }

askable : (c : Config) (r : Lowering) (phase : LowerPhase) (s : Scene) (todo : Todo) → s.past.config ≡ c → lower_facts r phase Waiting s → IsScene s → lower_asks c r phase ≡ Some todo → IsAskable s todo
askable c r Fresh s todo same f good e = absurd (cc)
askable c r Status s todo same f good e = subst (IsAskable s) (some-same _ todo e) (guard-readable s r.lower good f.1.1.node.guard)
askable c r Swap s todo same f good e =
    subst (IsAskable s) (some-same _ todo e)
    (subst (λ (z : Config). All (IsEntryToAsk s) (below_swap z r.upper r.lower r.lower.slot)) same (may-swap r s good f.1.1.0 f.1.1.1))
askable c r Done s todo same f good e = subst (IsAskable s) (some-same _ todo e) tt
askable c r Restart s todo same f good e = subst (IsAskable s) (some-same _ todo e) tt
askable c r NotLone s todo same f good e = subst (IsAskable s) (some-same _ todo e) tt
askable c r NoSwap s todo same f good e = subst (IsAskable s) (some-same _ todo e) tt

-- a status that differs has been changed since it was read; and a frozen one is the status of a node
cause : (c : Config) (r : Lowering) (phase : LowerPhase) (s : Scene) (seen : Seen) → s.past.config ≡ c → lower_facts r phase Waiting s → lower_differs r.lower.status phase seen → IsCause (lower_asks c r phase) seen s
cause c r Status s (Was v) same f (inl ne) = inl (guard-differed s r.lower v f.1.1.node.guard ne)
cause c r Status s (Was v) same f (inr e) =
    let o = f.1.1.node in
    inr (record {
      guard = inr (record {
        slot = o.under.parent;
        address = o.under.guard;
        moment = o.guard.guarded;
        since = o.guard.since;
        now = omega (arith, o.guard.order, o.guard.now);
        reached = o.under.reached;
      });
      frozen = e;
    })
cause c r phase s seen same f d = absurd (d)

ends : (r : Lowering) (phase : LowerPhase) (s : Scene) (outcome : Outcome) → lower_facts r phase Waiting s → lower_end phase ≡ Some outcome → lower_means r outcome s × HasFilled s
ends r Done s outcome f e = subst (λ z. lower_means r z s × HasFilled s) (one-outcome IsDone outcome e) (f.1, f.0)
ends r Restart s outcome f e = subst (λ z. lower_means r z s × HasFilled s) (one-outcome Restarts outcome e) (f.1, f.0)
ends r NotLone s outcome f e = subst (λ z. lower_means r z s × HasFilled s) (one-outcome NeedsRoom outcome e) (f.1, f.0)
ends r NoSwap s outcome f e = subst (λ z. lower_means r z s × HasFilled s) (one-outcome (IsFull NoSwaps) outcome e) (f.1, f.0)
ends r phase s outcome f e = absurd (cc)

pub sound : (c : Config) (r : Lowering) (phase : LowerPhase) → IsSound (view_in_phase c r phase)
sound c r phase = record {
  stable = λ stage s after same f good l. stable r s after l phase stage f;
  askable = λ s todo same f good e. askable c r phase s todo same f good e;
  cause = λ s seen same f d. cause c r phase s seen same f d;
  few = omega arith;
  once = λ s f e. absurd (true≢false (sym e));
  ends = λ s outcome f e. ends r phase s outcome f e;
}

effect : (c : Config) (r : Lowering) (phase : LowerPhase) (s : Scene) (y : Instant) (entries : List Entry) → s.past.config ≡ c → lower_facts r phase Waiting s → IsScene s → lower_asks c r phase ≡ Some (Swaps_for entries) → Stand entries (here s) → SwapsTo s.past.config entries (here s) y
    → IsGoodSwap false no_change entries s y
effect c r Swap s y entries same f good e stand swaps =
    let is : entries ≡ below_swap s.past.config r.upper r.lower r.lower.slot = sym (same-entries _ entries e) ∙ ap (λ (z : Config). below_swap z r.upper r.lower r.lower.slot) (sym same) in
    subst (λ z. IsGoodSwap false no_change z s y) (sym is)
    (lowerings no_change s y r.upper r.lower good (lowering r s good f.1.1.0 f.1.1.1) (subst (λ z. Stand z (here s)) is stand) (subst (λ z. SwapsTo s.past.config z (here s) y) is swaps))
effect c r phase s y entries same f good e stand swaps = absurd (cc)

took : (c : Config) (r : Lowering) (phase : LowerPhase) (s after : Scene) (entries : List Entry) → s.past.config ≡ c → lower_facts r phase Waiting s → IsScene s → lower_asks c r phase ≡ Some (Swaps_for entries) → Stand entries (here s) → Takes false entries s after
    → lower_facts r phase Took after
took c r Swap s after entries same f good e stand takes =
    let is : entries ≡ below_swap s.past.config r.upper r.lower r.lower.slot = sym (same-entries _ entries e) ∙ ap (λ (z : Config). below_swap z r.upper r.lower r.lower.slot) (sym same) in (
      λ j h. takes.filled j ∙ f.0 j (sym (takes.took j) ∙ h),
      (f.1.0, was-lowered r s good f.1.1.0 f.1.1.1 after (subst (λ z. Stand z (here s)) is stand) (subst (λ z. Takes false z s after) is takes)),
    )
took c r phase s after entries same f good e stand takes = absurd (cc)

-- it stores and flushes nothing
no-store : (c : Config) (r : Lowering) (phase : LowerPhase) (a v : ℕ) → lower_asks c r phase ≡ Some (Stores_at a v) → ⊥
no-store c r Fresh a v e = absurd (cc)
no-store c r Status a v e = absurd (cc)
no-store c r Swap a v e = absurd (cc)
no-store c r phase a v e = absurd (cc)

no-flush : (c : Config) (r : Lowering) (phase : LowerPhase) (line : ℕ) → lower_asks c r phase ≡ Some (Flushes_line line) → ⊥
no-flush c r Fresh line e = absurd (cc)
no-flush c r Status line e = absurd (cc)
no-flush c r Swap line e = absurd (cc)
no-flush c r phase line e = absurd (cc)

pub acts-well : (c : Config) (r : Lowering) (phase : LowerPhase) → ActsWell (view_in_phase c r phase)
acts-well c r phase = record {
  effect = λ s y entries same f good e stand swaps. effect c r phase s y entries same f good e stand swaps;
  took = λ s after entries same f good later e stand takes. took c r phase s after entries same f good e stand takes;
  stored = λ s after a x same f good later e t. absurd (no-store c r phase a x e);
  flushed = λ s after line same f good later e t. absurd (no-flush c r phase line e);
}
