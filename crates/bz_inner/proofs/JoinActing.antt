-- What a merge of two inner nodes asks for may be asked for, and what its acts lead to.
use Rattle.std.proofs.Common.{◌≡◌, ◌≢◌, ℕ, ◌+◌, ◌<◌, ◌≤◌, Bool, true, false, List, arith, sym, ap, subst, ◌∙◌, inl, inr, ◌⊎◌, slice_index, Option, Some}
use Rattle.std.proofs.lemmas.Bool.{true≢false}
use Rattle.bz_call.specs.declared.replies.Spent.TheVariants.{Nodes as NoNodes, Swaps as NoSwaps}
use Rattle.bz_layout.specs.Addresses.{node_address}
use Rattle.bz_layout.specs.declared.config.Config.{Config}
use Rattle.bz_layout.specs.declared.sizes.TheConstants.{NODE_WORDS, STATUS_AT}
use Rattle.bz_layout.specs.declared.thresholds.TheConstants.{MERGE_SLOTS, SPLIT_SLOTS}
use Rattle.bz_word.specs.Statuses.{status}
use Rattle.bz_word.specs.declared.entry.Entry.{Entry}
use Rattle.bz_task.specs.Contract.{IsSound, ActsWell}
use Rattle.bz_task.specs.Instant.{Instant}
use Rattle.bz_task.specs.OwnActs.{Stores, Flushes}
use Rattle.bz_task.specs.Requests.{Differed, IsAskable, IsReadable, IsCause}
use Rattle.bz_task.specs.Scene.{Past, Scene, Waiting, Took, IsScene, HasFilled, here}
use Rattle.bz_task.specs.Swaps.{Stand, SwapsTo, IsGoodSwap, Takes}
use Rattle.bz_task.specs.declared.path.Link.{Link}
use Rattle.bz_task.specs.declared.todo.Outcome.{Outcome}
use Rattle.bz_task.specs.declared.todo.Outcome.TheVariants.{Done as IsDone, Restart as Restarts, NeedsRoom, Full as IsFull}
use Rattle.bz_task.specs.declared.todo.Seen.{Seen}
use Rattle.bz_task.specs.declared.todo.Seen.TheVariants.{Read as Was}
use Rattle.bz_task.specs.declared.todo.Todo.{Todo}
use Rattle.bz_task.specs.declared.todo.Todo.TheVariants.{Read as Reads, Store as Stores_at, Flush as Flushes_line, Swap as Swaps_for}
use Rattle.bz_renew.proofs.Guards.{guard-readable, guard-differed}
use Rattle.bz_renew.proofs.Words.{node-at}
use Rattle.bz_writer.specs.Facts.{write_asks}
use Rattle.bz_writer.specs.Phases.{means_of, no_change}
use Rattle.bz_writer.specs.declared.phase.WritePhase.{WritePhase}
use Rattle.bz_writer.proofs.Acting.{askable as writer-askable, cause as writer-cause, ends as writer-ends, stored-here, flushed-here, effect-here, took-here}
use Rattle.bz_writer.proofs.Sizes.{needs-few}
use Rattle.bz_inner.specs.JoinDuties.{view_joining}
use Rattle.bz_inner.specs.JoinFacts.{joining_asks, joining_differs, joining_end, joining_facts, joining_means, joining_needs, joining_plan}
use Rattle.bz_inner.specs.Joinings.{Joining, IsPaired, IsReadingBeside, WasJoined}
use Rattle.bz_inner.specs.LowerFacts.{IsLinkIn}
use Rattle.bz_inner.specs.Neighbours.{first_of, second_of, StoodBeside}
use Rattle.bz_inner.specs.declared.join_phase.JoinPhase.{JoinPhase}
use Rattle.bz_inner.specs.declared.join_phase.JoinPhase.TheVariants.{Fresh, Pointer, Above, AboveAgain, Own, OwnAgain, Status, Beside, BesideAgain, NoRoom, Writing}
use Rattle.bz_inner.proofs.JoinPlans.{sound, good-plan, root-readable}
use Rattle.bz_inner.proofs.JoinReading.{link-slot}
use Rattle.bz_inner.proofs.JoinStaying.{stable}

some-same : (a b : Todo) → Some a ≡ Some b → a ≡ b
some-same a b e = cc

-- a word of a node of the memory may be read
word-readable : (s : Scene) (k i : ℕ) → k < s.past.config.nodes → i < NODE_WORDS → IsReadable s (node_address s.past.config k + i)
word-readable s k i slot l = record { outside = inr (omega arith); within = omega (arith, slot, l) }

-- the neighbour had been reached
beside-reached : (right : Bool) (own other m : ℕ) (sep : List ℕ) (p : Past) → StoodBeside (first_of right own other) (second_of right own other) m sep p → (p.at m).reached other ≡ true
beside-reached true own other m sep p v = v.right.reached
beside-reached false own other m sep p v = v.left.reached

pub beside-slot : (r : Joining) (s : Scene) → IsScene s → IsPaired r s.past → r.beside_slot < s.past.config.nodes
beside-slot r s good v = (good.history.good v.at v.stood.since v.stood.now).slots r.beside_slot (beside-reached r.right r.middle.slot r.beside_slot v.at _ s.past v.stood)

-- what is asked for may be asked for
askable : (c : Config) (r : Joining) (phase : JoinPhase) (s : Scene) (todo : Todo) → s.past.config ≡ c → joining_facts r phase Waiting s → IsScene s → joining_asks c r phase ≡ Some todo → IsAskable s todo
askable c r Fresh s todo same f good e = absurd (cc)
askable c r Pointer s todo same f good e = subst (IsAskable s) (some-same _ todo e) (root-readable s)
askable c r (Above i) s todo same f good e =
    subst (IsAskable s) (some-same _ todo e)
    (subst (λ (z : Config). IsReadable s (node_address z r.upper.slot + i)) same (word-readable s r.upper.slot i (link-slot s r.upper.slot r.middle good f.1.1.1.links.parent) f.1.1.0))
askable c r AboveAgain s todo same f good e = subst (IsAskable s) (some-same _ todo e) (guard-readable s r.middle good f.1.links.parent.guard)
askable c r (Own i) s todo same f good e =
    subst (IsAskable s) (some-same _ todo e)
    (subst (λ (z : Config). IsReadable s (node_address z r.middle.slot + i)) same (word-readable s r.middle.slot i (link-slot s r.middle.slot r.lower good f.1.1.1.paired.links.own) f.1.1.0))
askable c r OwnAgain s todo same f good e = subst (IsAskable s) (some-same _ todo e) (guard-readable s r.lower good f.1.paired.links.own.guard)
askable c r Status s todo same f good e =
    subst (IsAskable s) (some-same _ todo e)
    (subst (λ (z : Config). IsReadable s (node_address z r.beside_slot + STATUS_AT)) same (word-readable s r.beside_slot STATUS_AT (beside-slot r s good f.1.paired) (omega arith)))
askable c r (Beside i) s todo same f good e =
    subst (IsAskable s) (some-same _ todo e)
    (subst (λ (z : Config). IsReadable s (node_address z r.beside_slot + i)) same (word-readable s r.beside_slot i (beside-slot r s good f.1.1.1.has.paired) f.1.1.0))
askable c r BesideAgain s todo same f good e =
    subst (IsAskable s) (some-same _ todo e)
    (subst (λ (z : Config). IsReadable s (node_address z r.beside_slot + STATUS_AT)) same (word-readable s r.beside_slot STATUS_AT (beside-slot r s good f.1.has.paired) (omega arith)))
askable c r NoRoom s todo same f good e = subst (IsAskable s) (some-same _ todo e) tt
askable c r (Writing w) s todo same f good e = writer-askable (joining_plan r) (sound r) c s w todo same f good e

-- the guard of a link in a node is frozen, or has changed since it was read
link-cause : (s : Scene) (k : ℕ) (link : Link) (v : ℕ) → IsLinkIn k link s.past → (v ≢ link.status) ⊎ ((status v).frozen ≡ true) → IsCause (Some (Reads link.guard)) (Was v) s
link-cause s k link v o (inl ne) = inl (guard-differed s link v o.guard ne)
link-cause s k link v o (inr e) = inr (record {
  guard = inr (record {
    slot = o.under.parent;
    address = o.under.guard;
    moment = o.guard.guarded;
    since = o.guard.since;
    now = omega (arith, o.guard.order, o.guard.now);
    reached = o.under.reached;
  });
  frozen = e;
})

-- the neighbour's status is another one than it was
beside-differed : (r : Joining) (s : Scene) (place v : ℕ) → IsReadingBeside r place s.past → v ≢ slice_index r.beside STATUS_AT → Differed s (node_address s.past.config r.beside_slot + STATUS_AT) v
beside-differed r s place v f ne = record {
  moment = f.at;
  since = omega (arith, f.has.paired.stood.since, f.later);
  now = f.now;
  other = λ e. ne (sym e ∙ (sym (node-at s.past.config (s.past.at f.at).value r.beside_slot STATUS_AT (omega arith)) ∙ f.status));
}

-- a load that differs tells that something was changed, or is frozen
cause : (c : Config) (r : Joining) (phase : JoinPhase) (s : Scene) (seen : Seen) → s.past.config ≡ c → joining_facts r phase Waiting s → joining_differs r phase seen → IsCause (joining_asks c r phase) seen s
cause c r AboveAgain s (Was v) same f d = link-cause s r.upper.slot r.middle v f.1.links.parent d
cause c r OwnAgain s (Was v) same f d = link-cause s r.middle.slot r.lower v f.1.paired.links.own d
cause c r Status s (Was v) same f d =
    let p = f.1.paired in
    inr (record {
      guard = inr (record {
        slot = r.beside_slot;
        address = ap (λ (z : Config). node_address z r.beside_slot + STATUS_AT) (sym same);
        moment = p.at;
        since = p.stood.since;
        now = p.stood.now;
        reached = beside-reached r.right r.middle.slot r.beside_slot p.at _ s.past p.stood;
      });
      frozen = d;
    })
cause c r BesideAgain s (Was v) same f d = inl (subst (λ (z : Config). Differed s (node_address z r.beside_slot + STATUS_AT) v) same (beside-differed r s NODE_WORDS v f.1 d))
cause c r (Writing w) s seen same f d = writer-cause (joining_plan r) (sound r) c s w seen f d
cause c r phase s seen same f d = absurd (d)

few : (phase : JoinPhase) → joining_needs phase ≤ SPLIT_SLOTS
few (Writing w) = omega (arith, needs-few MERGE_SLOTS w)
few NoRoom = omega arith
few phase = omega arith

-- what the writer's end means
of-writer : (upper middle lower : Link) (outcome : Outcome) (s : Scene) → means_of (WasJoined upper middle) (λ p. Unit {0}) outcome s → joining_means upper middle lower outcome s
of-writer upper middle lower IsDone s m = m
of-writer upper middle lower Restarts s m = tt
of-writer upper middle lower (IsFull NoNodes) s m = tt
of-writer upper middle lower (IsFull NoSwaps) s m = tt
of-writer upper middle lower outcome s m = absurd (m)

one-outcome : (a b : Outcome) → Some a ≡ Some b → a ≡ b
one-outcome a b e = cc

ends : (r : Joining) (phase : JoinPhase) (s : Scene) (outcome : Outcome) → joining_facts r phase Waiting s → joining_end phase ≡ Some outcome → joining_means r.upper r.middle r.lower outcome s × HasFilled s
ends r (Writing w) s outcome f e = let means = writer-ends (joining_plan r) (sound r) w s outcome f e in (of-writer r.upper r.middle r.lower outcome s means.0, means.1)
ends r NoRoom s outcome f e = subst (λ z. joining_means r.upper r.middle r.lower z s × HasFilled s) (one-outcome NeedsRoom outcome e) (f.1, f.0)
ends r phase s outcome f e = absurd (cc)

pub is-sound : (c : Config) (r : Joining) (phase : JoinPhase) → IsSound (view_joining c r phase)
is-sound c r phase = record {
  stable = λ stage s after same f good l. stable r (sound r) s after l phase stage f;
  askable = λ s todo same f good e. askable c r phase s todo same f good e;
  cause = λ s seen same f d. cause c r phase s seen same f d;
  few = few phase;
  once = λ s f e. absurd (true≢false (sym e));
  ends = λ s outcome f e. ends r phase s outcome f e;
}

-- what its acts lead to: it stores, flushes and swaps only while it writes
module _ (c : Config) (r : Joining) (s after : Scene) (same : s.past.config ≡ c) where
  at : (w : WritePhase) (asked : Option Todo) → write_asks c (joining_plan r) w ≡ asked → write_asks s.past.config (joining_plan r) w ≡ asked
  at w asked e = ap (λ z. write_asks z (joining_plan r) w) same ∙ e

  stored : (phase : JoinPhase) (a v : ℕ) → joining_facts r phase Waiting s → joining_asks c r phase ≡ Some (Stores_at a v) → Stores a v s after → joining_facts r phase Took after
  stored (Writing w) a v f e t = stored-here (joining_plan r) (sound r) s after w a v f (at w (Some (Stores_at a v)) e) t
  stored phase a v f e t = absurd (cc)

  flushed : (phase : JoinPhase) (line : ℕ) → joining_facts r phase Waiting s → joining_asks c r phase ≡ Some (Flushes_line line) → Flushes line s after → joining_facts r phase Took after
  flushed (Writing w) line f e t = flushed-here (joining_plan r) (sound r) s after w line f (at w (Some (Flushes_line line)) e) t
  flushed phase line f e t = absurd (cc)

  took : (phase : JoinPhase) (entries : List Entry) → joining_facts r phase Waiting s → IsScene s → joining_asks c r phase ≡ Some (Swaps_for entries) → Takes false entries s after → joining_facts r phase Took after
  took (Writing w) entries f good e takes = took-here (joining_plan r) (good-plan r) s after w entries f good (at w (Some (Swaps_for entries)) e) takes
  took phase entries f good e takes = absurd (cc)

effect : (c : Config) (r : Joining) (phase : JoinPhase) (s : Scene) (y : Instant) (entries : List Entry) → s.past.config ≡ c → joining_facts r phase Waiting s → IsScene s → joining_asks c r phase ≡ Some (Swaps_for entries) → Stand entries (here s) → SwapsTo s.past.config entries (here s) y
    → IsGoodSwap false no_change entries s y
effect c r (Writing w) s y entries same f good e stand swaps = effect-here (joining_plan r) (good-plan r) s w y entries f good (ap (λ z. write_asks z (joining_plan r) w) same ∙ e) stand swaps
effect c r phase s y entries same f good e stand swaps = absurd (cc)

pub acts-well : (c : Config) (r : Joining) (phase : JoinPhase) → ActsWell (view_joining c r phase)
acts-well c r phase = record {
  effect = λ s y entries same f good e stand swaps. effect c r phase s y entries same f good e stand swaps;
  took = λ s after entries same f good later e stand takes. took c r s after same phase entries f good e takes;
  stored = λ s after a x same f good later e t. stored c r s after same phase a x f e t;
  flushed = λ s after line same f good later e t. flushed c r s after same phase line f e t;
}
