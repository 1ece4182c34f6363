-- What a writer asks for may be asked for, and what its acts lead to.
use Rattle.std.proofs.Common.{◌≡◌, ℕ, ◌*◌, ◌≤◌, false, List, arith, sym, ap, subst, ◌∙◌, inl, Some}
use Rattle.bz_layout.proofs.Laws.{slots_apart}
use Rattle.bz_layout.specs.declared.config.Config.{Config}
use Rattle.bz_layout.specs.declared.sizes.TheConstants.{NODE_WORDS}
use Rattle.bz_layout.specs.declared.thresholds.TheConstants.{SPLIT_SLOTS}
use Rattle.bz_word.specs.declared.entry.Entry.{Entry}
use Rattle.bz_task.specs.Contract.{IsSound, ActsWell}
use Rattle.bz_task.specs.Instant.{Instant}
use Rattle.bz_task.specs.OwnActs.{Stores, Flushes}
use Rattle.bz_task.specs.Requests.{IsAskable, IsCause}
use Rattle.bz_task.specs.Scene.{Scene, Waiting, Took, IsScene, HasFilled, here}
use Rattle.bz_task.specs.Swaps.{Stand, SwapsTo, IsGoodSwap, Takes}
use Rattle.bz_task.specs.declared.todo.Outcome.{Outcome}
use Rattle.bz_task.specs.declared.todo.Outcome.TheVariants.{Done as IsDone, Restart as Restarts, Full as IsFull}
use Rattle.bz_call.specs.declared.replies.Spent.TheVariants.{Nodes as NoNodes, Swaps as NoSwaps}
use Rattle.bz_task.specs.declared.todo.Seen.{Seen}
use Rattle.bz_task.specs.declared.todo.Seen.TheVariants.{Read as Was}
use Rattle.bz_task.specs.declared.todo.Todo.{Todo}
use Rattle.bz_task.specs.declared.todo.Todo.TheVariants.{Store as Stores_at, Flush as Flushes_line, Swap as Swaps_for}
use Rattle.bz_renew.specs.Nodes.{word_address, word_value, line_number}
use Rattle.bz_renew.proofs.NodeWrites.{nodes-store, nodes-flush, begun-store, node-may-store, node-may-flush}
use Rattle.bz_writer.specs.Facts.{write_asks, write_facts, write_differs, write_view}
use Rattle.bz_writer.specs.Laws.{IsSoundPlan, IsGoodPlan}
use Rattle.bz_writer.specs.Phases.{write_end, write_needs, means_of, no_change}
use Rattle.bz_writer.specs.Plans.{Plan}
use Rattle.bz_writer.specs.declared.phase.WritePhase.{WritePhase}
use Rattle.bz_writer.specs.declared.phase.WritePhase.TheVariants.{Fresh, Guard, Store, Flush, Swap, Done, Restart, NoSlot, NoSwap}
use Rattle.bz_writer.proofs.Staying.{stable}

some-same : (a b : Todo) → Some a ≡ Some b → a ≡ b
some-same a b e = cc

module _ (P : Plan) (sound : IsSoundPlan P) where
  askable-here : (s : Scene) (phase : WritePhase) (todo : Todo) → write_facts P phase Waiting s → IsScene s → write_asks s.past.config P phase ≡ Some todo → IsAskable s todo
  askable-here s Fresh todo f good e = absurd (cc)
  askable-here s Guard todo f good e = subst (IsAskable s) (some-same _ todo e) (sound.readable s good f.1)
  askable-here s (Store j) todo f good e = subst (IsAskable s) (some-same _ todo e) (node-may-store P.nodes j s f.1.0 f.1.1.plain f.1.1.writing)
  askable-here s (Flush j) todo f good e = subst (IsAskable s) (some-same _ todo e) (node-may-flush P.nodes j s f.1.1.writing.slots f.1.0)
  askable-here s Swap todo f good e = subst (IsAskable s) (some-same _ todo e) (sound.named s good f.1.ready f.1.writing.slots)
  askable-here s phase todo f good e = subst (IsAskable s) (some-same _ todo e) tt

  pub askable : (c : Config) (s : Scene) (phase : WritePhase) (todo : Todo) → s.past.config ≡ c → write_facts P phase Waiting s → IsScene s → write_asks c P phase ≡ Some todo → IsAskable s todo
  askable c s phase todo same f good e = askable-here s phase todo f good (ap (λ z. write_asks z P phase) same ∙ e)

  -- a guard that differs has been changed since it was read
  pub cause : (c : Config) (s : Scene) (phase : WritePhase) (seen : Seen) → write_facts P phase Waiting s → write_differs P.status phase seen → IsCause (write_asks c P phase) seen s
  cause c s Guard (Was v) f d = inl (sound.differed s v f.1 d)
  cause c s phase seen f d = absurd (d)

  few : (phase : WritePhase) → write_needs P.nodes.count phase ≤ SPLIT_SLOTS
  few Fresh = sound.few
  few Guard = sound.few
  few phase = omega arith

  -- what an end means, and that all slots are filled then
  pub ends : (phase : WritePhase) (s : Scene) (outcome : Outcome) → write_facts P phase Waiting s → write_end phase ≡ Some outcome → means_of P.done P.none outcome s × HasFilled s
  ends Done s outcome f e = subst (λ z. means_of P.done P.none z s × HasFilled s) (one IsDone outcome e) (f.1, f.0)
    where
      one : (a b : Outcome) → Some a ≡ Some b → a ≡ b
      one a b e = cc
  ends Restart s outcome f e = subst (λ z. means_of P.done P.none z s × HasFilled s) (one Restarts outcome e) (tt, f)
    where
      one : (a b : Outcome) → Some a ≡ Some b → a ≡ b
      one a b e = cc
  ends NoSlot s outcome f e = subst (λ z. means_of P.done P.none z s × HasFilled s) (one (IsFull NoNodes) outcome e) (f.1, f.0)
    where
      one : (a b : Outcome) → Some a ≡ Some b → a ≡ b
      one a b e = cc
  ends NoSwap s outcome f e = subst (λ z. means_of P.done P.none z s × HasFilled s) (one (IsFull NoSwaps) outcome e) (tt, f)
    where
      one : (a b : Outcome) → Some a ≡ Some b → a ≡ b
      one a b e = cc
  ends phase s outcome f e = absurd (cc)

  pub is-sound : (c : Config) (phase : WritePhase) → IsSound (write_view c P phase)
  is-sound c phase = record {
    stable = λ stage s after same f good l. stable P sound s after l phase stage f;
    askable = λ s todo same f good e. askable c s phase todo same f good e;
    cause = λ s seen same f d. cause c s phase seen f d;
    few = few phase;
    once = λ s f p. absurd (cc);
    ends = λ s outcome f e. ends phase s outcome f e;
  }

same-store : (a b v w : ℕ) → Some (Stores_at a v) ≡ Some (Stores_at b w) → (a ≡ b) × (v ≡ w)
same-store a b v w e = (cc, cc)

same-flush : (a b : ℕ) → Some (Flushes_line a) ≡ Some (Flushes_line b) → a ≡ b
same-flush a b e = cc

same-entries : (a b : List Entry) → Some (Swaps_for a) ≡ Some (Swaps_for b) → a ≡ b
same-entries a b e = cc

module _ (P : Plan) (sound : IsSoundPlan P) where
  -- a store, or a flush, is made
  pub stored-here : (s after : Scene) (phase : WritePhase) (a v : ℕ) → write_facts P phase Waiting s → write_asks s.past.config P phase ≡ Some (Stores_at a v) → Stores a v s after → write_facts P phase Took after
  stored-here s after (Store j) a v f e t =
      let is = same-store (word_address s.past.config P.nodes j) a (word_value P.nodes j) v e in
      let made : Stores (word_address s.past.config P.nodes j) (word_value P.nodes j) s after = subst (λ z. Stores z (word_value P.nodes j) s after) (sym is.0) (subst (λ z. Stores a z s after) (sym is.1) t) in
      (begun-store P.nodes j (word_value P.nodes j) s after f.0 made, (f.1.0, record { ready = sound.ready s.past after.past t.continues f.1.1.ready; plain = f.1.1.plain; writing = nodes-store slots_apart P.nodes j s after f.1.0 f.1.1.writing made }))
  stored-here s after Fresh a v f e t = absurd (cc)
  stored-here s after phase a v f e t = absurd (cc)

  pub flushed-here : (s after : Scene) (phase : WritePhase) (line : ℕ) → write_facts P phase Waiting s → write_asks s.past.config P phase ≡ Some (Flushes_line line) → Flushes line s after → write_facts P phase Took after
  flushed-here s after (Flush j) line f e t =
      let made : Flushes (line_number s.past.config P.nodes j) s after = subst (λ z. Flushes z s after) (sym (same-flush (line_number s.past.config P.nodes j) line e)) t in
      (λ k h. t.filled k ∙ f.0 k (sym (t.took k) ∙ h), (f.1.0, record { ready = sound.ready s.past after.past t.continues f.1.1.ready; plain = f.1.1.plain; writing = nodes-flush P.nodes j (NODE_WORDS * P.nodes.count) s after f.1.1.writing made }))
  flushed-here s after Fresh line f e t = absurd (cc)
  flushed-here s after phase line f e t = absurd (cc)

module _ (P : Plan) (good-plan : IsGoodPlan P) where
  -- the swap takes effect
  pub effect-here : (s : Scene) (phase : WritePhase) (y : Instant) (entries : List Entry) → write_facts P phase Waiting s → IsScene s → write_asks s.past.config P phase ≡ Some (Swaps_for entries) → Stand entries (here s) → SwapsTo s.past.config entries (here s) y → IsGoodSwap false no_change entries s y
  effect-here s Swap y entries f good e stand swaps =
      let is : P.entries s.past.config ≡ entries = same-entries (P.entries s.past.config) entries e in
      subst (λ z. IsGoodSwap false no_change z s y) is (good-plan.effect s y good f.1 (subst (λ z. Stand z (here s)) (sym is) stand) (subst (λ z. SwapsTo s.past.config z (here s) y) (sym is) swaps))
  effect-here s Fresh y entries f good e stand swaps = absurd (cc)
  effect-here s phase y entries f good e stand swaps = absurd (cc)

  pub took-here : (s after : Scene) (phase : WritePhase) (entries : List Entry) → write_facts P phase Waiting s → IsScene s → write_asks s.past.config P phase ≡ Some (Swaps_for entries) → Takes false entries s after → write_facts P phase Took after
  took-here s after Swap entries f good e takes =
      let is : P.entries s.past.config ≡ entries = same-entries (P.entries s.past.config) entries e in
      (λ k t. takes.filled k ∙ f.0 k (sym (takes.took k) ∙ t), good-plan.took s after good f.1 (subst (λ (z : List Entry). Takes false z s after) (sym is) takes))
  took-here s after Fresh entries f good e takes = absurd (cc)
  took-here s after phase entries f good e takes = absurd (cc)

pub acts-well : (c : Config) (P : Plan) → IsSoundPlan P → IsGoodPlan P → (phase : WritePhase) → ActsWell (write_view c P phase)
acts-well c P sound good-plan phase = record {
  effect = λ s y entries same f good e stand swaps. effect-here P good-plan s phase y entries f good (asks-at s same (Some (Swaps_for entries)) e) stand swaps;
  took = λ s after entries same f good later e stand takes. took-here P good-plan s after phase entries f good (asks-at s same (Some (Swaps_for entries)) e) takes;
  stored = λ s after a v same f good later e made. stored-here P sound s after phase a v f (asks-at s same (Some (Stores_at a v)) e) made;
  flushed = λ s after line same f good later e made. flushed-here P sound s after phase line f (asks-at s same (Some (Flushes_line line)) e) made;
}
  where
    asks-at : (s : Scene) → s.past.config ≡ c → (asked : _) → write_asks c P phase ≡ asked → write_asks s.past.config P phase ≡ asked
    asks-at s same asked e = ap (λ z. write_asks z P phase) same ∙ e
