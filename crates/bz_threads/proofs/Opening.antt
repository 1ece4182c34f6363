-- The batches of the workers are opened one after the other.
use Rattle.std.proofs.Common.{◌≡◌, ◌≢◌, ◌<◌, ◌≤◌, ◌⊎◌, inl, inr, ⊎_elim, ℕ, ◌+◌, List, [], ◌∷◌, ◌++◌, length, length-append, refl, sym, subst, ◌∙◌, arith}
use Rattle.std.specs.Prelude.{All}
use Rattle.std.proofs.lemmas.List.Elements.{All-push, All-nil}
use Rattle.std.proofs.lemmas.Bool.{cases_lt}
use Rattle.bz_call.specs.declared.calls.Call.{Call}
use Rattle.bz_index.specs.Passes.{worker_of, seen_by, IsFree}
use Rattle.bz_index.specs.declared.index.Index.{Index}
use Rattle.bz_index.specs.declared.index.IndexPass.{IndexPass}
use Rattle.bz_index.specs.declared.shared.IndexEntry.{IndexEntry}
use Rattle.bz_layout.specs.declared.limits.TheConstants.{MAX_WORKERS}
use Rattle.bz_sched.specs.Queued.{Queued, calls_of}
use Rattle.bz_threads.specs.Inside.Batches.{IsFirstOf, IsOpened, HasBatch, CoversWorkers}
use Rattle.bz_threads.specs.declared.batch.Batch.{Batch}

pub has_push : (w : ℕ) (batches : List Batch) (batch : Batch) → HasBatch w batches → HasBatch w (batches ++ batch ∷ [])
has_push w (x ∷ batches) batch (inl is) = inl is
has_push w (x ∷ batches) batch (inr has) = inr (has_push w batches batch has)
has_push w [] batch none = absurd none

has_pushed : (w : ℕ) (batches : List Batch) (batch : Batch) → worker_of batch.pass ≡ w → HasBatch w (batches ++ batch ∷ [])
has_pushed w [] batch is = inl is
has_pushed w (x ∷ batches) batch is = inr (has_pushed w batches batch is)

pub record Opening (index : Index) (old : Queued) (first : List IndexEntry) (worker : ℕ) (p : IndexPass) (queue : Queued) (batches : List Batch) : Type 0 where
  pub pass : IsFirstOf index p
  pub seen : seen_by p ≡ first
  pub opened : All (IsOpened index old.calls first) batches
  pub done : (w : ℕ) → 0 < w → w < worker → HasBatch w batches ⊎ (IsFree p w × (calls_of w old.calls ≡ []))
  pub later : (w : ℕ) → worker ≤ w → IsFree p w
  pub same : (w : ℕ) → worker ≤ w → calls_of w queue.calls ≡ calls_of w old.calls
  pub room : queue.room ≡ old.room
  pub few : length batches < worker

pub opening_none : (index : Index) (old : Queued) (p : IndexPass) (batches : List Batch) → IsFirstOf index p → ((w : ℕ) → 0 < w → IsFree p w) → batches ≡ [] → Opening index old (seen_by p) 1 p old batches
opening_none index old p batches pass free none = rw none (record {
  pass = pass;
  seen = refl;
  opened = All-nil (IsOpened index old.calls (seen_by p));
  done = λ w some below. absurd (omega arith);
  later = λ w most. free w (omega arith);
  same = λ w most. refl;
  room = refl;
  few = omega arith;
})

-- a worker below the next one is below this one, or this one
below_next : (P : Type 0) (w worker : ℕ) → w < worker + 1 → (w < worker → P) → (w ≡ worker → P) → P
below_next P w worker below before here = ⊎_elim before (λ not. here (omega arith)) (cases_lt w worker)

module _ (index : Index) (old : Queued) (first : List IndexEntry) (worker : ℕ) (p : IndexPass) (queue : Queued) (batches : List Batch) (o : Opening index old first worker p queue batches) where
  -- none waits for the worker
  pub opening_skips : calls_of worker queue.calls ≡ [] → Opening index old first (worker + 1) p queue batches
  opening_skips none = record {
    pass = o.pass;
    seen = o.seen;
    opened = o.opened;
    done = λ w some below. below_next (HasBatch w batches ⊎ (IsFree p w × (calls_of w old.calls ≡ []))) w worker below
        (λ before. o.done w some before)
        (λ here. inr (o.later w (omega arith), subst (λ (v : ℕ). calls_of v old.calls ≡ []) (sym here) (sym (o.same worker (omega arith)) ∙ none)));
    later = λ w most. o.later w (omega arith);
    same = λ w most. o.same w (omega arith);
    room = o.room;
    few = omega (arith, o.few);
  }

  module _ (now : IndexPass) (next : Queued) (pass : IsFirstOf index now × (seen_by now ≡ seen_by p)) (free : (w : ℕ) → w ≢ worker → IsFree p w → IsFree now w) where
    -- its batch is opened
    pub opening_more : (batch : Batch) → IsOpened index queue.calls (seen_by p) batch × (worker_of batch.pass ≡ worker) → next.room ≡ queue.room
        → ((w : ℕ) → w ≢ worker → calls_of w next.calls ≡ calls_of w queue.calls) → Opening index old first (worker + 1) now next (batches ++ batch ∷ [])
    opening_more batch (is, whose) room others =
        let opened : IsOpened index old.calls first batch = record {
          pass = is.pass;
          seen = is.seen ∙ o.seen;
          calls = is.calls ∙ subst (λ (v : ℕ). calls_of v queue.calls ≡ calls_of v old.calls) (sym whose) (o.same worker (omega arith));
        } in
        record {
          pass = pass.0;
          seen = pass.1 ∙ o.seen;
          opened = All-push (IsOpened index old.calls first) batches batch o.opened opened;
          done = λ w some below. below_next (HasBatch w (batches ++ batch ∷ []) ⊎ (IsFree now w × (calls_of w old.calls ≡ []))) w worker below
              (λ before. ⊎_elim (λ has. inl (has_push w batches batch has)) (λ idle. inr (free w (λ e. omega arith) idle.0, idle.1)) (o.done w some before))
              (λ here. inl (has_pushed w batches batch (whose ∙ sym here)));
          later = λ w most. free w (λ e. omega arith) (o.later w (omega arith));
          same = λ w most. others w (λ e. omega arith) ∙ o.same w (omega arith);
          room = room ∙ o.room;
          few = omega (arith, o.few, length-append batches (batch ∷ []));
        }

    -- there is no memory for it
    pub opening_fails : IsFree now worker → CoversWorkers batches now
    opening_fails none w some most = ⊎_elim
        (λ before. ⊎_elim (λ has. inl has) (λ idle. inr (free w (λ e. omega arith) idle.0)) (o.done w some before))
        (λ from. ⊎_elim (λ after. inr (free w (λ e. omega arith) (o.later w from))) (λ here. inr (subst (IsFree now) (let is : worker ≡ w = omega arith in is) none)) (cases_lt worker w))
        (cases_lt w worker)

pub opening_done : (index : Index) (old : Queued) (first : List IndexEntry) (worker : ℕ) (p : IndexPass) (queue : Queued) (batches : List Batch) → Opening index old first worker p queue batches → MAX_WORKERS < worker
    → (w : ℕ) → 0 < w → w ≤ MAX_WORKERS → HasBatch w batches ⊎ (IsFree p w × (calls_of w old.calls ≡ []))
opening_done index old first worker p queue batches o all w some most = o.done w some (omega arith)

pub opening_covers : (p : IndexPass) (calls : List (ℕ × Call)) (batches : List Batch) → ((w : ℕ) → 0 < w → w ≤ MAX_WORKERS → HasBatch w batches ⊎ (IsFree p w × (calls_of w calls ≡ []))) → CoversWorkers batches p
opening_covers p calls batches all w some most = ⊎_elim (λ has. inl has) (λ idle. inr idle.0) (all w some most)
