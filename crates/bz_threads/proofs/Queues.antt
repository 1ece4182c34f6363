-- A queue with what is left of each worker's calls.
use Rattle.std.proofs.Common.{◌≡◌, ◌≢◌, ◌<◌, ◌≤◌, ℕ, zero, suc, ◌+◌, List, [], ◌∷◌, ◌++◌, refl, sym, ap, subst, ◌∙◌, ne_eqb, arith, append-nil, ⊎_elim}
use Rattle.std.proofs.lemmas.Bool.{cases_lt}
use Rattle.bz_call.specs.declared.calls.Call.{Call}
use Rattle.bz_sched.specs.Queued.{calls_of}
use Rattle.bz_sched.proofs.QueueLaws.{calls_of-append}
use Rattle.bz_threads.proofs.Making.{same_worker}
use Rattle.bz_threads.specs.Inside.Batches.{paired}

calls_of-own : (w : ℕ) (calls : List Call) → calls_of w (paired w calls) ≡ paired w calls
calls_of-own w [] = refl
calls_of-own w (call ∷ calls) = rw (same_worker w) (ap (λ (xs : List (ℕ × Call)). (w, call) ∷ xs) (calls_of-own w calls))

calls_of-others : (v w : ℕ) (calls : List Call) → w ≢ v → calls_of v (paired w calls) ≡ []
calls_of-others v w [] other = refl
calls_of-others v w (call ∷ calls) other = rw (ne_eqb w v other) (calls_of-others v w calls other)

-- of each of so many workers from one on some calls are left, and such is the queue of all of them
pub collected : (P : ℕ → List (ℕ × Call) → Type 0) (w more : ℕ) → ((v : ℕ) → w ≤ v → v < w + more → (rest : List Call) × P v (paired v rest))
    → (queue : List (ℕ × Call)) × ((v : ℕ) → v < w → calls_of v queue ≡ []) × ((v : ℕ) → w ≤ v → v < w + more → P v (calls_of v queue))
collected P w zero left = ([], (λ v below. refl), (λ v from to. absurd (omega arith)))
collected P w (suc more) left =
    let (rest, here) = left w (omega arith) (omega arith) in
    let (queue, none, each) = collected P (w + 1) more (λ v from to. left v (omega arith) (omega arith)) in
    let others : (v : ℕ) → w ≢ v → calls_of v (paired w rest ++ queue) ≡ calls_of v queue =
    λ v other. calls_of-append v (paired w rest) queue ∙ ap (λ (xs : List (ℕ × Call)). xs ++ calls_of v queue) (calls_of-others v w rest other) in
    let own : calls_of w (paired w rest ++ queue) ≡ paired w rest =
    calls_of-append w (paired w rest) queue ∙ ap (λ (xs : List (ℕ × Call)). xs ++ calls_of w queue) (calls_of-own w rest)
    ∙ ap (λ (xs : List (ℕ × Call)). paired w rest ++ xs) (none w (omega arith)) ∙ append-nil (paired w rest) in (
      paired w rest ++ queue,
      (λ v below. others v (λ e. omega arith) ∙ none v (omega arith)),
      (λ v from to. ⊎_elim
          (λ after. subst (P v) (sym (others v (λ e. omega arith))) (each v (omega arith) (omega arith)))
          (λ not. subst (λ (u : ℕ). P u (calls_of u (paired w rest ++ queue))) (let is : w ≡ v = omega arith in is) (subst (P w) (sym own) here))
          (cases_lt w v)),
    )
