-- The calls of a worker are taken out of the queue one after the other.
use Rattle.std.proofs.Common.{◌≡◌, ◌≢◌, ◌<◌, ℕ, false, List, [], ◌∷◌, ◌++◌, length, drop, refl, sym, ap, ◌∙◌, arith, append_assoc, append-nil, Some, None}
use Rattle.bz_call.specs.declared.calls.Call.{Call}
use Rattle.bz_sched.specs.Queued.{Queued, calls_of, without_first, is_busy_by, IsFirst}
use Rattle.bz_sched.proofs.QueueLaws.{calls_of-without, calls_of-taken}
use Rattle.bz_threads.specs.Inside.Batches.{paired}

pub record Taking (worker : ℕ) (old now : Queued) (calls : List Call) : Type 0 where
  pub room : now.room ≡ old.room
  pub others : (w : ℕ) → w ≢ worker → calls_of w now.calls ≡ calls_of w old.calls
  pub taken : paired worker calls ++ calls_of worker now.calls ≡ calls_of worker old.calls

pub taking_none : (worker : ℕ) (old : Queued) → Taking worker old old []
taking_none worker old = record { room = refl; others = λ w other. refl; taken = refl }

paired-push : (w : ℕ) (calls : List Call) (call : Call) → paired w (calls ++ call ∷ []) ≡ paired w calls ++ (w, call) ∷ []
paired-push w [] call = refl
paired-push w (x ∷ calls) call = ap (λ (xs : List (ℕ × Call)). (w, x) ∷ xs) (paired-push w calls call)

pub paired-append : (w : ℕ) (xs ys : List Call) → paired w (xs ++ ys) ≡ paired w xs ++ paired w ys
paired-append w [] ys = refl
paired-append w (x ∷ xs) ys = ap (λ (calls : List (ℕ × Call)). (w, x) ∷ calls) (paired-append w xs ys)

left_behind : (w : ℕ) (old next : Queued) (call : Call) → next.calls ≡ without_first w old.calls → (first : IsFirst w (calls_of w old.calls) (Some call)) → calls_of w next.calls ≡ first.0
left_behind w old next call is first = ap (calls_of w) is ∙ calls_of-taken w old.calls ∙ ap (drop 1) first.1

module _ (worker : ℕ) (old now next : Queued) (calls : List Call) (t : Taking worker old now calls) (is : next.calls ≡ without_first worker now.calls) (room : next.room ≡ now.room) where
  pub others_stay : (w : ℕ) → w ≢ worker → calls_of w next.calls ≡ calls_of w old.calls
  others_stay w other = ap (calls_of w) is ∙ calls_of-without w worker now.calls other ∙ t.others w other

  pub taking_more : (call : Call) → IsFirst worker (calls_of worker now.calls) (Some call) → Taking worker old next (calls ++ call ∷ [])
  taking_more call first = record {
    room = room ∙ t.room;
    others = others_stay;
    taken = ap (λ (xs : List (ℕ × Call)). xs ++ calls_of worker next.calls) (paired-push worker calls call)
        ∙ append_assoc (paired worker calls) ((worker, call) ∷ []) (calls_of worker next.calls)
        ∙ ap (λ (xs : List (ℕ × Call)). paired worker calls ++ (worker, call) ∷ xs) (left_behind worker now next call is first)
        ∙ ap (λ (xs : List (ℕ × Call)). paired worker calls ++ xs) (sym first.1)
        ∙ t.taken;
  }

  -- a worker without a call that waits
  pub taking_done : IsFirst worker (calls_of worker now.calls) None → Taking worker old next calls
  taking_done none = record {
    room = room ∙ t.room;
    others = others_stay;
    taken = ap (λ (xs : List (ℕ × Call)). paired worker calls ++ xs) (ap (calls_of worker) is ∙ calls_of-taken worker now.calls ∙ ap (drop 1) none ∙ sym none) ∙ t.taken;
  }

pub taken_all : (worker : ℕ) (old now : Queued) (calls : List Call) → Taking worker old now calls → calls_of worker now.calls ≡ [] → paired worker calls ≡ calls_of worker old.calls
taken_all worker old now calls t none = sym (append-nil (paired worker calls)) ∙ ap (λ (xs : List (ℕ × Call)). paired worker calls ++ xs) (sym none) ∙ t.taken

pub none_left : (worker : ℕ) (now next : Queued) → next.calls ≡ without_first worker now.calls → IsFirst worker (calls_of worker now.calls) None → calls_of worker next.calls ≡ []
none_left worker now next is none = ap (calls_of worker) is ∙ calls_of-taken worker now.calls ∙ ap (drop 1) none

pub fewer_left : (worker : ℕ) (now next : Queued) (call : Call) → next.calls ≡ without_first worker now.calls → IsFirst worker (calls_of worker now.calls) (Some call) → length (calls_of worker next.calls) < length (calls_of worker now.calls)
fewer_left worker now next call is first = omega (arith, ap length (left_behind worker now next call is first), ap length first.1)

pub none_wait : (calls : List (ℕ × Call)) → is_busy_by false calls ≡ false → calls ≡ []
none_wait [] is = refl
none_wait (call ∷ calls) is = absurd (cc is)
