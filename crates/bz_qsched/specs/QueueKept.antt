-- What a queue keeps true of its parts.
use Rattle.std.specs.Prelude.{◌≡◌, ◌≢◌, ◌≤◌, ◌<◌, ℕ, ◌+◌, nat_le, if◌then◌else◌, List, [], ◌∷◌, length, get_or, slice_get, Option, Some, None}
use Rattle.bz_ring.specs.declared.calls.QCall.{QCall}
use Rattle.bz_queue.specs.QueueView.{IsCall}
use Rattle.bz_qsched.specs.Queued.{calls_of}

-- those of these calls that wait: the ones at or behind the place from which their worker's next call is looked
-- for. The first of these calls stands at the place `at`.
abbrev pub waiting_from : ℕ → List ℕ → List (ℕ × QCall) → List (ℕ × QCall)
waiting_from at next [] = []
waiting_from at next (call ∷ calls) =
    if nat_le (get_or next call.0 0) at then call ∷ waiting_from (at + 1) next calls else waiting_from (at + 1) next calls

-- the calls fit, what is looked for stands among them, and the counts are right
pub record IsKept (calls : List (ℕ × QCall)) (next waiting : List ℕ) (most capacity : ℕ) : Type 0 where
  pub fits : length calls ≤ most
  pub taken : most ≤ capacity
  pub within : (w : ℕ) → get_or next w 0 ≤ length calls
  pub counted : (w : ℕ) → get_or waiting w 0 ≡ length (calls_of w (waiting_from 0 next calls))

-- none of the calls at these places is one of the worker
abbrev pub NoneOf : ℕ → ℕ → ℕ → List (ℕ × QCall) → Type 0
NoneOf w from to calls = (at : ℕ) (call : ℕ × QCall) → from ≤ at → at < to → slice_get calls at ≡ Some call → call.0 ≢ w

-- the place of the first call of a worker from a place on
abbrev pub IsFound : List (ℕ × QCall) → ℕ → ℕ → Option ℕ → Type 0
IsFound calls from w None = NoneOf w from (length calls) calls
IsFound calls from w (Some at) = (call : QCall) × (slice_get calls at ≡ Some (w, call)) × (from ≤ at) × NoneOf w from at calls

-- each call may begin: the item of a put is below 2^60
abbrev pub AreCalls : List (ℕ × QCall) → Type 0
AreCalls [] = Unit {0}
AreCalls (call ∷ calls) = IsCall call.1 × AreCalls calls
