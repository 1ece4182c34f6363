-- The calls that wait for their workers.
use Rattle.std.specs.Prelude.{◌≡◌, ℕ, ◌==◌, if◌then◌else◌, filter, Bool, true, false, List, [], ◌∷◌, Option, Some, None}
use Rattle.bz_ring.specs.declared.calls.QCall.{QCall}

-- the calls that wait, each with its worker, in the order in which they came; and how many more may come
pub record Queued : Type 0 where
  pub calls : List (ℕ × QCall)
  pub room : ℕ

-- a worker's calls among others
abbrev pub calls_of : ℕ → List (ℕ × QCall) → List (ℕ × QCall)
calls_of w calls = filter (λ call. call.0 == w) calls

-- the calls that wait once the first one of a worker was taken out
abbrev pub without_first : ℕ → List (ℕ × QCall) → List (ℕ × QCall)
without_first w [] = []
without_first w (call ∷ calls) = if call.0 == w then calls else call ∷ without_first w calls

-- a worker has something to do: a call of it is open, or one of these calls waits for it
abbrev pub is_busy_by : Bool → List (ℕ × QCall) → Bool
is_busy_by true calls = true
is_busy_by false [] = false
is_busy_by false (call ∷ calls) = true

-- the first of a worker's calls, if there is one
abbrev pub IsFirst : ℕ → List (ℕ × QCall) → Option QCall → Type 0
IsFirst w calls None = calls ≡ []
IsFirst w calls (Some first) = (rest : List (ℕ × QCall)) × (calls ≡ (w, first) ∷ rest)
