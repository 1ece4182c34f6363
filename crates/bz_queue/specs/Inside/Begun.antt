-- Begins of calls: the refusal that applies, and what a begin adds.
use Rattle.std.specs.Prelude.{◌≡◌, ◌<◌, ◌≤◌, ◌+◌, ℕ, List, Option, Some, None, get_or, length}
use Rattle.bz_mark.specs.declared.power.Power.TheVariants as power
use Rattle.bz_ring.specs.declared.calls.QCall.{QCall}
use Rattle.bz_queue.specs.Inside.Kept.{IsAwake, view_of}
use Rattle.bz_queue.specs.QueueView.{IsCall, begin_answer, powered_answer, after_begin}
use Rattle.bz_queue.specs.declared.answers.QBegun.{QBegun}
use Rattle.bz_queue.specs.declared.answers.QBegun.TheVariants.{Begun}
use Rattle.bz_queue.specs.declared.parts.Parts.{Parts}

-- the call may begin
pub record MayBegin (p : Parts) (w : ℕ) (called : QCall) : Type 0 where
  pub on : p.power ≡ power.On
  pub call : IsCall called
  pub worker : 0 < w
  pub within : w ≤ p.numbers.workers
  pub room : length p.journal.past + 3 ≤ p.journal.most
  pub free : get_or p.workers.items w None ≡ None
  pub few : p.begun < p.numbers.calls

-- with the power on: why not
abbrev pub IsPoweredRefusal : Parts → ℕ → Option QBegun → Type 0
IsPoweredRefusal p w None = (get_or p.workers.items w None ≡ None) × (p.begun < p.numbers.calls)
IsPoweredRefusal p w (Some refusal) = (powered_answer (view_of p) w ≡ refusal) × ((called : QCall) (left : List ℕ) → after_begin (view_of p) w called left refusal ≡ view_of p)

-- why not: then this is the answer
abbrev pub IsRefusal : Parts → ℕ → Option QBegun → Type 0
IsRefusal p w None = (called : QCall) → IsCall called → MayBegin p w called
IsRefusal p w (Some refusal) = (begin_answer (view_of p) w ≡ refusal) × ((called : QCall) (left : List ℕ) → after_begin (view_of p) w called left refusal ≡ view_of p)

-- it has begun, with this number
pub record HasBegun (old : Parts) (w : ℕ) (called : QCall) (n : ℕ) (new : Parts) : Type 0 where
  pub kept : IsAwake new
  pub answer : begin_answer (view_of old) w ≡ Begun n
  pub after : view_of new ≡ after_begin (view_of old) w called (view_of new).left (Begun n)
