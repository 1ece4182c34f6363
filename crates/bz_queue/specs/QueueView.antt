-- What callers see of a queue, and what it answers.
use Rattle.std.specs.Prelude.{◌≡◌, ◌≢◌, ◌<◌, ◌≤◌, ◌⊎◌, ℕ, zero, suc, ◌+◌, ◌*◌, ◌-◌, ◌^◌, Bool, false, ◌==◌, ◌||◌, nat_lt, nat_le, if◌then◌else◌, is_some, is_none, get_or, slice_set, replicate, List, [], ◌∷◌, length, Option, Some, None, option_map, MatchOption}
use Rattle.bz_swap_acts.specs.Rule.{is_fence_act}
use Rattle.bz_swap_acts.specs.declared.acted.Act.{Act}
use Rattle.bz_layout.specs.declared.limits.TheConstants.{MIN_CAPACITY, MAX_CAPACITY, MIN_SWAPS, MAX_SWAPS, MIN_WORKERS, MAX_WORKERS, MIN_MARKS, MAX_MARKS, MIN_CALLS, MAX_CALLS}
use Rattle.bz_swap_machine.specs.Allowed.{for_worker}
use Rattle.bz_mark.specs.Counts.{acts_by}
use Rattle.bz_mark.specs.Times.{since_on}
use Rattle.bz_mark.specs.declared.marks.Mark.TheVariants.{Cut, Evict, On, Ready}
use Rattle.bz_mark.specs.declared.power.Power.{Power}
use Rattle.bz_mark.specs.declared.power.Power.TheVariants as power
use Rattle.bz_ring.specs.declared.calls.QCall.{QCall}
use Rattle.bz_ring.specs.declared.calls.QCall.TheVariants as call
use Rattle.bz_ring.specs.declared.calls.QReply.{QReply}
use Rattle.bz_ring.specs.declared.marks.QMark.{QMark}
use Rattle.bz_ring.specs.declared.marks.QMark.TheVariants.{Begin, End, Effect, Memory}
use Rattle.bz_ring.specs.Calls.{Open, open_call, begun_calls, count_begins}
use Rattle.bz_ring.specs.Content.{size_of}
use Rattle.bz_ring.specs.Follows.{power_after}
use Rattle.bz_ring.specs.Fresh.{fresh_words}
use Rattle.bz_ring.specs.Journal.{QLog, memory_of, with_mark}
use Rattle.bz_sweep.specs.Places.{MOST_ACTS}
use Rattle.bz_swap_marks.specs.Marks.{mark_of}
use Rattle.bz_queue.specs.declared.answers.QApplied.{QApplied}
use Rattle.bz_queue.specs.declared.answers.QApplied.TheVariants as applied
use Rattle.bz_queue.specs.declared.answers.QBegun.{QBegun}
use Rattle.bz_queue.specs.declared.answers.QBegun.TheVariants as begun
use Rattle.bz_queue.specs.declared.answers.QEvent.{QEvent}
use Rattle.bz_queue.specs.declared.answers.QEvent.TheVariants as event
use Rattle.bz_queue.specs.declared.answers.QLimit.TheVariants as limit
use Rattle.bz_queue.specs.declared.answers.QOpenError.{QOpenError}
use Rattle.bz_queue.specs.declared.answers.QOpenError.TheVariants as open_error
use Rattle.bz_queue.specs.declared.open.Numbers.{Numbers}

-- the numbers that the queue was made with; its journal; of each worker, from worker 0 on, whether its next act is a fence; and how many marks its open call has left
-- at most while it alone steps
pub record QueueView : Type 0 where
  pub numbers : Numbers
  pub log : QLog
  pub flushes : List Bool
  pub left : List ℕ

-- in the order in which they are asked: each number is in its range
pub record IsWithin (number low high : ℕ) : Type 0 where
  pub at_least : low ≤ number
  pub at_most : number ≤ high

abbrev pub IsInRange : Numbers → QOpenError → Type 0
IsInRange n open_error.Capacity = IsWithin n.ring.capacity MIN_CAPACITY MAX_CAPACITY
IsInRange n open_error.Swaps = IsWithin n.ring.swaps MIN_SWAPS MAX_SWAPS
IsInRange n open_error.Workers = IsWithin n.workers MIN_WORKERS MAX_WORKERS
IsInRange n open_error.Marks = IsWithin n.marks MIN_MARKS MAX_MARKS
IsInRange n open_error.Calls = IsWithin n.calls MIN_CALLS MAX_CALLS
IsInRange n open_error.Memory = Unit {0}

pub record AreNumbers (n : Numbers) : Type 0 where
  pub capacity : IsInRange n open_error.Capacity
  pub swaps : IsInRange n open_error.Swaps
  pub workers : IsInRange n open_error.Workers
  pub marks : IsInRange n open_error.Marks
  pub calls : IsInRange n open_error.Calls

-- the numbers before the one that the error names are in their ranges
abbrev pub AreEarlier : Numbers → QOpenError → Type 0
AreEarlier n open_error.Capacity = Unit {0}
AreEarlier n open_error.Swaps = IsInRange n open_error.Capacity
AreEarlier n open_error.Workers = IsInRange n open_error.Capacity × IsInRange n open_error.Swaps
AreEarlier n open_error.Marks = IsInRange n open_error.Capacity × IsInRange n open_error.Swaps × IsInRange n open_error.Workers
AreEarlier n open_error.Calls = IsInRange n open_error.Capacity × IsInRange n open_error.Swaps × IsInRange n open_error.Workers × IsInRange n open_error.Marks
AreEarlier n open_error.Memory = AreNumbers n

-- the error names the first number out of its range
pub record IsRangeFault (n : Numbers) (error : QOpenError) : Type 0 where
  pub earlier : AreEarlier n error
  pub this : IsInRange n error → ⊥

-- why no queue was opened: that, or out of memory, and then no number is out of its range
abbrev pub IsOpenFault : Numbers → QOpenError → Type 0
IsOpenFault n open_error.Memory = AreNumbers n
IsOpenFault n error = IsRangeFault n error

-- a queue in which nothing has happened, over fresh memory
abbrev pub new_view : Numbers → QueueView
new_view n = record {
  numbers = n;
  log = record { start = fresh_words n.ring; past = []; most = n.marks };
  flushes = replicate (n.workers + 1) false;
  left = replicate (n.workers + 1) 0;
}

-- whether the next act of a worker is a fence
abbrev pub flush_of : QueueView → ℕ → Bool
flush_of q w = get_or q.flushes w false

-- how many marks a worker's open call has left
abbrev pub left_in : QueueView → ℕ → ℕ
left_in q w = get_or q.left w 0

-- the number of a worker's open call, if one is open
abbrev pub open_number : QueueView → ℕ → Option ℕ
open_number q w = option_map (λ (opened : Open). opened.number) (open_call w q.log.past)

-- fewer than three places are left in the journal
abbrev pub is_short : QLog → Bool
is_short log = nat_lt (log.most - length log.past) 3

-- the item of a put is below 2^60
abbrev pub IsCall : QCall → Type 0
IsCall (call.Put item) = item < 2 ^ 60
IsCall call.Take = Unit {0}

-- what the power is, as the journal tells: on at first
abbrev pub power_in : QueueView → Power
power_in q = power_after q.log.past

-- the answer to a begin with the power on: the first refusal that applies, or else the call's number
abbrev pub powered_answer : QueueView → ℕ → QBegun
powered_answer q w =
    if is_some (open_call w q.log.past) then begun.Busy
    else (if nat_le q.numbers.calls (count_begins q.log.past) then begun.Limit limit.Calls
    else begun.Begun (begun_calls w q.log.past + 1))

abbrev pub answer_by : Power → QueueView → ℕ → QBegun
answer_by power.Off q w = begun.Off
answer_by power.Recovering q w = begun.Recovering
answer_by power.On q w = powered_answer q w

-- and to any begin
abbrev pub begin_answer : QueueView → ℕ → QBegun
begin_answer q w =
    if (w == 0) || nat_lt q.numbers.workers w then begun.NoWorker
    else (if is_short q.log then begun.Limit limit.Marks
    else answer_by (power_in q) q w)

-- a begin adds its mark where it is no refusal: a call's first act is no fence. So much is left to the calls then
abbrev pub after_begin : QueueView → ℕ → QCall → List ℕ → QBegun → QueueView
after_begin q w called left (begun.Begun n) = record q { log = with_mark q.log (Begin w n called); flushes = slice_set q.flushes w false; left = left }
after_begin q w called left refusal = q

-- a worker without an open call makes no step
abbrev pub idle_refusal : QueueView → ℕ → Option QApplied
idle_refusal q w = if is_none (open_call w q.log.past) then Some applied.Idle else None

-- in a recovery worker 0 alone acts
abbrev pub step_by : Power → QueueView → ℕ → Option QApplied
step_by power.Off q w = Some applied.Off
step_by power.Recovering q zero = None
step_by power.Recovering q (suc w) = Some applied.Recovering
step_by power.On q w = idle_refusal q w

-- the first refusal of a step that applies
abbrev pub step_refusal : QueueView → ℕ → Option QApplied
step_refusal q w =
    if nat_lt q.numbers.workers w then Some applied.NoWorker
    else (if is_short q.log then Some applied.Limit
    else step_by (power_in q) q w)

-- nothing else than power on happens while the power is off
abbrev pub off_refusal : Power → Option QApplied
off_refusal power.Off = Some applied.Off
off_refusal other = None

-- and of an eviction
abbrev pub evict_refusal : QueueView → ℕ → Option QApplied
evict_refusal q a =
    if nat_le (size_of q.numbers.ring) a then Some applied.NoWord
    else (if is_short q.log then Some applied.Limit
    else off_refusal (power_in q))

-- and of a power cut
abbrev pub cut_refusal : QueueView → Option QApplied
cut_refusal q =
    if is_short q.log then Some applied.Limit
    else off_refusal (power_in q)

-- and of power on
abbrev pub on_by : Power → Option QApplied
on_by power.Off = None
on_by other = Some applied.Powered

abbrev pub on_refusal : QueueView → Option QApplied
on_refusal q =
    if is_short q.log then Some applied.Limit
    else on_by (power_in q)

-- at most an Effect follows, of any worker's call
abbrev pub IsStruck : List QMark → List QMark → Type 0
IsStruck past new = (new ≡ past) ⊎ ((w : ℕ) × ((n : ℕ) × (new ≡ Effect w n ∷ past)))

-- then the worker's call goes on, or its End follows
abbrev pub GoesOn : List QMark → ℕ → QApplied → List QMark → Type 0
GoesOn old w applied.Stepped new = new ≡ old
GoesOn old w (applied.Ended n) new = (reply : QReply) × ((at : ℕ) × (new ≡ End w n reply at ∷ old))
GoesOn old w other new = ⊥

-- a step of a worker: exactly one act of it, a fence exactly where that was said before; at most one effect; at most its call's End
pub record Steps (old : QueueView) (w : ℕ) (answer : QApplied) (new : QueueView) : Type 0 where
  pub made : Act
  pub flush : is_fence_act made ≡ flush_of old w
  pub struck : List QMark
  pub effect : IsStruck (Memory (mark_of w made) ∷ old.log.past) struck
  pub ends : GoesOn struck w answer new.log.past
  pub rest : new ≡ record old { log = record old.log { past = new.log.past }; flushes = new.flushes; left = new.left }
  -- the marks are of those that the call had left, which are at most so many for each worker and for two more
  pub pays : length new.log.past + left_in new w ≤ length old.log.past + left_in old w
  pub few : left_in old w ≤ for_worker * (old.numbers.workers + 2)
  pub others : (v : ℕ) → v ≢ w → flush_of new v ≡ flush_of old v

-- how many acts a recovery makes: fewer than four for each word
abbrev pub recovery_most : Numbers → ℕ
recovery_most n = MOST_ACTS * size_of n.ring

-- a recovery goes on, or its end follows
abbrev pub EndsRecovery : List QMark → QApplied → List QMark → Type 0
EndsRecovery past applied.Stepped new = new ≡ past
EndsRecovery past applied.Ready new = new ≡ Memory Ready ∷ past
EndsRecovery past other new = ⊥

-- a step of a recovery: exactly one act of worker 0, a fence exactly where that was said before; no effect, and no call ends
pub record Recovers (old : QueueView) (answer : QApplied) (new : QueueView) : Type 0 where
  pub made : Act
  pub flush : is_fence_act made ≡ flush_of old 0
  pub few : acts_by 0 (since_on (memory_of (Memory (mark_of 0 made) ∷ old.log.past))) < recovery_most old.numbers
  pub ends : EndsRecovery (Memory (mark_of 0 made) ∷ old.log.past) answer new.log.past
  pub rest : new ≡ record old { log = record old.log { past = new.log.past }; flushes = new.flushes }
  pub others : (v : ℕ) → v ≢ 0 → flush_of new v ≡ flush_of old v

abbrev pub StepsBy : Power → QueueView → ℕ → QApplied → QueueView → Type 0
StepsBy power.Recovering old w answer new = Recovers old answer new
StepsBy other old w answer new = Steps old w answer new

-- in a recovery an eviction has no effect
abbrev pub StrikesBy : Power → List QMark → List QMark → Type 0
StrikesBy power.On past new = IsStruck past new
StrikesBy other past new = new ≡ past

-- an eviction: its mark, and at most one effect
pub record Evicts (old : QueueView) (a : ℕ) (answer : QApplied) (new : QueueView) : Type 0 where
  pub answered : answer ≡ applied.Evicted
  pub effect : StrikesBy (power_in old) (Memory (Evict a) ∷ old.log.past) new.log.past
  pub rest : new ≡ record old { log = record old.log { past = new.log.past }; left = new.left }
  -- no call has more marks left than before; of an open call's the effect's mark is one, and the eviction's own is beside them
  pub no_more : (w : ℕ) → left_in new w ≤ left_in old w
  pub pays : (w : ℕ) → open_call w old.log.past ≢ None → length new.log.past + left_in new w ≤ length old.log.past + left_in old w + 1
  pub few : (w : ℕ) → left_in old w ≤ for_worker * (old.numbers.workers + 2)

-- a power cut adds its mark: no call is open then, and nobody has a next act
abbrev pub after_cut : QueueView → QueueView
after_cut q = record q { log = with_mark q.log (Memory Cut); flushes = replicate (q.numbers.workers + 1) false; left = replicate (q.numbers.workers + 1) 0 }

-- power on adds its mark: the first act of a recovery is no fence
abbrev pub after_on : QueueView → QueueView
after_on q = record q { log = with_mark q.log (Memory On); flushes = slice_set q.flushes 0 false }

-- the answer to an event: a refusal exactly where one applies, and then nothing changes
abbrev pub IsApplied : QueueView → QEvent → QApplied → QueueView → Type 0
IsApplied old (event.Step w) answer new = MatchOption (step_refusal old w) (StepsBy (power_in old) old w answer new) (λ refusal. (answer ≡ refusal) × (new ≡ old))
IsApplied old event.Cut answer new = MatchOption (cut_refusal old) ((answer ≡ applied.Cut) × (new ≡ after_cut old)) (λ refusal. (answer ≡ refusal) × (new ≡ old))
IsApplied old event.On answer new = MatchOption (on_refusal old) ((answer ≡ applied.On) × (new ≡ after_on old)) (λ refusal. (answer ≡ refusal) × (new ≡ old))
IsApplied old (event.Evict a) answer new = MatchOption (evict_refusal old a) (Evicts old a answer new) (λ refusal. (answer ≡ refusal) × (new ≡ old))
