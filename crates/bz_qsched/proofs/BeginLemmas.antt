-- Begins of calls.
use Rattle.std.proofs.Common.{◌≡◌, ℕ, ◌+◌, Bool, true, false, List, ◌∷◌, refl, sym, ap, subst, ◌∙◌, arith, inl, Option, Some, None, ◌==◌, nat_lt}
use Rattle.std.specs.Prelude.{nat_le, is_some, if◌then◌else◌, ◌||◌}
use Rattle.std.proofs.lemmas.Bool.Decides.{nat_tests}
use Rattle.bz_ring.specs.declared.calls.QCall.{QCall}
use Rattle.bz_ring.specs.declared.marks.QMark.{QMark}
use Rattle.bz_ring.specs.declared.marks.QMark.TheVariants as mark
use Rattle.bz_ring.specs.Calls.{Open, open_call, begun_calls, count_begins}
use Rattle.bz_queue.specs.QueueView.{QueueView, is_short, begin_answer, after_begin}
use Rattle.bz_queue.specs.declared.answers.QBegun.{QBegun as BeginAnswer}
use Rattle.bz_queue.specs.declared.answers.QBegun.TheVariants.{Begun, NoWorker, Busy, Off, Recovering, Limit}
use Rattle.bz_queue.specs.declared.answers.QLimit.{QLimit}
use Rattle.bz_queue.specs.declared.answers.QLimit.TheVariants as which
use Rattle.bz_qsched.specs.Fuses.{Fused}
use Rattle.bz_qsched.specs.Points.{ready, GetsReady}
use Rattle.bz_qsched.specs.Queued.{calls_of, without_first}
use Rattle.bz_qsched.specs.Runs.{point_in, IsReady, IsAtLimit, Keeps}
use Rattle.bz_qsched.specs.TurnsInPart.{StopsBy}
use Rattle.bz_qsched.specs.declared.turn.Stop.TheVariants as stop
use Rattle.bz_qsched.proofs.BurnLemmas.{burns_same}
use Rattle.bz_qsched.proofs.ReadyLemmas.{IsWorker, keeps_none, opens}

-- the answer by its tests
abbrev by_begin : Bool → Bool → Bool → Bool → ℕ → BeginAnswer
by_begin stranger short busy full n =
    if stranger then NoWorker
    else (if short then Limit which.Marks
    else (if busy then Busy
    else (if full then Limit which.Calls
    else Begun n)))

-- which test gave a limit, and which gave none
abbrev Gave : Bool → Bool → QLimit → Type 0
Gave short full which.Marks = short ≡ true
Gave short full which.Calls = (short ≡ false) × (full ≡ true)

which_gave : (short full : Bool) (n : ℕ) (why : QLimit) → Limit why ≡ by_begin false short false full n → Gave short full why
which_gave true full n why is = let same : why ≡ which.Marks = cc in rw same refl
which_gave false true n why is = let same : why ≡ which.Calls = cc in rw same (refl, refl)
which_gave false false n why is = absurd (cc is)

number_given : (short full : Bool) (n m : ℕ) → Begun m ≡ by_begin false short false full n → m ≡ n
number_given true full n m is = absurd (cc is)
number_given false true n m is = absurd (cc is)
number_given false false n m is = cc

never_stranger : (short full : Bool) (n : ℕ) → NoWorker ≡ by_begin false short false full n → ⊥
never_stranger true full n is = absurd (cc is)
never_stranger false true n is = absurd (cc is)
never_stranger false false n is = absurd (cc is)

never_busy : (short full : Bool) (n : ℕ) → Busy ≡ by_begin false short false full n → ⊥
never_busy true full n is = absurd (cc is)
never_busy false true n is = absurd (cc is)
never_busy false false n is = absurd (cc is)

never_off : (short full : Bool) (n : ℕ) → Off ≡ by_begin false short false full n → ⊥
never_off true full n is = absurd (cc is)
never_off false true n is = absurd (cc is)
never_off false false n is = absurd (cc is)

never_recovering : (short full : Bool) (n : ℕ) → Recovering ≡ by_begin false short false full n → ⊥
never_recovering true full n is = absurd (cc is)
never_recovering false true n is = absurd (cc is)
never_recovering false false n is = absurd (cc is)

answer_is : (lab : QueueView) (w : ℕ) → IsReady lab → IsWorker lab.numbers w → is_some (open_call w lab.log.past) ≡ false
    → begin_answer lab w ≡ by_begin false (is_short lab.log) false (nat_le lab.numbers.calls (count_begins lab.log.past)) (begun_calls w lab.log.past + 1)
answer_is lab w ready worker free =
    let in_range : ((w == 0) || nat_lt lab.numbers.workers w) ≡ false = grind (arith, nat_tests, worker.some, worker.in_range) in
    rw (in_range, ready.powered, free) refl

-- a worker's call that waits among these, none of its calls open
pub record Waits (lab : QueueView) (calls : List (ℕ × QCall)) (w : ℕ) (call : QCall) : Type 0 where
  pub ready : IsReady lab
  pub worker : IsWorker lab.numbers w
  pub closed : is_some (open_call w lab.log.past) ≡ false
  pub first : (rest : List (ℕ × QCall)) × (calls_of w calls ≡ (w, call) ∷ rest)

answered : (lab : QueueView) (calls : List (ℕ × QCall)) (w : ℕ) (call : QCall) → Waits lab calls w call
    → begin_answer lab w ≡ by_begin false (is_short lab.log) false (nat_le lab.numbers.calls (count_begins lab.log.past)) (begun_calls w lab.log.past + 1)
answered lab calls w call h = answer_is lab w h.ready h.worker h.closed

pub no_stranger : (lab : QueueView) (calls : List (ℕ × QCall)) (w : ℕ) (call : QCall) → Waits lab calls w call → NoWorker ≡ begin_answer lab w → ⊥
no_stranger lab calls w call h is = never_stranger _ _ _ (is ∙ answered lab calls w call h)

pub not_busy : (lab : QueueView) (calls : List (ℕ × QCall)) (w : ℕ) (call : QCall) → Waits lab calls w call → Busy ≡ begin_answer lab w → ⊥
not_busy lab calls w call h is = never_busy _ _ _ (is ∙ answered lab calls w call h)

pub not_off : (lab : QueueView) (calls : List (ℕ × QCall)) (w : ℕ) (call : QCall) → Waits lab calls w call → Off ≡ begin_answer lab w → ⊥
not_off lab calls w call h is = never_off _ _ _ (is ∙ answered lab calls w call h)

pub not_recovering : (lab : QueueView) (calls : List (ℕ × QCall)) (w : ℕ) (call : QCall) → Waits lab calls w call → Recovering ≡ begin_answer lab w → ⊥
not_recovering lab calls w call h is = never_recovering _ _ _ (is ∙ answered lab calls w call h)

none_is : (opened : Option Open) → is_some opened ≡ false → opened ≡ None
none_is None is = refl
none_is (Some opened) is = absurd cc

stops_by : (lab : QueueView) (queued : Fused) (w : ℕ) (call : QCall) (why : QLimit) → Waits lab queued.calls w call
    → Gave (is_short lab.log) (nat_le lab.numbers.calls (count_begins lab.log.past)) why
    → StopsBy (stop.Limit why) w (point_in lab queued) (point_in lab queued) × IsAtLimit lab why
stops_by lab queued w call which.Marks h gave = (inl refl, grind (arith, nat_tests, gave))
stops_by lab queued w call which.Calls h gave =
    let room = gave.0 in
    let full = gave.1 in
    ((none_is (open_call w lab.log.past) h.closed, refl), (grind (arith, nat_tests, room), grind (arith, nat_tests, full)))

-- a begin that meets a limit changes nothing
pub begin_stops : (lab : QueueView) (queued : Fused) (w : ℕ) (call : QCall) (why : QLimit) (new : QueueView) → Waits lab queued.calls w call → Limit why ≡ begin_answer lab w → new ≡ lab
    → Keeps lab queued new queued × StopsBy (stop.Limit why) w (point_in lab queued) (point_in new queued) × IsAtLimit new why
begin_stops lab queued w call why new h is same =
    let stops = stops_by lab queued w call why h (which_gave _ _ (begun_calls w lab.log.past + 1) why (is ∙ answered lab queued.calls w call h)) in
    rw same (keeps_none lab queued h.ready, stops.0, stops.1)

begun_opens : (past : List QMark) (w v n : ℕ) (call : QCall) → is_some (open_call v (mark.Begin w n call ∷ past)) ≡ (if w == v then true else is_some (open_call v past))
begun_opens past w v n call = opens (w == v) _ (open_call v past)

-- the world after a begin, and the queue without its call
pub record Begins (lab : QueueView) (queued : Fused) (w : ℕ) (call : QCall) (n : ℕ) (new : QueueView) (left : Fused) : Type 0 where
  pub answer : Begun n ≡ begin_answer lab w
  pub after : new ≡ after_begin lab w call new.left (Begun n)
  pub calls : left.calls ≡ without_first w queued.calls
  pub room : left.room ≡ queued.room
  pub fuse : left.fuse ≡ queued.fuse

begun_point : (lab : QueueView) (queued : Fused) (w n : ℕ) (call : QCall) (spare : List ℕ) (left : Fused) → Waits lab queued.calls w call → Begun n ≡ begin_answer lab w → left.calls ≡ without_first w queued.calls
    → point_in (after_begin lab w call spare (Begun n)) left ≡ ready w (point_in lab queued)
begun_point lab queued w n call spare left h answer calls =
    let number : n ≡ begun_calls w lab.log.past + 1 = number_given _ _ _ n (answer ∙ answered lab queued.calls w call h) in
    rw (h.closed, h.first.1, calls, number) refl

-- the first call that waits for a worker begins
begins_so : (lab : QueueView) (queued : Fused) (w : ℕ) (call : QCall) (n : ℕ) (spare : List ℕ) (left : Fused) → Waits lab queued.calls w call → Begun n ≡ begin_answer lab w → left.calls ≡ without_first w queued.calls → left.room ≡ queued.room → left.fuse ≡ queued.fuse
    → Keeps lab queued (after_begin lab w call spare (Begun n)) left × GetsReady w (point_in lab queued) (point_in (after_begin lab w call spare (Begun n)) left)
begins_so lab queued w call n spare left h answer calls room fuse = (
  record {
    ready = record { workers = h.ready.workers; powered = h.ready.powered };
    numbers = refl;
    start = refl;
    most = refl;
    room = room;
    fuse = burns_same lab.log.past (mark.Begin w n call ∷ lab.log.past) queued.fuse left.fuse fuse refl;
  },
  begun_point lab queued w n call spare left h answer calls,
)

pub begins : (lab : QueueView) (queued : Fused) (w : ℕ) (call : QCall) (n : ℕ) (new : QueueView) (left : Fused) → Waits lab queued.calls w call → Begins lab queued w call n new left
    → Keeps lab queued new left × GetsReady w (point_in lab queued) (point_in new left)
begins lab queued w call n new left h b =
    subst (λ (view : QueueView). Keeps lab queued view left × GetsReady w (point_in lab queued) (point_in view left)) (sym b.after) (begins_so lab queued w call n new.left left h b.answer b.calls b.room b.fuse)

-- and is open then
open_so : (lab : QueueView) (w n : ℕ) (call : QCall) (spare : List ℕ) → is_some (open_call w (after_begin lab w call spare (Begun n)).log.past) ≡ true
open_so lab w n call spare =
    let same : (w == w) ≡ true = grind (arith, nat_tests) in
    begun_opens lab.log.past w w n call ∙ rw same refl

pub begun_is_open : (lab : QueueView) (w n : ℕ) (call : QCall) (new : QueueView) → new ≡ after_begin lab w call new.left (Begun n) → is_some (open_call w new.log.past) ≡ true
begun_is_open lab w n call new after = ap (λ (view : QueueView). is_some (open_call w view.log.past)) after ∙ open_so lab w n call new.left
