-- Begins of calls.
use Rattle.std.proofs.Common.{◌≡◌, ℕ, ◌+◌, Bool, true, false, List, ◌∷◌, refl, ◌∙◌, arith, inl, Option, Some, None, ◌==◌, nat_lt}
use Rattle.std.specs.Prelude.{nat_le, is_some, if◌then◌else◌, ◌||◌, ◌&&◌}
use Rattle.std.proofs.lemmas.Bool.Decides.{nat_tests}
use Rattle.bz_call.specs.Pages.{is_page}
use Rattle.bz_call.specs.declared.calls.Call.{Call}
use Rattle.bz_mark.specs.Log.{count_begins, count_page_calls}
use Rattle.bz_mark.specs.declared.marks.Mark.{Mark}
use Rattle.bz_mark.specs.declared.marks.Mark.TheVariants as mark
use Rattle.bz_sound.specs.Calls.{Open, open_call, begun_calls}
use Rattle.bz_world.specs.WorldView.{WorldView, IsWorker, is_short, lacks_page, begin_answer, after_begin}
use Rattle.bz_world.specs.declared.answers.Begun.{Begun as BeginAnswer}
use Rattle.bz_world.specs.declared.answers.Begun.TheVariants.{Begun, NoWorker, Busy, Off, Recovering, Limit}
use Rattle.bz_world.specs.declared.answers.LimitKind.{LimitKind}
use Rattle.bz_world.specs.declared.answers.LimitKind.TheVariants as which
use Rattle.bz_sched.specs.Fuses.{Fused}
use Rattle.bz_sched.specs.Points.{ready, GetsReady}
use Rattle.bz_sched.specs.Queued.{calls_of, without_first}
use Rattle.bz_sched.specs.Runs.{point_in, IsReady, IsAtLimit, Keeps}
use Rattle.bz_sched.specs.TurnsInPart.{StopsBy}
use Rattle.bz_sched.specs.declared.turn.Stop.TheVariants as stop
use Rattle.bz_sched.proofs.BurnLemmas.{burns_same}
use Rattle.bz_sched.proofs.ReadyLemmas.{keeps_none, opens}

-- the answer by its tests
abbrev by_begin : Bool → Bool → Bool → Bool → Bool → ℕ → BeginAnswer
by_begin stranger short busy full paged n =
    if stranger then NoWorker
    else (if short then Limit which.Marks
    else (if busy then Busy
    else (if full then Limit which.Calls
    else (if paged then Limit which.Pages
    else Begun n))))

-- which test gave a limit, and which gave none
abbrev Gave : Bool → Bool → Bool → LimitKind → Type 0
Gave short full paged which.Marks = short ≡ true
Gave short full paged which.Calls = (short ≡ false) × (full ≡ true)
Gave short full paged which.Pages = (short ≡ false) × (full ≡ false) × (paged ≡ true)

which_gave : (short full paged : Bool) (n : ℕ) (why : LimitKind) → Limit why ≡ by_begin false short false full paged n → Gave short full paged why
which_gave true full paged n why is = let same : why ≡ which.Marks = cc in rw same refl
which_gave false true paged n why is = let same : why ≡ which.Calls = cc in rw same (refl, refl)
which_gave false false true n why is = let same : why ≡ which.Pages = cc in rw same (refl, refl, refl)
which_gave false false false n why is = absurd (cc is)

number_given : (short full paged : Bool) (n m : ℕ) → Begun m ≡ by_begin false short false full paged n → m ≡ n
number_given true full paged n m is = absurd (cc is)
number_given false true paged n m is = absurd (cc is)
number_given false false true n m is = absurd (cc is)
number_given false false false n m is = cc

never_stranger : (short full paged : Bool) (n : ℕ) → NoWorker ≡ by_begin false short false full paged n → ⊥
never_stranger true full paged n is = absurd (cc is)
never_stranger false true paged n is = absurd (cc is)
never_stranger false false true n is = absurd (cc is)
never_stranger false false false n is = absurd (cc is)

never_busy : (short full paged : Bool) (n : ℕ) → Busy ≡ by_begin false short false full paged n → ⊥
never_busy true full paged n is = absurd (cc is)
never_busy false true paged n is = absurd (cc is)
never_busy false false true n is = absurd (cc is)
never_busy false false false n is = absurd (cc is)

never_off : (short full paged : Bool) (n : ℕ) → Off ≡ by_begin false short false full paged n → ⊥
never_off true full paged n is = absurd (cc is)
never_off false true paged n is = absurd (cc is)
never_off false false true n is = absurd (cc is)
never_off false false false n is = absurd (cc is)

never_recovering : (short full paged : Bool) (n : ℕ) → Recovering ≡ by_begin false short false full paged n → ⊥
never_recovering true full paged n is = absurd (cc is)
never_recovering false true paged n is = absurd (cc is)
never_recovering false false true n is = absurd (cc is)
never_recovering false false false n is = absurd (cc is)

both_true : (a b : Bool) → (a && b) ≡ true → (a ≡ true) × (b ≡ true)
both_true true b h = (refl, h)
both_true false b h = absurd (cc h)

answer_is : (lab : WorldView) (w : ℕ) (call : Call) → IsReady lab → IsWorker lab.config w → is_some (open_call w lab.log.past) ≡ false
    → begin_answer lab w call ≡ by_begin false (is_short lab.log) false (nat_le lab.log.limits.calls (count_begins lab.log.past)) (lacks_page lab.log call) (begun_calls w lab.log.past + 1)
answer_is lab w call ready worker free =
    let in_range : ((w == 0) || nat_lt lab.config.workers w) ≡ false = grind (arith, nat_tests, worker.some, worker.in_range) in
    rw (in_range, ready.powered, free) refl

-- a worker's call that waits among these, none of its calls open
pub record Waits (lab : WorldView) (calls : List (ℕ × Call)) (w : ℕ) (call : Call) : Type 0 where
  pub ready : IsReady lab
  pub worker : IsWorker lab.config w
  pub closed : is_some (open_call w lab.log.past) ≡ false
  pub first : (rest : List (ℕ × Call)) × (calls_of w calls ≡ (w, call) ∷ rest)

answered : (lab : WorldView) (calls : List (ℕ × Call)) (w : ℕ) (call : Call) → Waits lab calls w call
    → begin_answer lab w call ≡ by_begin false (is_short lab.log) false (nat_le lab.log.limits.calls (count_begins lab.log.past)) (lacks_page lab.log call) (begun_calls w lab.log.past + 1)
answered lab calls w call h = answer_is lab w call h.ready h.worker h.closed

pub no_stranger : (lab : WorldView) (calls : List (ℕ × Call)) (w : ℕ) (call : Call) → Waits lab calls w call → NoWorker ≡ begin_answer lab w call → ⊥
no_stranger lab calls w call h is = never_stranger _ _ _ _ (is ∙ answered lab calls w call h)

pub not_busy : (lab : WorldView) (calls : List (ℕ × Call)) (w : ℕ) (call : Call) → Waits lab calls w call → Busy ≡ begin_answer lab w call → ⊥
not_busy lab calls w call h is = never_busy _ _ _ _ (is ∙ answered lab calls w call h)

pub not_off : (lab : WorldView) (calls : List (ℕ × Call)) (w : ℕ) (call : Call) → Waits lab calls w call → Off ≡ begin_answer lab w call → ⊥
not_off lab calls w call h is = never_off _ _ _ _ (is ∙ answered lab calls w call h)

pub not_recovering : (lab : WorldView) (calls : List (ℕ × Call)) (w : ℕ) (call : Call) → Waits lab calls w call → Recovering ≡ begin_answer lab w call → ⊥
not_recovering lab calls w call h is = never_recovering _ _ _ _ (is ∙ answered lab calls w call h)

none_is : (opened : Option Open) → is_some opened ≡ false → opened ≡ None
none_is None is = refl
none_is (Some opened) is = absurd cc

stops_by : (lab : WorldView) (queued : Fused) (w : ℕ) (call : Call) (why : LimitKind) → Waits lab queued.calls w call
    → Gave (is_short lab.log) (nat_le lab.log.limits.calls (count_begins lab.log.past)) (lacks_page lab.log call) why
    → StopsBy (stop.Limit why) w (point_in lab queued) (point_in lab queued) × IsAtLimit lab why
stops_by lab queued w call which.Marks h gave = (inl refl, grind (arith, nat_tests, gave))
stops_by lab queued w call which.Calls h gave =
    let room = gave.0 in
    let full = gave.1 in
    ((none_is (open_call w lab.log.past) h.closed, refl), (grind (arith, nat_tests, room), grind (arith, nat_tests, full)))
stops_by lab queued w call which.Pages h gave =
    let room = gave.0 in
    let few = gave.1 in
    let both = both_true (is_page call) (nat_le lab.log.limits.pages (count_page_calls lab.log.past)) gave.2 in
    let full = both.1 in
    ((none_is (open_call w lab.log.past) h.closed, rw h.first.1 both.0, refl), (grind (arith, nat_tests, room), grind (arith, nat_tests, few), grind (arith, nat_tests, full)))

-- a begin that meets a limit changes nothing
pub begin_stops : (lab : WorldView) (queued : Fused) (w : ℕ) (call : Call) (why : LimitKind) (new : WorldView) → Waits lab queued.calls w call → Limit why ≡ begin_answer lab w call → new ≡ lab
    → Keeps lab queued new queued × StopsBy (stop.Limit why) w (point_in lab queued) (point_in new queued) × IsAtLimit new why
begin_stops lab queued w call why new h is same =
    let stops = stops_by lab queued w call why h (which_gave _ _ _ (begun_calls w lab.log.past + 1) why (is ∙ answered lab queued.calls w call h)) in
    rw same (keeps_none lab queued h.ready, stops.0, stops.1)

begun_opens : (past : List Mark) (w v n : ℕ) (call : Call) → is_some (open_call v (mark.Begin w n call ∷ past)) ≡ (if w == v then true else is_some (open_call v past))
begun_opens past w v n call = opens (w == v) _ (open_call v past)

-- the world after a begin, and the queue without its call
pub record Begins (lab : WorldView) (queued : Fused) (w : ℕ) (call : Call) (n : ℕ) (new : WorldView) (left : Fused) : Type 0 where
  pub answer : Begun n ≡ begin_answer lab w call
  pub after : new ≡ after_begin lab w call (Begun n)
  pub calls : left.calls ≡ without_first w queued.calls
  pub room : left.room ≡ queued.room
  pub fuse : left.fuse ≡ queued.fuse

begun_point : (lab : WorldView) (queued : Fused) (w n : ℕ) (call : Call) (left : Fused) → Waits lab queued.calls w call → Begun n ≡ begin_answer lab w call → left.calls ≡ without_first w queued.calls
    → point_in (after_begin lab w call (Begun n)) left ≡ ready w (point_in lab queued)
begun_point lab queued w n call left h answer calls =
    let number : n ≡ begun_calls w lab.log.past + 1 = number_given _ _ _ _ n (answer ∙ answered lab queued.calls w call h) in
    rw (h.closed, h.first.1, calls, number) refl

-- the first call that waits for a worker begins
pub begins : (lab : WorldView) (queued : Fused) (w : ℕ) (call : Call) (n : ℕ) (new : WorldView) (left : Fused) → Waits lab queued.calls w call → Begins lab queued w call n new left
    → Keeps lab queued new left × GetsReady w (point_in lab queued) (point_in new left)
begins lab queued w call n new left h b = rw b.after (
  record {
    ready = record { workers = h.ready.workers; powered = h.ready.powered };
    config = refl;
    at_start = refl;
    start = refl;
    limits = refl;
    room = b.room;
    fuse = burns_same lab.log.past (mark.Begin w n call ∷ lab.log.past) queued.fuse left.fuse b.fuse refl;
  },
  begun_point lab queued w n call left h b.answer b.calls,
)

-- and is open then
pub begun_is_open : (lab : WorldView) (w n : ℕ) (call : Call) (new : WorldView) → new ≡ after_begin lab w call (Begun n) → is_some (open_call w new.log.past) ≡ true
begun_is_open lab w n call new after =
    let same : (w == w) ≡ true = grind (arith, nat_tests) in
    rw after (begun_opens lab.log.past w w n call ∙ rw same refl)
