-- The calls of a worker that have ended, that are open and that wait are as many after a turn as before it: so each call that stands above a run of one
-- worker after the other has ended.
use Rattle.std.proofs.Common.{◌≡◌, ℕ, zero, suc, ◌+◌, ◌==◌, ◌&&◌, Bool, true, false, List, [], ◌∷◌, ◌++◌, length, drop, refl, sym, ap, subst, ◌∙◌, arith, Option, Some, None, inl, inr}
use Rattle.std.specs.Prelude.{if◌then◌else◌, is_some}
use Rattle.std.proofs.lemmas.Bool.{cases_eq, true≢false}
use Rattle.std.proofs.lemmas.Bool.Decides.{nat_tests}
use Rattle.bz_call.specs.declared.calls.Call.{Call}
use Rattle.bz_mark.specs.declared.marks.Mark.{Mark}
use Rattle.bz_mark.specs.declared.marks.Mark.TheVariants as mark
use Rattle.bz_script.specs.declared.item.Item.{Item}
use Rattle.bz_script.specs.declared.item.Item.TheVariants.{Queue, Arm, Run, Power}
use Rattle.bz_script.specs.declared.item.Plan.{Plan}
use Rattle.bz_script.specs.declared.item.Plan.TheVariants.{Alone, List as Listed, Turns, Threads}
use Rattle.bz_sound.specs.Calls.{Open, begun_calls, open_call, with_effect}
use Rattle.bz_mark.specs.Times.{power_of}
use Rattle.bz_mark.specs.declared.power.Power.{Power as State}
use Rattle.bz_mark.specs.declared.power.Power.TheVariants as power
use Rattle.bz_sched.specs.UndisturbedLaws.{ended_calls, calls_above, CallsAboveEnd}
use Rattle.bz_sched.specs.Plans.{RunsBy}
use Rattle.bz_sched.specs.Points.{Point, actor, IsUpToOneEffect, IsUpToOneEnd, IsStep, ready_by, ready, is_busy, IsTurn}
use Rattle.bz_sched.specs.Queued.{calls_of, without_first, is_busy_by}
use Rattle.bz_sched.specs.Recoveries.{off_by, turned_off, Powers, Recovers, RecoversTimes, RecoversWhole}
use Rattle.bz_sched.specs.Scripts.{LeadsTo}
use Rattle.bz_sched.specs.Sums.{is_alone, are_idle, are_plain}
use Rattle.bz_script.specs.declared.cut_plan.CutPlan.{CutPlan}
use Rattle.bz_sched.specs.Turns.{TakesTurns, EndsFrom}
use Rattle.bz_sched.proofs.IdleRuns.{alone-ends-idle, idle_is}
use Rattle.bz_sched.proofs.QueueLaws.{calls_of-append, calls_of-without, calls_of-taken}
use Rattle.bz_sched.proofs.ReadyLemmas.{changes_no}

-- a call that is open counts as one
abbrev one_of : Bool → ℕ
one_of b = if b then 1 else 0

abbrev in_marks : ℕ → List Mark → ℕ
in_marks w past = ended_calls w past + one_of (is_some (open_call w past))

abbrev in_hand : ℕ → Point → ℕ
in_hand w point = in_marks w point.past + length (calls_of w point.queue)

-- the begin of the first call that waits
abbrev opened_by : ℕ → Call → List Mark → Open
opened_by n call past = record { number = n; call = call; begun = length past; effect = None }

shorter : (call : ℕ × Call) (xs calls : List (ℕ × Call)) → xs ≡ call ∷ calls → length (drop 1 xs) + 1 ≡ length xs
shorter call [] calls e = absurd (cc e)
shorter call (x ∷ xs) calls e = omega arith

begun : (b : Bool) (fresh : Open) (rest : Option Open) → b ≡ true → one_of (is_some (if b then Some fresh else rest)) ≡ 1
begun true fresh rest own = refl
begun false fresh rest own = absurd (true≢false (sym own))

begun-other : (b : Bool) (fresh : Open) (rest : Option Open) → b ≡ false → one_of (is_some (if b then Some fresh else rest)) ≡ one_of (is_some rest)
begun-other true fresh rest other = absurd (true≢false other)
begun-other false fresh rest other = refl

begin-keeps : (w v n : ℕ) (call : ℕ × Call) (calls : List (ℕ × Call)) (point : Point) → is_some (open_call v point.past) ≡ false → calls_of v point.queue ≡ call ∷ calls
    → in_hand w (record { past = mark.Begin v n call.1 ∷ point.past; queue = without_first v point.queue }) ≡ in_hand w point
begin-keeps w v n call calls point closed first = elim (cases_eq v w) [
  | inl e ↦ (
      let own : (v == w) ≡ true = grind (arith, nat_tests, e) in
      let none : one_of (is_some (open_call w point.past)) ≡ 0 = subst (λ (u : ℕ). one_of (is_some (open_call u point.past)) ≡ 0) e (ap one_of closed) in
      let one-less : length (calls_of w (without_first v point.queue)) + 1 ≡ length (calls_of w point.queue) =
      subst (λ (u : ℕ). length (calls_of u (without_first v point.queue)) + 1 ≡ length (calls_of u point.queue)) e (omega (arith, ap length (calls_of-taken v point.queue), shorter call (calls_of v point.queue) calls first)) in
      omega (arith, begun (v == w) (opened_by n call.1 point.past) (open_call w point.past) own, none, one-less)
      )
  | inr ne ↦ (
      let other : (v == w) ≡ false = grind (arith, nat_tests, ne) in
      omega (arith, begun-other (v == w) (opened_by n call.1 point.past) (open_call w point.past) other, ap length (calls_of-without w v point.queue (λ same. ne (sym same))))
      )
]

ready-keeps-by : (w v : ℕ) (opened : Bool) (calls : List (ℕ × Call)) (point : Point) → is_some (open_call v point.past) ≡ opened → calls_of v point.queue ≡ calls → in_hand w (ready_by v opened calls point) ≡ in_hand w point
ready-keeps-by w v true calls point is first = refl
ready-keeps-by w v false [] point is first = refl
ready-keeps-by w v false (call ∷ calls) point is first = begin-keeps w v _ call calls point is first

-- then a call of the worker is open
ready-opens-by : (v : ℕ) (opened : Bool) (calls : List (ℕ × Call)) (point : Point) → is_some (open_call v point.past) ≡ opened → is_busy_by opened calls ≡ true → is_some (open_call v (ready_by v opened calls point).past) ≡ true
ready-opens-by v true calls point is busy = is
ready-opens-by v false [] point is busy = absurd (true≢false (sym busy))
ready-opens-by v false (call ∷ calls) point is busy = let own : (v == v) ≡ true = grind (arith, nat_tests) in ap (λ (b : Bool). is_some (if b then Some (opened_by (begun_calls v point.past + 1) call.1 point.past) else open_call v point.past)) own

-- an act and an effect change nothing of it
act-marks : (w : ℕ) (act : Mark) (past : List Mark) (v : ℕ) → actor act ≡ Some v → (in_marks w (act ∷ past) ≡ in_marks w past) × ((u : ℕ) → is_some (open_call u (act ∷ past)) ≡ is_some (open_call u past))
act-marks w (mark.Load u a x) past v own = (refl, λ z. refl)
act-marks w (mark.Store u a x) past v own = (refl, λ z. refl)
act-marks w (mark.Cas u a old new found) past v own = (refl, λ z. refl)
act-marks w (mark.Ask u line) past v own = (refl, λ z. refl)
act-marks w (mark.Fence u) past v own = (refl, λ z. refl)
act-marks w other past v own = absurd (cc own)

effect-marks : (w : ℕ) (effect past : List Mark) → IsUpToOneEffect effect → (in_marks w (effect ++ past) ≡ in_marks w past) × ((u : ℕ) → is_some (open_call u (effect ++ past)) ≡ is_some (open_call u past))
effect-marks w [] past one = (refl, λ z. refl)
effect-marks w (mark.Effect u n ∷ []) past one = (ap (λ (b : Bool). ended_calls w past + one_of b) (changes_no (u == w) (with_effect (length past)) (open_call w past)), λ z. changes_no (u == z) (with_effect (length past)) (open_call z past))
effect-marks w other past one = absurd one

-- an end is one of the call that is open
end-one : (b : Bool) (ended : ℕ) (o : Option Open) → (b ≡ true → is_some o ≡ true) → (if b then ended + 1 else ended) + one_of (is_some (if b then None else o)) ≡ ended + one_of (is_some o)
end-one true ended o some = omega (arith, ap one_of (some refl))
end-one false ended o some = refl

end-marks : (w v : ℕ) (ending past : List Mark) → IsUpToOneEnd v ending → is_some (open_call v past) ≡ true → in_marks w (ending ++ past) ≡ in_marks w past
end-marks w v [] past one some = refl
end-marks w v (mark.End u n reply at ∷ []) past one some = end-one (u == w) (ended_calls w past) (open_call w past) (λ is. let same : u ≡ w = grind (arith, nat_tests, is) in subst (λ (z : ℕ). is_some (open_call z past) ≡ true) (sym one ∙ same) some)
end-marks w v other past one some = absurd one

step-marks : (w v : ℕ) (past new : List Mark) → IsStep v past new → is_some (open_call v past) ≡ true → in_marks w new ≡ in_marks w past
step-marks w v past new s some =
    let act = act-marks w s.act past v s.own in
    let effect = effect-marks w s.effect (s.act ∷ past) s.one_effect in
    ap (in_marks w) s.is ∙ (end-marks w v s.ending (s.effect ++ s.act ∷ past) s.one_end (effect.1 v ∙ (act.1 v ∙ some)) ∙ (effect.0 ∙ act.0))

turn-keeps : (w v : ℕ) (old new : Point) → IsTurn v old new → in_hand w new ≡ in_hand w old
turn-keeps w v old new turn =
    let opens : is_some (open_call v (ready v old).past) ≡ true = ready-opens-by v (is_some (open_call v old.past)) (calls_of v old.queue) old refl turn.busy in
    omega (arith, step-marks w v (ready v old).past new.past turn.step.0 opens, ap (λ (queue : List (ℕ × Call)). length (calls_of w queue)) turn.step.1, ready-keeps-by w v (is_some (open_call v old.past)) (calls_of v old.queue) old refl refl)

turns-keep : (w v count : ℕ) (old new : Point) → TakesTurns v count old new → in_hand w new ≡ in_hand w old
turns-keep w v zero old new is = ap (in_hand w) is
turns-keep w v (suc count) old new (inl rest) = ap (in_hand w) rest.1
turns-keep w v (suc count) old new (inr some) = turns-keep w v count some.0 new some.2 ∙ turn-keeps w v old some.0 some.1

ends-keep : (w v more : ℕ) (old new : Point) → EndsFrom v more old new → in_hand w new ≡ in_hand w old
ends-keep w v zero old new is = ap (in_hand w) is
ends-keep w v (suc more) old new run = ends-keep w (v + 1) more run.0 new run.2 ∙ turns-keep w v run.1.0 old run.0 run.1.1

-- of a worker that is idle all have ended
idle-hand : (w : ℕ) (point : Point) → is_busy w point ≡ false → in_hand w point ≡ ended_calls w point.past
idle-hand w point idle =
    let is = idle_is w (open_call w point.past) (calls_of w point.queue) idle in
    omega (arith, ap (λ (o : Option Open). one_of (is_some o)) is.none_open, ap length is.none_queued)

closed-hand : (w : ℕ) (point : Point) → open_call w point.past ≡ None → in_hand w point ≡ ended_calls w point.past + length (calls_of w point.queue)
closed-hand w point closed = omega (arith, ap (λ (o : Option Open). one_of (is_some o)) closed)

-- what a cut, power on and the acts of a recovery leave
record StaysClosed (w : ℕ) (old new : List Mark) : Type 0 where
  ended : ended_calls w new ≡ ended_calls w old
  closed : open_call w new ≡ None

closed-act : (w : ℕ) (act : Mark) (past : List Mark) → actor act ≡ Some 0 → open_call w past ≡ None → StaysClosed w past (act ∷ past)
closed-act w (mark.Load u a x) past own closed = record { ended = refl; closed = closed }
closed-act w (mark.Store u a x) past own closed = record { ended = refl; closed = closed }
closed-act w (mark.Cas u a old new found) past own closed = record { ended = refl; closed = closed }
closed-act w (mark.Ask u line) past own closed = record { ended = refl; closed = closed }
closed-act w (mark.Fence u) past own closed = record { ended = refl; closed = closed }
closed-act w other past own closed = absurd (cc own)

closed-both : (w : ℕ) (a b c : List Mark) → StaysClosed w a b → StaysClosed w b c → StaysClosed w a c
closed-both w a b c h k = record { ended = k.ended ∙ h.ended; closed = k.closed }

closed-once : (w : ℕ) (old new : List Mark) → Recovers old new → open_call w old ≡ None → StaysClosed w old new
closed-once w old new r closed = subst (StaysClosed w old) (sym r.is) (closed-act w r.act old r.own closed)

closed-times : (w count : ℕ) (old new : List Mark) → RecoversTimes count old new → open_call w old ≡ None → StaysClosed w old new
closed-times w zero old new same closed = subst (StaysClosed w old) (sym same) (record { ended = refl; closed = closed })
closed-times w (suc count) old new (mid, first, rest) closed =
    let one = closed-once w old mid first closed in
    closed-both w old mid new one (closed-times w count mid new rest one.closed)

closed-whole : (w : ℕ) (old new : List Mark) → RecoversWhole old new → open_call w old ≡ None → StaysClosed w old new
closed-whole w old new (count, mid, last, times, act, is) closed =
    let some = closed-times w count old mid times closed in
    let all = closed-both w old mid last some (closed-once w mid last act some.closed) in
    subst (StaysClosed w old) (sym is) (record { ended = all.ended; closed = all.closed })

closed-off : (w : ℕ) (p : State) (past : List Mark) → open_call w past ≡ None → StaysClosed w past (off_by p past)
closed-off w power.On past closed = record { ended = refl; closed = refl }
closed-off w power.Off past closed = record { ended = refl; closed = closed }
closed-off w power.Recovering past closed = record { ended = refl; closed = closed }

closed-power : (w : ℕ) (at_start : State) (old new : Point) → Powers at_start None old new → open_call w old.past ≡ None → StaysClosed w old.past new.past
closed-power w at_start old new p closed =
    let off = closed-off w (power_of at_start old.past) old.past closed in
    let whole = closed-whole w (mark.On ∷ turned_off at_start old.past) new.past p.0 off.closed in
    record { ended = whole.ended ∙ off.ended; closed = whole.closed }

-- so no call is open then
pub closed_on : (w : ℕ) (at_start : State) (old new : Point) → Powers at_start None old new → open_call w old.past ≡ None → open_call w new.past ≡ None
closed_on w at_start old new p closed = (closed-power w at_start old new p closed).closed

-- the items
both-plain : (a b : Bool) → (a && b) ≡ true → (a ≡ true) × (b ≡ true)
both-plain true b e = (refl, e)
both-plain false b e = absurd (true≢false (sym e))

pub alone_is : (plan : Plan) → is_alone plan ≡ true → plan ≡ Alone
alone_is Alone e = refl
alone_is (Listed turns) e = absurd (true≢false (sym e))
alone_is (Turns seed) e = absurd (true≢false (sym e))
alone_is Threads e = absurd (true≢false (sym e))

more-waits : (w v : ℕ) (call : Call) (queue : List (ℕ × Call)) → length (calls_of w (queue ++ (v, call) ∷ [])) ≡ (if v == w then length (calls_of w queue) + 1 else length (calls_of w queue))
more-waits w v call queue = ap length (calls_of-append w queue ((v, call) ∷ [])) ∙ by (v == w)
  where
    longer : (xs : List (ℕ × Call)) (x : ℕ × Call) → length (xs ++ x ∷ []) ≡ length xs + 1
    longer [] x = refl
    longer (y ∷ xs) x = omega (arith, longer xs x)

    same : (xs : List (ℕ × Call)) → length (xs ++ []) ≡ length xs
    same [] = refl
    same (y ∷ xs) = omega (arith, same xs)

    by : (b : Bool) → length (calls_of w queue ++ (if b then (v, call) ∷ [] else [])) ≡ (if b then length (calls_of w queue) + 1 else length (calls_of w queue))
    by true = longer (calls_of w queue) (v, call)
    by false = same (calls_of w queue)

-- items that neither run nor turn the power on add nothing, whatever is armed
pub idle_adds : (at_start : State) (start : List ℕ) (words : ℕ) (armed : Option CutPlan) (old : Point) (items : List Item) (new : List Mark) → are_idle items ≡ true → LeadsTo at_start start words armed old items new → new ≡ old.past
idle_adds at_start start words armed old [] new idle is = is
idle_adds at_start start words armed old (Queue v call ∷ items) new idle leads = idle_adds at_start start words armed (record { past = old.past; queue = old.queue ++ (v, call) ∷ [] }) items new idle leads
idle_adds at_start start words armed old (Arm flush seed ∷ items) new idle leads = idle_adds at_start start words (Some (record { flush = flush; seed = seed })) old items new idle leads
idle_adds at_start start words armed old (Run plan ∷ items) new idle leads = absurd (true≢false (sym idle))
idle_adds at_start start words armed old (Power ∷ items) new idle leads = absurd (true≢false (sym idle))

none_above : (w waiting : ℕ) (items : List Item) → are_idle items ≡ true → calls_above w waiting items ≡ 0
none_above w waiting [] idle = refl
none_above w waiting (Queue v call ∷ items) idle = none_above w (if v == w then waiting + 1 else waiting) items idle
none_above w waiting (Arm flush seed ∷ items) idle = none_above w waiting items idle
none_above w waiting (Run plan ∷ items) idle = absurd (true≢false (sym idle))
none_above w waiting (Power ∷ items) idle = absurd (true≢false (sym idle))

pub calls-above-end : CallsAboveEnd
calls-above-end at_start start words w old [] new low high plain closed is = omega (arith, ap (ended_calls w) is)
calls-above-end at_start start words w old (Queue v call ∷ items) new low high plain closed leads =
    calls-above-end at_start start words w (record { past = old.past; queue = old.queue ++ (v, call) ∷ [] }) items new low high plain closed leads
    ∙ ap (λ (waiting : ℕ). ended_calls w old.past + calls_above w waiting items) (more-waits w v call old.queue)
calls-above-end at_start start words w old (Arm flush seed ∷ items) new low high plain closed leads =
    omega (arith, ap (ended_calls w) (idle_adds at_start start words _ old items new plain leads), none_above w (length (calls_of w old.queue)) items plain)
calls-above-end at_start start words w old (Run plan ∷ items) new low high plain closed (mid, runs, leads) =
    let both = both-plain (is_alone plan) (are_plain items) plain in
    elim runs [
      | inl whole ↦ (
          let run : EndsFrom 1 64 old mid = subst (λ (p : Plan). RunsBy words p old mid) (alone_is plan both.0) whole.0 in
          let idle = alone-ends-idle w old mid low high run in
          let none = (idle_is w (open_call w mid.past) (calls_of w mid.queue) idle) in
          let rest = calls-above-end at_start start words w mid items new low high both.1 none.none_open leads in
          let waits : calls_above w (length (calls_of w mid.queue)) items ≡ calls_above w 0 items = ap (λ (calls : List (ℕ × Call)). calls_above w (length calls) items) none.none_queued in
          omega (arith, rest, waits, ends-keep w 1 64 old mid run, idle-hand w mid idle, closed-hand w old closed)
          )
      | inr cut ↦ absurd cut
    ]
calls-above-end at_start start words w old (Power ∷ items) new low high plain closed (mid, powers, leads) =
    elim powers [
      | inl on ↦ (
          let stays = closed-power w at_start old mid on closed in
          let rest = calls-above-end at_start start words w mid items new low high plain stays.closed leads in
          let waits : calls_above w (length (calls_of w mid.queue)) items ≡ calls_above w (length (calls_of w old.queue)) items = ap (λ (queue : List (ℕ × Call)). calls_above w (length (calls_of w queue)) items) on.2 in
          omega (arith, rest, waits, stays.ended)
          )
      | inr cut ↦ absurd cut
    ]
