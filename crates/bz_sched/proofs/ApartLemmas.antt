-- Where the power comes on at most at first, the calls of runs of one worker after the other go apart.
use Rattle.std.proofs.Common.{◌≡◌, ◌≢◌, ℕ, zero, suc, ◌+◌, ◌&&◌, Bool, true, false, List, [], ◌∷◌, ◌++◌, refl, sym, subst, Option, Some, None, inl, inr}
use Rattle.std.specs.Prelude.{is_some}
use Rattle.std.proofs.lemmas.Bool.{cases_eq, true≢false}
use Rattle.bz_call.specs.declared.calls.Call.{Call}
use Rattle.bz_mark.specs.declared.marks.Mark.{Mark}
use Rattle.bz_mark.specs.declared.marks.Mark.TheVariants as mark
use Rattle.bz_script.specs.declared.item.Item.{Item}
use Rattle.bz_script.specs.declared.item.Item.TheVariants.{Queue, Arm, Run, Power}
use Rattle.bz_script.specs.declared.item.Plan.{Plan}
use Rattle.bz_sound.specs.Calls.{Open, open_call}
use Rattle.bz_sound.specs.Memory.Sound.{IsApart}
use Rattle.bz_mark.specs.Times.{power_of}
use Rattle.bz_mark.specs.declared.power.Power.{Power as State}
use Rattle.bz_mark.specs.declared.power.Power.TheVariants as power
use Rattle.bz_sched.specs.UndisturbedLaws.{without_power, powers_first, CallsGoApart}
use Rattle.bz_sched.specs.Enough.{AreClosed}
use Rattle.bz_sched.specs.Plans.{RunsBy}
use Rattle.bz_sched.specs.Points.{Point, actor, IsUpToOneEffect, IsUpToOneEnd, IsStep, ready_by, ready, IsTurn}
use Rattle.bz_sched.specs.Queued.{calls_of}
use Rattle.bz_sched.specs.Recoveries.{off_by, turned_on, Powers, RecoversTimes, RecoversWhole}
use Rattle.bz_sched.specs.Scripts.{LeadsTo}
use Rattle.bz_sched.specs.Sums.{is_alone, are_plain}
use Rattle.bz_sched.specs.Turns.{TakesTurns, EndsOne, EndsFrom}
use Rattle.bz_sched.proofs.AboveLemmas.{alone_is, closed_on, idle_adds}
use Rattle.bz_sched.proofs.IdleRuns.{idle_is, open_stays_none}
use Rattle.bz_sched.proofs.TurnAdds.{turn_adds}

-- no call of another worker than this is open, and those so far went apart
record GoesApart (v : ℕ) (past : List Mark) : Type 0 where
  others : (u : ℕ) → u ≢ v → open_call u past ≡ None
  apart : IsApart past

none-open : (o : Option Open) → is_some o ≡ false → o ≡ None
none-open None e = refl
none-open (Some opened) e = absurd (true≢false e)

ready-apart : (v : ℕ) (opened : Bool) (calls : List (ℕ × Call)) (point : Point) → is_some (open_call v point.past) ≡ opened → GoesApart v point.past → IsApart (ready_by v opened calls point).past
ready-apart v true calls point is g = g.apart
ready-apart v false [] point is g = g.apart
ready-apart v false (call ∷ calls) point is g = (closed, g.apart)
  where
    closed : (u : ℕ) → open_call u point.past ≡ None
    closed u = elim (cases_eq u v) [
      | inl e ↦ subst (λ (z : ℕ). open_call z point.past ≡ None) (sym e) (none-open (open_call v point.past) is)
      | inr ne ↦ g.others u ne
    ]

act-apart : (act : Mark) (past : List Mark) (v : ℕ) → actor act ≡ Some v → IsApart past → IsApart (act ∷ past)
act-apart (mark.Load u a x) past v own apart = (tt, apart)
act-apart (mark.Store u a x) past v own apart = (tt, apart)
act-apart (mark.Cas u a old new found) past v own apart = (tt, apart)
act-apart (mark.Ask u line) past v own apart = (tt, apart)
act-apart (mark.Fence u) past v own apart = (tt, apart)
act-apart other past v own apart = absurd (cc own)

effect-apart : (effect past : List Mark) → IsUpToOneEffect effect → IsApart past → IsApart (effect ++ past)
effect-apart [] past one apart = apart
effect-apart (mark.Effect u n ∷ []) past one apart = (tt, apart)
effect-apart other past one apart = absurd one

end-apart : (v : ℕ) (ending past : List Mark) → IsUpToOneEnd v ending → IsApart past → IsApart (ending ++ past)
end-apart v [] past one apart = apart
end-apart v (mark.End u n reply at ∷ []) past one apart = (tt, apart)
end-apart v other past one apart = absurd one

step-apart : (v : ℕ) (past new : List Mark) → IsStep v past new → IsApart past → IsApart new
step-apart v past new s apart = subst IsApart (sym s.is) (end-apart v s.ending (s.effect ++ s.act ∷ past) s.one_end (effect-apart s.effect (s.act ∷ past) s.one_effect (act-apart s.act past v s.own apart)))

turn-apart : (v : ℕ) (old new : Point) → IsTurn v old new → GoesApart v old.past → GoesApart v new.past
turn-apart v old new turn g = record {
  others = λ u ne. let adds = turn_adds v old new turn in subst (λ (past : List Mark). open_call u past ≡ None) (sym adds.is) (open_stays_none u v adds.added old.past ne adds.own (g.others u ne));
  apart = step-apart v (ready v old).past new.past turn.step.0 (ready-apart v (is_some (open_call v old.past)) (calls_of v old.queue) old refl g);
}

turns-apart : (v count : ℕ) (old new : Point) → TakesTurns v count old new → GoesApart v old.past → GoesApart v new.past
turns-apart v zero old new is g = subst (λ (point : Point). GoesApart v point.past) (sym is) g
turns-apart v (suc count) old new (inl rest) g = subst (λ (point : Point). GoesApart v point.past) (sym rest.1) g
turns-apart v (suc count) old new (inr some) g = turns-apart v count some.0 new some.2 (turn-apart v old some.0 some.1 g)

-- between the calls of two workers none is open
record IsClosedApart (past : List Mark) : Type 0 where
  closed : AreClosed past
  apart : IsApart past

one-apart : (v : ℕ) (old new : Point) → EndsOne v old new → IsClosedApart old.past → IsClosedApart new.past
one-apart v old new (count, turns, idle) c =
    let g = turns-apart v count old new turns (record { others = λ u ne. c.closed u; apart = c.apart }) in
    record {
      closed = λ u. elim (cases_eq u v) [
        | inl e ↦ subst (λ (z : ℕ). open_call z new.past ≡ None) (sym e) (idle_is v (open_call v new.past) (calls_of v new.queue) idle).none_open
        | inr ne ↦ g.others u ne
      ];
      apart = g.apart;
    }

ends-apart : (v more : ℕ) (old new : Point) → EndsFrom v more old new → IsClosedApart old.past → IsClosedApart new.past
ends-apart v zero old new is c = subst (λ (point : Point). IsClosedApart point.past) (sym is) c
ends-apart v (suc more) old new run c = ends-apart (v + 1) more run.0 new run.2 (one-apart v old run.0 run.1 c)

both : (a b : Bool) → (a && b) ≡ true → (a ≡ true) × (b ≡ true)
both true b e = (refl, e)
both false b e = absurd (true≢false (sym e))

go-apart : (at_start : State) (start : List ℕ) (words : ℕ) (old : Point) (items : List Item) (new : List Mark) → are_plain items ≡ true → without_power items ≡ true → AreClosed old.past → IsApart old.past →
    LeadsTo at_start start words None old items new → IsApart new
go-apart at_start start words old [] new plain no_power closed apart is = subst IsApart (sym is) apart
go-apart at_start start words old (Queue v call ∷ items) new plain no_power closed apart leads =
    go-apart at_start start words (record { past = old.past; queue = old.queue ++ (v, call) ∷ [] }) items new plain no_power closed apart leads
go-apart at_start start words old (Arm flush seed ∷ items) new plain no_power closed apart leads = subst IsApart (sym (idle_adds at_start start words _ old items new plain leads)) apart
go-apart at_start start words old (Run plan ∷ items) new plain no_power closed apart (mid, runs, leads) =
    let alone = both (is_alone plan) (are_plain items) plain in
    elim runs [
      | inl whole ↦ (
          let c = ends-apart 1 64 old mid (subst (λ (p : Plan). RunsBy words p old mid) (alone_is plan alone.0) whole.0) (record { closed = closed; apart = apart }) in
          go-apart at_start start words mid items new alone.1 no_power c.closed c.apart leads
          )
      | inr cut ↦ absurd cut
    ]
go-apart at_start start words old (Power ∷ items) new plain no_power closed apart leads = absurd (true≢false (sym no_power))

-- power on, from the power off
times-apart : (count : ℕ) (old new : List Mark) → RecoversTimes count old new → IsApart old → IsApart new
times-apart zero old new is apart = subst IsApart (sym is) apart
times-apart (suc count) old new (mid, act, rest) apart = times-apart count mid new rest (subst IsApart (sym act.is) (act-apart act.act old 0 act.own apart))

whole-apart : (old new : List Mark) → RecoversWhole old new → IsApart old → IsApart new
whole-apart old new (count, mid, last, times, act, is) apart = subst IsApart (sym is) (tt, subst IsApart (sym act.is) (act-apart act.act mid 0 act.own (times-apart count old mid times apart)))

power-apart : (at_start : State) (old new : Point) → power_of at_start old.past ≡ power.Off → Powers at_start None old new → IsApart old.past → IsApart new.past
power-apart at_start old new off on apart =
    whole-apart (turned_on at_start old.past) new.past on.0 (tt, subst (λ (p : State). IsApart (off_by p old.past)) (sym off) apart)

pub calls-go-apart : CallsGoApart
calls-go-apart at_start start words old items new plain first closed apart leads = by (power_of at_start old.past) refl items plain first leads
  where
    by : (p : State) → power_of at_start old.past ≡ p → (items : List Item) → are_plain items ≡ true → powers_first p items ≡ true → LeadsTo at_start start words None old items new → IsApart new
    by power.Off off (Power ∷ items) plain first (mid, powers, leads) =
        elim powers [
          | inl on ↦ go-apart at_start start words mid items new plain first (λ w. closed_on w at_start old mid on (closed w)) (power-apart at_start old mid off on apart) leads
          | inr cut ↦ absurd cut
        ]
    by p is items plain first leads = go-apart at_start start words old items new plain first closed apart leads
