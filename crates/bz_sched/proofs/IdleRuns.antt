-- That `run alone` and `run turns` leave no call open or queued, of workers from 1 to 64.
use Rattle.std.proofs.Common.{◌≡◌, ◌≢◌, ◌≤◌, ◌<◌, ℕ, zero, suc, ◌+◌, ◌==◌, Bool, true, false, List, [], ◌∷◌, ◌++◌, refl, ◌∙◌, arith, Option, Some, None, inl, inr}
use Rattle.std.specs.Prelude.{if◌then◌else◌, is_some, option_map}
use Rattle.std.proofs.lemmas.Bool.Decides.{nat_tests}
use Rattle.bz_call.specs.declared.calls.Call.{Call}
use Rattle.bz_mark.specs.declared.marks.Mark.{Mark}
use Rattle.bz_mark.specs.declared.marks.Mark.TheVariants.{Begin, End, Load, Store, Cas, Ask, Fence, Effect}
use Rattle.bz_sound.specs.Calls.{Open, open_call, with_effect}
use Rattle.bz_sched.specs.Queued.{calls_of, is_busy_by}
use Rattle.bz_sched.specs.Points.{Point, ready_by, is_busy, IsTurn}
use Rattle.bz_sched.specs.Turns.{TakesTurns, EndsFrom, passing_from, RunsRounds}
use Rattle.bz_sched.proofs.QueueLaws.{not_same, same_owner, calls_of-without}
use Rattle.bz_sched.specs.TurnLaws.{AreOwn, AloneEndsIdle, TurnsEndIdle}
use Rattle.bz_sched.proofs.TurnAdds.{turn_adds}

-- no call of this worker is open, and none waits
pub record IsIdle (w : ℕ) (opened : Option Open) (calls : List (ℕ × Call)) : Type 0 where
  pub none_open : opened ≡ None
  pub none_queued : calls ≡ []

pub idle_is : (w : ℕ) (opened : Option Open) (calls : List (ℕ × Call)) → is_busy_by (is_some opened) calls ≡ false → IsIdle w opened calls
idle_is w None [] is = record { none_open = refl; none_queued = refl }
idle_is w None (call ∷ calls) is = absurd cc
idle_is w (Some opened) calls is = absurd cc

is_idle : (opened : Option Open) (calls : List (ℕ × Call)) → opened ≡ None → calls ≡ [] → is_busy_by (is_some opened) calls ≡ false
is_idle opened calls none empty = rw (none, empty) refl

none_begun : (b : Bool) (fresh rest : Option Open) → b ≡ false → rest ≡ None → (if b then fresh else rest) ≡ None
none_begun true fresh rest other none = absurd (cc other)
none_begun false fresh rest other none = none

none_ended : (b : Bool) (rest : Option Open) → rest ≡ None → (if b then None else rest) ≡ None
none_ended true rest none = refl
none_ended false rest none = none

none_effected : (b : Bool) (at : ℕ) (rest : Option Open) → rest ≡ None → (if b then option_map (with_effect at) rest else rest) ≡ None
none_effected true at rest none = rw none refl
none_effected false at rest none = none

-- marks of another worker open no call of this one
pub open_stays_none : (w v : ℕ) (added past : List Mark) → w ≢ v → AreOwn v added → open_call w past ≡ None → open_call w (added ++ past) ≡ None
open_stays_none w v [] past other own none = none
open_stays_none w v (Begin u n call ∷ added) past other own none = none_begun (u == w) _ _ (not_same v w u own.0 other) (open_stays_none w v added past other own.1 none)
open_stays_none w v (End u n reply at ∷ added) past other own none = none_ended (u == w) _ (open_stays_none w v added past other own.1 none)
open_stays_none w v (Effect u n ∷ added) past other own none = none_effected (u == w) _ _ (open_stays_none w v added past other own.1 none)
open_stays_none w v (Load u a x ∷ added) past other own none = open_stays_none w v added past other own.1 none
open_stays_none w v (Store u a x ∷ added) past other own none = open_stays_none w v added past other own.1 none
open_stays_none w v (Cas u a old new found ∷ added) past other own none = open_stays_none w v added past other own.1 none
open_stays_none w v (Ask u line ∷ added) past other own none = open_stays_none w v added past other own.1 none
open_stays_none w v (Fence u ∷ added) past other own none = open_stays_none w v added past other own.1 none
open_stays_none w v (mark ∷ added) past other own none = absurd own.0

ready_queue : (w v : ℕ) (opened : Bool) (calls : List (ℕ × Call)) (point : Point) → w ≢ v → calls_of w (ready_by v opened calls point).queue ≡ calls_of w point.queue
ready_queue w v true calls point other = refl
ready_queue w v false [] point other = refl
ready_queue w v false (call ∷ calls) point other = calls_of-without w v point.queue other

-- a turn of another worker leaves an idle one idle
turn_keeps : (w v : ℕ) (old new : Point) → w ≢ v → IsTurn v old new → is_busy w old ≡ false → is_busy w new ≡ false
turn_keeps w v old new other turn idle =
    let was = idle_is w (open_call w old.past) (calls_of w old.queue) idle in
    let adds = turn_adds v old new turn in
    let none : open_call w new.past ≡ None = rw adds.is (open_stays_none w v adds.added old.past other adds.own was.none_open) in
    let empty : calls_of w new.queue ≡ [] = rw turn.step.1 (ready_queue w v (is_some (open_call v old.past)) (calls_of v old.queue) old other ∙ was.none_queued) in
    is_idle (open_call w new.past) (calls_of w new.queue) none empty

turns_keep : (w v count : ℕ) (old new : Point) → w ≢ v → TakesTurns v count old new → is_busy w old ≡ false → is_busy w new ≡ false
turns_keep w v zero old new other is idle = rw is idle
turns_keep w v (suc count) old new other (inl rest) idle = rw rest.1 idle
turns_keep w v (suc count) old new other (inr some) idle = turns_keep w v count some.0 new other some.2 (turn_keeps w v old some.0 other some.1 idle)

ends_keep : (w v more : ℕ) (old new : Point) → w < v → EndsFrom v more old new → is_busy w old ≡ false → is_busy w new ≡ false
ends_keep w v zero old new before is idle = rw is idle
ends_keep w v (suc more) old new before run idle =
    ends_keep w (v + 1) more run.0 new (omega arith) run.2 (turns_keep w v run.1.0 old run.0 (λ same. absurd (omega arith)) run.1.1 idle)

-- a worker from one on is that one or a later one
pub first_or_later : (P : Type 0) (w v : ℕ) (b : Bool) → (w == v) ≡ b → v ≤ w → (w ≡ v → P) → (v + 1 ≤ w → P) → P
first_or_later P w v true is from here later = here (same_owner w v is)
first_or_later P w v false is from here later = later (grind (arith, nat_tests))

ends_idle : (w v more : ℕ) (old new : Point) → v ≤ w → w < v + more → EndsFrom v more old new → is_busy w new ≡ false
ends_idle w v zero old new from to run = absurd (omega arith)
ends_idle w v (suc more) old new from to run =
    let mid = run.0 in
    first_or_later (is_busy w new ≡ false) w v (w == v) refl from
    (λ same. ends_keep w (v + 1) more mid new (omega arith) run.2 (rw same run.1.2))
    (λ later. ends_idle w (v + 1) more mid new later (omega arith) run.2)

pub alone-ends-idle : AloneEndsIdle
alone-ends-idle w old new low high run = ends_idle w 1 64 old new low (omega arith) run

none_listed : (b : Bool) (v : ℕ) (rest : List ℕ) → (if b then v ∷ rest else rest) ≡ [] → (b ≡ false) × (rest ≡ [])
none_listed true v rest is = absurd cc
none_listed false v rest is = (refl, is)

none_busy : (w v more : ℕ) (point : Point) → v ≤ w → w < v + more → passing_from (λ u. is_busy u point) v more ≡ [] → is_busy w point ≡ false
none_busy w v zero point from to none = absurd (omega arith)
none_busy w v (suc more) point from to none =
    let parts = none_listed (is_busy v point) v (passing_from (λ u. is_busy u point) (v + 1) more) none in
    first_or_later (is_busy w point ≡ false) w v (w == v) refl from
    (λ same. rw same parts.0)
    (λ later. none_busy w (v + 1) more point later (omega arith) parts.1)

rounds_idle : (w words rounds state : ℕ) (old new : Point) → 1 ≤ w → w ≤ 64 → RunsRounds words rounds state old new → is_busy w new ≡ false
rounds_idle w words zero state old new low high run = rw run.1 (none_busy w 1 64 old low (omega arith) run.0)
rounds_idle w words (suc rounds) state old new low high run = rounds_idle w words rounds _ run.1.0 new low high run.1.2

pub turns-end-idle : TurnsEndIdle
turns-end-idle w words seed old new low high run = rounds_idle w words run.0 seed old new low high run.1
