-- That no call is open, of workers from 1 to 64, once those that were open have been ended.
use Rattle.std.proofs.Common.{◌≡◌, ◌≢◌, ◌≤◌, ◌<◌, ℕ, zero, suc, ◌+◌, ◌==◌, refl, arith, None}
use Rattle.bz_sound.specs.Calls.{open_call}
use Rattle.bz_sched.proofs.IdleRuns.{open_stays_none, first_or_later}
use Rattle.bz_sched.specs.OpenCalls.{TurnsWhileOpen, EndsCallsFrom, EndsCalls}
use Rattle.bz_sched.specs.Points.{Point, IsTurn}
use Rattle.bz_sched.proofs.TurnAdds.{turn_adds}

-- a turn of another worker opens no call of this one
turn_opens_none : (w v : ℕ) (old new : Point) → w ≢ v → IsTurn v old new → open_call w old.past ≡ None → open_call w new.past ≡ None
turn_opens_none w v old new other turn none = let adds = turn_adds v old new turn in rw adds.is (open_stays_none w v adds.added old.past other adds.own none)

turns_open_none : (w v count : ℕ) (old new : Point) → w ≢ v → TurnsWhileOpen v count old new → open_call w old.past ≡ None → open_call w new.past ≡ None
turns_open_none w v zero old new other ends none = rw ends.1 none
turns_open_none w v (suc count) old new other (is_open, (mid, turn, rest)) none = turns_open_none w v count mid new other rest (turn_opens_none w v old mid other turn none)

calls_open_none : (w v more : ℕ) (old new : Point) → w < v → EndsCallsFrom v more old new → open_call w old.past ≡ None → open_call w new.past ≡ None
calls_open_none w v zero old new before is none = rw is none
calls_open_none w v (suc more) old new before (mid, (count, turns), rest) none =
    calls_open_none w (v + 1) more mid new (omega arith) rest (turns_open_none w v count old mid (λ same. absurd (omega arith)) turns none)

ended_is_none : (w count : ℕ) (old new : Point) → TurnsWhileOpen w count old new → open_call w new.past ≡ None
ended_is_none w zero old new ends = rw ends.1 ends.0
ended_is_none w (suc count) old new (is_open, (mid, turn, rest)) = ended_is_none w count mid new rest

ends_open_none : (w v more : ℕ) (old new : Point) → v ≤ w → w < v + more → EndsCallsFrom v more old new → open_call w new.past ≡ None
ends_open_none w v zero old new from to ends = absurd (omega arith)
ends_open_none w v (suc more) old new from to (mid, (count, turns), rest) =
    first_or_later (open_call w new.past ≡ None) w v (w == v) refl from
    (λ same. calls_open_none w (v + 1) more mid new (omega arith) rest (rw same (ended_is_none v count old mid turns)))
    (λ later. ends_open_none w (v + 1) more mid new later (omega arith) rest)

-- once the open calls have been ended none is open
pub none_open : (w : ℕ) (old new : Point) → 1 ≤ w → w ≤ 64 → EndsCalls old new → open_call w new.past ≡ None
none_open w old new low high ends = ends_open_none w 1 64 old new low (omega arith) ends
