-- Runs that stop: at a limit, where one more was needed, or before the fence at which the power is cut. The newest mark stands
-- first.
use Rattle.std.specs.Prelude.{◌≡◌, ℕ, zero, suc, ◌+◌, true, List, [], ◌∷◌, ◌⊎◌, None}
use Rattle.bz_ring.specs.Calls.{open_call}
use Rattle.bz_script.specs.declared.turn_list.Turn.{Turn}
use Rattle.bz_script.specs.declared.turn_list.Turn.TheVariants.{Times}
use Rattle.bz_queue.specs.declared.answers.QLimit.TheVariants as which
use Rattle.bz_qsched.specs.declared.turn.Stop.{Stop}
use Rattle.bz_qsched.specs.declared.turn.Stop.TheVariants.{Due, Limit}
use Rattle.bz_qsched.specs.Points.{Point, ready, is_busy, IsTurn}
use Rattle.bz_qsched.specs.Turns.{TakesWord, EndsOne}

-- a step of a worker was to come: the limit is one of marks, or the step is the fence
abbrev pub StopsStep : Stop → ℕ → Point → Point → Type 0
StopsStep (Limit why) w old new = (why ≡ which.Marks) × (new ≡ old)
StopsStep (Due v) w old new = (v ≡ w) × (new ≡ old)

-- where a turn stops. At a limit: its call was to begin; or, where it is one of
-- marks, the step was to come. Before the fence: the step was to come, of that worker.
abbrev pub StopsBy : Stop → ℕ → Point → Point → Type 0
StopsBy (Limit which.Marks) w old new = (new ≡ old) ⊎ (new ≡ ready w old)
StopsBy (Limit which.Calls) w old new = (open_call w old.past ≡ None) × (new ≡ old)
StopsBy (Due v) w old new = (v ≡ w) × (new ≡ ready w old)

-- a turn of a worker that has an open or a queued call stops
abbrev pub StopsTurn : Stop → ℕ → Point → Point → Type 0
StopsTurn why w old new = (is_busy w old ≡ true) × StopsBy why w old new

-- so many turns of a worker up to where they stop
abbrev pub TakesTurnsInPart : Stop → ℕ → ℕ → Point → Point → Type 0
TakesTurnsInPart why w zero old new = ⊥
TakesTurnsInPart why w (suc count) old new =
    StopsTurn why w old new ⊎ ((mid : Point) × IsTurn w old mid × TakesTurnsInPart why w count mid new)

-- turns of a worker up to where they stop
abbrev pub EndsOneInPart : Stop → ℕ → Point → Point → Type 0
EndsOneInPart why w old new = (count : ℕ) × TakesTurnsInPart why w count old new

-- of so many workers from one on, each in ascending order has its turns, up to where they stop
abbrev pub EndsFromInPart : Stop → ℕ → ℕ → Point → Point → Type 0
EndsFromInPart why w zero old new = ⊥
EndsFromInPart why w (suc more) old new =
    EndsOneInPart why w old new ⊎ ((mid : Point) × EndsOne w old mid × EndsFromInPart why (w + 1) more mid new)

-- `run alone` up to where it stops
abbrev pub EndsAloneInPart : Stop → Point → Point → Type 0
EndsAloneInPart why old new = EndsFromInPart why 1 64 old new

-- a turn word up to where it stops
abbrev pub TakesWordInPart : Stop → Turn → Point → Point → Type 0
TakesWordInPart why (Times w count) old new = TakesTurnsInPart why w count old new

-- `run list` up to where it stops
abbrev pub RunsListInPart : Stop → List Turn → Point → Point → Type 0
RunsListInPart why [] old new = ⊥
RunsListInPart why (turn ∷ turns) old new =
    TakesWordInPart why turn old new ⊎ ((mid : Point) × TakesWord turn old mid × RunsListInPart why turns mid new)
