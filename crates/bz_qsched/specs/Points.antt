-- Where a run stands, and what one turn of a worker adds. The newest mark stands first.
use Rattle.std.specs.Prelude.{◌≡◌, ℕ, ◌+◌, is_some, Bool, true, false, List, [], ◌∷◌, ◌++◌, Option, Some, None}
use Rattle.bz_ring.specs.declared.calls.QCall.{QCall}
use Rattle.bz_ring.specs.declared.marks.QMark.{QMark}
use Rattle.bz_mark.specs.declared.marks.Mark.TheVariants.{Load, Store, Cas, Ask, Fence}
use Rattle.bz_ring.specs.declared.marks.QMark.TheVariants.{Begin, End, Effect, Memory}
use Rattle.bz_ring.specs.Calls.{open_call, begun_calls}
use Rattle.bz_qsched.specs.Queued.{calls_of, without_first, is_busy_by}

-- a point of a run: the marks so far, and the calls that wait, each with its worker, the first one first
pub record Point : Type 0 where
  pub past : List QMark
  pub queue : List (ℕ × QCall)

-- the worker whose act a mark is
abbrev pub actor : QMark → Option ℕ
actor (Memory (Load w a v)) = Some w
actor (Memory (Store w a v)) = Some w
actor (Memory (Cas w a old new found)) = Some w
actor (Memory (Ask w line)) = Some w
actor (Memory (Fence w)) = Some w
actor mark = None

-- how many of these marks are fences
abbrev pub fences_of : List QMark → ℕ
fences_of [] = 0
fences_of (Memory (Fence w) ∷ past) = fences_of past + 1
fences_of (mark ∷ past) = fences_of past

-- at most the effect of one call, of whatever worker
abbrev pub IsUpToOneEffect : List QMark → Type 0
IsUpToOneEffect [] = Unit {0}
IsUpToOneEffect (Effect w n ∷ []) = Unit {0}
IsUpToOneEffect other = ⊥

-- at most the end of one call of this worker
abbrev pub IsUpToOneEnd : ℕ → List QMark → Type 0
IsUpToOneEnd w [] = Unit {0}
IsUpToOneEnd w (End v n reply at ∷ []) = v ≡ w
IsUpToOneEnd w other = ⊥

-- one step of a worker: exactly one act of its own, then at most one effect, then at most one end of its call
pub record IsStep (w : ℕ) (past new : List QMark) : Type 0 where
  pub act : QMark
  pub effect : List QMark
  pub ending : List QMark
  pub is : new ≡ ending ++ (effect ++ act ∷ past)
  pub own : actor act ≡ Some w
  pub one_effect : IsUpToOneEffect effect
  pub one_end : IsUpToOneEnd w ending

-- the first of these calls of a worker begins, if there is one and no call of the worker is open
abbrev pub ready_by : ℕ → Bool → List (ℕ × QCall) → Point → Point
ready_by w true calls point = point
ready_by w false [] point = point
ready_by w false (call ∷ calls) point =
    record { past = Begin w (begun_calls w point.past + 1) call.1 ∷ point.past; queue = without_first w point.queue }

-- the point at which a worker's turn takes its step: if it has no open call and a queued one, that has begun
abbrev pub ready : ℕ → Point → Point
ready w point = ready_by w (is_some (open_call w point.past)) (calls_of w point.queue) point

-- a worker has an open or a queued call
abbrev pub is_busy : ℕ → Point → Bool
is_busy w point = is_busy_by (is_some (open_call w point.past)) (calls_of w point.queue)

-- a worker gets ready for its step
abbrev pub GetsReady : ℕ → Point → Point → Type 0
GetsReady w old new = new ≡ ready w old

-- and takes it
abbrev pub TakesStep : ℕ → Point → Point → Type 0
TakesStep w old new = IsStep w old.past new.past × (new.queue ≡ old.queue)

-- a turn of a worker that has an open or a queued call
pub record IsTurn (w : ℕ) (old new : Point) : Type 0 where
  pub busy : is_busy w old ≡ true
  pub step : TakesStep w (ready w old) new
