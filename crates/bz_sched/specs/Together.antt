-- What a run on threads adds: the turns of all workers mingle, whatever the order in which they come. The newest mark stands
-- first.
use Rattle.std.specs.Prelude.{◌≡◌, ◌<◌, ◌≤◌, ℕ, ◌==◌, if◌then◌else◌, true, false, List, [], ◌∷◌, ◌++◌, ◌⊎◌}
use Rattle.bz_call.specs.declared.calls.Call.{Call}
use Rattle.bz_layout.specs.declared.limits.TheConstants.{MAX_WORKERS}
use Rattle.bz_mark.specs.Log.{Limits}
use Rattle.bz_mark.specs.declared.marks.Mark.{Mark}
use Rattle.bz_mark.specs.declared.marks.Mark.TheVariants.{Begin, Evict, Cut, On, Ready}
use Rattle.bz_sched.specs.AtLimit.{MeetsLimit}
use Rattle.bz_sched.specs.OpenCalls.{EndsCalls, EndsCallsInPart}
use Rattle.bz_sched.specs.Points.{Point, is_busy}
use Rattle.bz_sched.specs.Queued.{calls_of}
use Rattle.bz_sched.specs.TurnsInPart.{StopsBy}
use Rattle.bz_sched.specs.declared.turn.Stop.{Stop}
use Rattle.bz_sched.specs.declared.turn.Stop.TheVariants.{Due, Limit}
use Rattle.bz_world.specs.declared.answers.LimitKind.{LimitKind}

-- a mark of a call: its begin, an act, its effect or its end
abbrev pub IsOfCall : Mark → Type 0
IsOfCall (Evict a) = ⊥
IsOfCall Cut = ⊥
IsOfCall On = ⊥
IsOfCall Ready = ⊥
IsOfCall mark = Unit {0}

abbrev pub AreOfCalls : List Mark → Type 0
AreOfCalls [] = Unit {0}
AreOfCalls (mark ∷ marks) = IsOfCall mark × AreOfCalls marks

-- the calls of a worker that begin in these marks, the first one first
abbrev pub begun_in : ℕ → List Mark → List (ℕ × Call)
begun_in w [] = []
begun_in w (Begin v n call ∷ marks) = begun_in w marks ++ (if v == w then (v, call) ∷ [] else [])
begun_in w (mark ∷ marks) = begun_in w marks

-- marks of calls are added, and each worker's calls begin in the order in which they waited; nobody but the workers 1 to 64 begins any
pub record Mingles (old new : Point) : Type 0 where
  pub added : List Mark
  pub is : new.past ≡ added ++ old.past
  pub of_calls : AreOfCalls added
  pub begun : (w : ℕ) → 1 ≤ w → w ≤ MAX_WORKERS → begun_in w added ++ calls_of w new.queue ≡ calls_of w old.queue
  pub others : (w : ℕ) → (w ≡ 0) ⊎ (MAX_WORKERS < w) → begun_in w added ≡ []

-- they do so until no worker has an open or a queued call
pub record MinglesWhole (old new : Point) : Type 0 where
  pub mingles : Mingles old new
  pub idle : (w : ℕ) → is_busy w new ≡ false

-- where a worker stands that met a limit: its call was to begin, or to make an act
abbrev pub StandsAt : LimitKind → ℕ → Point → Type 0
StandsAt why w point = (is_busy w point ≡ true) × StopsBy (Limit why) w point point

-- they do so up to where each worker has ended its calls or met a limit; this is the limit of the lowest one that met one
pub record MinglesInPart (why : LimitKind) (old new : Point) : Type 0 where
  pub mingles : Mingles old new
  pub worker : ℕ
  pub lowest : (w : ℕ) → w < worker → is_busy w new ≡ false
  pub stands : StandsAt why worker new

-- a moment of such marks at which this limit was met, and with it the lowest worker that has an open or a queued call at their end: others went on after it
pub record HasMet (limits : Limits) (why : LimitKind) (old new : Point) : Type 0 where
  pub past : List Mark
  pub since : (added : List Mark) × (past ≡ added ++ old.past)
  pub later : (added : List Mark) × (new.past ≡ added ++ past)
  pub worker : ℕ
  pub lowest : (w : ℕ) → w < worker → is_busy w new ≡ false
  pub stands : StandsAt why worker (record { past = past; queue = new.queue })
  pub met : MeetsLimit limits past why

-- a limit is met at their end, or was met at such a moment
abbrev pub MeetsTogether : Limits → LimitKind → Point → Point → Type 0
MeetsTogether limits why old new = MeetsLimit limits new.past why ⊎ HasMet limits why old new

-- `run threads`: calls that are open are ended first, one worker after the other
abbrev pub RunsThreads : Point → Point → Type 0
RunsThreads old new = (mid : Point) × EndsCalls old mid × MinglesWhole mid new

-- the same up to a limit
abbrev pub RunsThreadsUpTo : LimitKind → Point → Point → Type 0
RunsThreadsUpTo why old new = EndsCallsInPart (Limit why) old new ⊎ ((mid : Point) × EndsCalls old mid × MinglesInPart why mid new)

-- no cut is armed for it
abbrev pub RunsThreadsInPart : Stop → Point → Point → Type 0
RunsThreadsInPart (Due w) old new = ⊥
RunsThreadsInPart (Limit why) old new = RunsThreadsUpTo why old new
