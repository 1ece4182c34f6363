-- What the turns of a run leave: of a turn word, acts of its worker alone, at most as many as the word says, and fewer only
-- where the worker then has no open and no queued call, and no eviction; after `run alone` and `run turns`, no call that is
-- open or waits. The newest mark stands first.
use Rattle.std.proofs.Common.{◌≡◌, ◌≤◌, ◌<◌, ℕ, ◌+◌, false, List, [], ◌∷◌, ◌++◌, Option, Some, None}
use Rattle.bz_layout.specs.declared.limits.TheConstants.{MAX_WORKERS}
use Rattle.bz_mark.specs.declared.marks.Mark.{Mark}
use Rattle.bz_mark.specs.declared.marks.Mark.TheVariants.{Begin, End, Load, Store, Cas, Ask, Fence, Effect}
use Rattle.bz_sched.specs.Points.{Point, actor, is_busy}
use Rattle.bz_sched.specs.Turns.{TakesTurns, EndsAlone, RunsTurns}

-- one act more, where somebody acts
abbrev pub one_more : Option ℕ → ℕ → ℕ
one_more None acts = acts
one_more (Some w) acts = acts + 1

-- how many of these marks are acts
abbrev pub count_acts : List Mark → ℕ
count_acts [] = 0
count_acts (mark ∷ marks) = one_more (actor mark) (count_acts marks)

-- a mark of this worker, or the effect of a call
abbrev pub IsOwn : ℕ → Mark → Type 0
IsOwn w (Begin v n call) = v ≡ w
IsOwn w (End v n reply at) = v ≡ w
IsOwn w (Load v a x) = v ≡ w
IsOwn w (Store v a x) = v ≡ w
IsOwn w (Cas v a old new found) = v ≡ w
IsOwn w (Ask v line) = v ≡ w
IsOwn w (Fence v) = v ≡ w
IsOwn w (Effect v n) = Unit {0}
IsOwn w mark = ⊥

abbrev pub AreOwn : ℕ → List Mark → Type 0
AreOwn w [] = Unit {0}
AreOwn w (mark ∷ marks) = IsOwn w mark × AreOwn w marks

-- marks of this worker are added, among them so many acts
pub record Adds (w : ℕ) (old new : List Mark) (count : ℕ) : Type 0 where
  pub added : List Mark
  pub is : new ≡ added ++ old
  pub own : AreOwn w added
  pub acts : count_acts added ≡ count

-- a turn word keeps to its line
pub record KeepsWord (w count : ℕ) (old new : Point) : Type 0 where
  pub acts : ℕ
  pub adds : Adds w old.past new.past acts
  pub few : acts ≤ count
  pub fewer : acts < count → is_busy w new ≡ false

-- a turn word adds what its line says
abbrev pub WordsAreKept : Type 0
WordsAreKept = (w count : ℕ) (old new : Point) → TakesTurns w count old new → KeepsWord w count old new

-- `run alone` leaves no call open or queued
abbrev pub AloneEndsIdle : Type 0
AloneEndsIdle = (w : ℕ) (old new : Point) → 1 ≤ w → w ≤ MAX_WORKERS → EndsAlone old new → is_busy w new ≡ false

-- nor does `run turns`
abbrev pub TurnsEndIdle : Type 0
TurnsEndIdle = (w words seed : ℕ) (old new : Point) → 1 ≤ w → w ≤ MAX_WORKERS → RunsTurns words seed old new → is_busy w new ≡ false
