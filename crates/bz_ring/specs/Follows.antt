-- Which mark may follow which marks, so that each call stands once. The newest mark stands first.
use Rattle.std.specs.Prelude.{◌≡◌, ◌≢◌, ◌≤◌, ℕ, zero, suc, List, ◌∷◌, Some}
use Rattle.bz_mark.specs.Times.{power_of}
use Rattle.bz_mark.specs.declared.marks.Mark.{Mark}
use Rattle.bz_mark.specs.declared.marks.Mark.TheVariants as mark
use Rattle.bz_mark.specs.declared.power.Power.{Power}
use Rattle.bz_mark.specs.declared.power.Power.TheVariants as power
use Rattle.bz_ring.specs.declared.marks.QMark.{QMark}
use Rattle.bz_ring.specs.declared.marks.QMark.TheVariants.{Begin, End, Effect, Memory}
use Rattle.bz_ring.specs.Calls.{Open, open_call, MayBegin, MayEnd, MayEffect}
use Rattle.bz_ring.specs.Journal.{EachMark, memory_of}

-- what the power is: on at first, over fresh memory
abbrev pub power_after : List QMark → Power
power_after past = power_of power.On (memory_of past)

-- the worker has a call that is open
pub record HasOpenCall (past : List QMark) (w : ℕ) : Type 0 where
  pub opened : Open
  pub is_open : open_call w past ≡ Some opened

-- worker 0 acts while the power is recovering, and any other worker while it has an open call
abbrev pub MayAct : List QMark → ℕ → Type 0
MayAct past zero = power_after past ≡ power.Recovering
MayAct past (suc w) = HasOpenCall past (suc w)

-- the mark is an act of this worker
abbrev pub IsActOf : ℕ → Mark → Type 0
IsActOf w (mark.Load v a value) = v ≡ w
IsActOf w (mark.Store v a value) = v ≡ w
IsActOf w (mark.Cas v a old new found) = v ≡ w
IsActOf w (mark.Ask v line) = v ≡ w
IsActOf w (mark.Fence v) = v ≡ w
IsActOf w other = ⊥

-- the newest mark is an act of worker 0
abbrev pub IsAfterRecovering : List QMark → Type 0
IsAfterRecovering (Memory memory ∷ past) = IsActOf 0 memory
IsAfterRecovering past = ⊥

-- the mark makes words durable while the power is on, as no other does
abbrev pub MakesDurable : Mark → Type 0
MakesDurable (mark.Fence w) = Unit {0}
MakesDurable (mark.Evict a) = Unit {0}
MakesDurable other = ⊥

-- the newest mark made words durable
abbrev pub IsAfterDurable : List QMark → Type 0
IsAfterDurable (Memory memory ∷ past) = MakesDurable memory
IsAfterDurable past = ⊥

-- an act is one of a worker that may act; words are evicted, and the power fails, while it is not off; it comes on only while it
-- is off; recovery ends directly after an act of worker 0
abbrev pub MayHappen : List QMark → Mark → Type 0
MayHappen past (mark.Begin w n call) = ⊥
MayHappen past (mark.End w n reply at) = ⊥
MayHappen past (mark.Effect w n) = ⊥
MayHappen past (mark.Load w a v) = MayAct past w
MayHappen past (mark.Store w a v) = MayAct past w
MayHappen past (mark.Cas w a old new found) = MayAct past w
MayHappen past (mark.Ask w line) = MayAct past w
MayHappen past (mark.Fence w) = MayAct past w
MayHappen past (mark.Evict a) = power_after past ≢ power.Off
MayHappen past mark.Cut = power_after past ≢ power.Off
MayHappen past mark.On = power_after past ≡ power.Off
MayHappen past mark.Ready = IsAfterRecovering past

-- a call of a worker other than 0 begins with the power on
pub record BeginsPowered (past : List QMark) (w n : ℕ) : Type 0 where
  pub worker : 1 ≤ w
  pub powered : power_after past ≡ power.On
  pub begins : MayBegin past w n

-- an effect stands directly after a mark that made words durable, of any worker
pub record EffectsNow (capacity : ℕ) (first : List ℕ) (past : List QMark) (w n : ℕ) : Type 0 where
  pub after : IsAfterDurable past
  pub may : MayEffect capacity first past w n

abbrev pub MayFollow : ℕ → List ℕ → List QMark → QMark → Type 0
MayFollow capacity first past (Begin w n call) = BeginsPowered past w n
MayFollow capacity first past (End w n reply at) = MayEnd past w n
MayFollow capacity first past (Effect w n) = EffectsNow capacity first past w n
MayFollow capacity first past (Memory memory) = MayHappen past memory

-- each mark is one that may follow those before it
abbrev pub CallsOnce : ℕ → List ℕ → List QMark → Type 0
CallsOnce capacity first past = EachMark (MayFollow capacity first) past
