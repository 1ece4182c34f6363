-- Which mark may follow which marks, so that each call stands once, where the power fails and comes on again. The newest
-- mark stands first.
use Rattle.std.specs.Prelude.{◌≡◌, ◌≢◌, ◌≤◌, ℕ, zero, suc, List, ◌∷◌}
use Rattle.bz_call.specs.Map.{Map}
use Rattle.bz_mark.specs.declared.marks.Mark.{Mark}
use Rattle.bz_mark.specs.declared.marks.Mark.TheVariants.{Begin, End, Load, Store, Cas, Ask, Fence, Evict, Cut, On, Ready, Effect}
use Rattle.bz_mark.specs.declared.power.Power.{Power}
use Rattle.bz_mark.specs.declared.power.Power.TheVariants as power
use Rattle.bz_sound.specs.Calls.{MayBegin, MayEnd, MayEffect}
use Rattle.bz_sound.specs.Memory.Calls.{HasOpenCall}
use Rattle.bz_sound.specs.Memory.Moments.{IsAfterFence, EachMark}
use Rattle.bz_mark.specs.Times.{power_of}

-- worker 0 acts while the power is recovering, and any other worker while it has an open call
abbrev pub MayAct : Power → List Mark → ℕ → Type 0
MayAct at_start past zero = power_of at_start past ≡ power.Recovering
MayAct at_start past (suc w) = HasOpenCall past (suc w)

-- the newest mark is an act of worker 0
abbrev pub IsAfterRecovering : List Mark → Type 0
IsAfterRecovering (Load w a v ∷ past) = w ≡ 0
IsAfterRecovering (Store w a v ∷ past) = w ≡ 0
IsAfterRecovering (Cas w a old new found ∷ past) = w ≡ 0
IsAfterRecovering (Ask w line ∷ past) = w ≡ 0
IsAfterRecovering (Fence w ∷ past) = w ≡ 0
IsAfterRecovering past = ⊥

-- a call of a worker other than 0 begins with the power on
pub record BeginsPowered (at_start : Power) (past : List Mark) (w n : ℕ) : Type 0 where
  pub worker : 1 ≤ w
  pub powered : power_of at_start past ≡ power.On
  pub begins : MayBegin past w n

-- A call is open from its Begin to its End or to the next Cut, and begins with the power on. An effect stands directly
-- after a fence or an eviction, of any worker, and names an open call that has none yet and changes the map; the
-- map was this one at the start. Words are evicted, and the power fails, while it is not off; it comes on only while it is off.
-- Recovery ends directly after an act of worker 0.
abbrev pub MayFollow : Power → Map → List Mark → Mark → Type 0
MayFollow at_start start past (Begin w n call) = BeginsPowered at_start past w n
MayFollow at_start start past (End w n reply at) = MayEnd past w n
MayFollow at_start start past (Load w a v) = MayAct at_start past w
MayFollow at_start start past (Store w a v) = MayAct at_start past w
MayFollow at_start start past (Cas w a old new found) = MayAct at_start past w
MayFollow at_start start past (Ask w line) = MayAct at_start past w
MayFollow at_start start past (Fence w) = MayAct at_start past w
MayFollow at_start start past (Evict a) = power_of at_start past ≢ power.Off
MayFollow at_start start past (Effect w n) = IsAfterFence past × MayEffect start past w n
MayFollow at_start start past Cut = power_of at_start past ≢ power.Off
MayFollow at_start start past On = power_of at_start past ≡ power.Off
MayFollow at_start start past Ready = IsAfterRecovering past

-- each mark is one that may follow those before it
abbrev pub CallsOnce : Power → Map → List Mark → Type 0
CallsOnce at_start start past = EachMark (MayFollow at_start start) past
