-- Which mark may follow which marks, so that each call stands once. The newest mark stands first.
use Rattle.std.specs.Prelude.{◌≡◌, ◌≤◌, ℕ, List, Some}
use Rattle.bz_call.specs.Map.{Map}
use Rattle.bz_mark.specs.declared.marks.Mark.{Mark}
use Rattle.bz_mark.specs.declared.marks.Mark.TheVariants.{Begin, End, Load, Store, Cas, Ask, Fence, Evict, Cut, On, Ready, Effect}
use Rattle.bz_sound.specs.Calls.{Open, open_call, MayBegin, MayEnd, MayEffect}
use Rattle.bz_sound.specs.Memory.Moments.{IsAfterFence, EachMark}

-- the worker has a call that is open
pub record HasOpenCall (past : List Mark) (w : ℕ) : Type 0 where
  pub opened : Open
  pub is_open : open_call w past ≡ Some opened

-- Worker 0 makes no calls. A worker acts while it has an open call. An effect stands directly after a
-- fence or an eviction, of any worker, and names an open call that has none yet and changes the map; the map was this one at
-- the start. The power neither fails nor comes on.
abbrev pub MayFollow : Map → List Mark → Mark → Type 0
MayFollow start past (Begin w n call) = (1 ≤ w) × MayBegin past w n
MayFollow start past (End w n reply at) = MayEnd past w n
MayFollow start past (Load w a v) = HasOpenCall past w
MayFollow start past (Store w a v) = HasOpenCall past w
MayFollow start past (Cas w a old new found) = HasOpenCall past w
MayFollow start past (Ask w line) = HasOpenCall past w
MayFollow start past (Fence w) = HasOpenCall past w
MayFollow start past (Evict a) = Unit {0}
MayFollow start past (Effect w n) = IsAfterFence past × MayEffect start past w n
MayFollow start past Cut = ⊥
MayFollow start past On = ⊥
MayFollow start past Ready = ⊥

-- each mark is one that may follow those before it
abbrev pub CallsOnce : Map → List Mark → Type 0
CallsOnce start past = EachMark (MayFollow start) past
