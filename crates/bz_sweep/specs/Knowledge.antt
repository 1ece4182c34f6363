-- What every sweep knows of the memory, whatever its phase: for those who keep a sweep and make its acts.
use Rattle.std.specs.Prelude.{◌≡◌, ◌⊎◌, ℕ, ◌^◌, ◌<◌, Bool, Some}
use Rattle.bz_sweep.specs.Areas.{size_of}
use Rattle.bz_sweep.specs.Duties.{Stage, Asked, Made, area_in, asks_of, acts_left, HasEnded, Knows, IsReady}
use Rattle.bz_sweep.specs.Laws.{IsAskable}
use Rattle.bz_sweep.specs.Memory.{Memory, StoresWord, Copies, Flushes}
use Rattle.bz_sweep.specs.Words.{IsShared, IsOfSwap, IsImage, IsRecovered}
use Rattle.bz_sweep.specs.declared.area.Area.{Area}
use Rattle.bz_sweep.specs.declared.ask.Ask.{Ask}
use Rattle.bz_sweep.specs.declared.ask.Ask.TheVariants.{Load, Store, Flush}
use Rattle.bz_sweep.specs.declared.sweep.Sweep.{Sweep}

-- a cached word outside the descriptors is the durable one or the value, and one of a descriptor is the durable one or 0
pub record IsNear (r : Area) (values : ℕ → ℕ) (m : Memory) : Type 0 where
  pub shared : (a : ℕ) → IsShared r a → (m.cached a ≡ m.durable a) ⊎ (m.cached a ≡ values a)
  pub swaps : (a : ℕ) → IsOfSwap r a → (m.cached a ≡ m.durable a) ⊎ (m.cached a ≡ 0)

-- both images are lawful and resolve to the same values, and each word outside the descriptors stands as it stood or is its
-- value
pub record ResolvesSome (r : Area) (values x y : ℕ → ℕ) : Type 0 where
  pub before : IsImage r values x
  pub after : IsImage r values y
  pub words : (a : ℕ) → IsShared r a → (y a ≡ x a) ⊎ (y a ≡ values a)

pub record SweepsKnow : Type 0 where
  -- no fence and no eviction of anybody changes what is known, nor what the words resolve to
  pub stable : (t : Sweep) (values : ℕ → ℕ) (stage : Stage) (old new : Memory) (copied : ℕ → Bool) → IsReady t → Knows t values stage old → Copies old new copied → Knows t values stage new
  pub resolves : (t : Sweep) (values : ℕ → ℕ) (stage : Stage) (old new : Memory) (copied : ℕ → Bool) → IsReady t → Knows t values stage old → Copies old new copied → ResolvesSome (area_in t) values old.durable new.durable
  -- its own acts
  pub loaded : (t : Sweep) (values : ℕ → ℕ) (m : Memory) (a : ℕ) → IsReady t → asks_of t ≡ Some (Load a) → Knows t values Asked m → Knows t values Made m
  pub stored : (t : Sweep) (values : ℕ → ℕ) (old new : Memory) (a x : ℕ) → IsReady t → asks_of t ≡ Some (Store a x) → Knows t values Asked old → StoresWord old new a x → Knows t values Made new
  pub flushed : (t : Sweep) (values : ℕ → ℕ) (old new : Memory) (line : ℕ) → IsReady t → asks_of t ≡ Some (Flush line) → Knows t values Asked old → Flushes old new line → Knows t values Made new
  -- what it knows says of every moment
  pub image : (t : Sweep) (values : ℕ → ℕ) (stage : Stage) (m : Memory) → IsReady t → Knows t values stage m → IsImage (area_in t) values m.durable
  pub near : (t : Sweep) (values : ℕ → ℕ) (stage : Stage) (m : Memory) → IsReady t → Knows t values stage m → IsNear (area_in t) values m
  pub words : (t : Sweep) (values : ℕ → ℕ) (stage : Stage) (m : Memory) (a : ℕ) → IsReady t → Knows t values stage m → a < size_of (area_in t) → m.cached a < 2 ^ 64
  -- what it asks for may be asked for; where that is nothing more, this stands, and the end need not be told
  pub askable : (t : Sweep) (values : ℕ → ℕ) (m : Memory) (ask : Ask) → IsReady t → Knows t values Asked m → asks_of t ≡ Some ask → IsAskable (area_in t) ask
  pub ends : (t : Sweep) (values : ℕ → ℕ) (stage : Stage) (m : Memory) → IsReady t → Knows t values stage m → HasEnded t → IsRecovered (area_in t) values m
  pub ended : (t : Sweep) (values : ℕ → ℕ) (stage other : Stage) (m : Memory) → HasEnded t → Knows t values stage m → Knows t values other m

-- how many acts are left changes by what a sweep is told alone
pub record ActsLeftStay : Type 0 where
  pub copied : (t : Sweep) (values : ℕ → ℕ) (stage : Stage) (old new : Memory) (copied : ℕ → Bool) → Knows t values stage old → Copies old new copied → acts_left t new ≡ acts_left t old
  pub stored : (t : Sweep) (old new : Memory) (a x : ℕ) → StoresWord old new a x → acts_left t new ≡ acts_left t old
