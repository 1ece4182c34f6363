-- What is known of the words in each part of a recovery. The values are those to which the durable words outside the
-- descriptors resolved at power on; whatever happens, they resolve to these.
use Rattle.std.specs.Prelude.{◌≡◌, ◌⊎◌, ℕ, ◌^◌, ◌<◌, ◌≤◌, true}
use Rattle.bz_sweep.specs.Lawful.{is_lawful}
use Rattle.bz_content.specs.Resolving.{resolve}
use Rattle.bz_layout.specs.Addresses.{swap_address}
use Rattle.bz_sweep.specs.Areas.{size_of, IsBeside}
use Rattle.bz_sweep.specs.declared.area.Area.{Area}
use Rattle.bz_sweep.specs.Memory.{Memory}

-- an address of the memory outside the descriptors, and one of a descriptor
pub record IsShared (r : Area) (a : ℕ) : Type 0 where
  pub within : a < size_of r
  pub outside : IsBeside r a

pub record IsOfSwap (r : Area) (a : ℕ) : Type 0 where
  pub within : a < size_of r
  pub inside : ¬ IsBeside r a

-- an image of lawful words that resolve to these values
pub record IsImage (r : Area) (values image : ℕ → ℕ) : Type 0 where
  pub lawful : (a : ℕ) → a < size_of r → is_lawful r image a ≡ true
  pub resolved : (a : ℕ) → IsShared r a → resolve image a ≡ values a

-- what stands after a power cut: the caches hold what is durable
pub record IsPoweredOn (r : Area) (values : ℕ → ℕ) (m : Memory) : Type 0 where
  pub image : IsImage r values m.durable
  pub same : (a : ℕ) → a < size_of r → m.cached a ≡ m.durable a

-- the words below a place are resolved, and below another one durable too; the rest is as the power cut left it
pub record IsSwept (r : Area) (values : ℕ → ℕ) (m : Memory) (unflushed place : ℕ) : Type 0 where
  pub image : IsImage r values m.durable
  pub swaps : (a : ℕ) → IsOfSwap r a → m.cached a ≡ m.durable a
  pub behind : (a : ℕ) → IsShared r a → a < place → m.cached a ≡ values a
  pub flushed : (a : ℕ) → IsShared r a → a < unflushed → m.durable a ≡ values a
  pub ahead : (a : ℕ) → IsShared r a → place ≤ a → m.cached a ≡ m.durable a

-- all words are resolved and durable; the descriptors below a number are free, and below another one durably; the others
-- are as the power cut left them
pub record IsFreeing (r : Area) (values : ℕ → ℕ) (m : Memory) (unflushed number : ℕ) : Type 0 where
  pub image : IsImage r values m.durable
  pub cached : (a : ℕ) → IsShared r a → m.cached a ≡ values a
  pub durable : (a : ℕ) → IsShared r a → m.durable a ≡ values a
  pub swaps : (a : ℕ) → IsOfSwap r a → (m.cached a ≡ m.durable a) ⊎ (m.cached a ≡ 0)
  pub behind : (s : ℕ) → s < number → m.cached (swap_address s) ≡ 0
  pub flushed : (s : ℕ) → s < unflushed → m.durable (swap_address s) ≡ 0
  pub ahead : (s : ℕ) → s < r.swaps → number ≤ s → m.cached (swap_address s) ≡ m.durable (swap_address s)

-- the end: every word outside the descriptors is its value, plain, and every descriptor free, in the caches and in the
-- memory itself
pub record IsRecovered (r : Area) (values : ℕ → ℕ) (m : Memory) : Type 0 where
  pub plain : (a : ℕ) → IsShared r a → values a < 2 ^ 61
  pub cached : (a : ℕ) → IsShared r a → m.cached a ≡ values a
  pub durable : (a : ℕ) → IsShared r a → m.durable a ≡ values a
  pub cached_free : (s : ℕ) → s < r.swaps → m.cached (swap_address s) ≡ 0
  pub durable_free : (s : ℕ) → s < r.swaps → m.durable (swap_address s) ≡ 0
