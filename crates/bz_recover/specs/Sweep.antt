-- What is known of the words in a recovery, told of the memory's configuration. The values are those to which the durable words
-- outside the descriptors resolved at power on; whatever happens, they resolve to these.
use Rattle.std.specs.Prelude.{◌≡◌, ℕ, ◌<◌, true}
use Rattle.bz_content.specs.Lawful.{is_lawful}
use Rattle.bz_content.specs.Resolving.{resolve}
use Rattle.bz_layout.specs.Addresses.{words_of}
use Rattle.bz_layout.specs.declared.config.Config.{Config}
use Rattle.bz_sweep.specs.Areas.{area_of}
use Rattle.bz_sweep.specs.Memory.{Memory}
use Rattle.bz_sweep.specs.Words.{IsShared as IsSharedIn, IsOfSwap as IsOfSwapIn, IsRecovered as IsRecoveredIn}

-- an address of the memory outside the descriptors, and one of a descriptor
abbrev pub IsShared : Config → ℕ → Type 0
IsShared c = IsSharedIn (area_of c)

abbrev pub IsOfSwap : Config → ℕ → Type 0
IsOfSwap c = IsOfSwapIn (area_of c)

-- an image of lawful words that resolve to these values
pub record IsImage (c : Config) (values image : ℕ → ℕ) : Type 0 where
  pub lawful : (a : ℕ) → a < words_of c → is_lawful c image a ≡ true
  pub resolved : (a : ℕ) → IsShared c a → resolve image a ≡ values a

-- what stands after a power cut: the caches hold what is durable
pub record IsPoweredOn (c : Config) (values : ℕ → ℕ) (m : Memory) : Type 0 where
  pub image : IsImage c values m.durable
  pub same : (a : ℕ) → a < words_of c → m.cached a ≡ m.durable a

-- the end: every word outside the descriptors is its value, plain, and every descriptor free, in the caches and in the
-- memory itself
abbrev pub IsRecovered : Config → (ℕ → ℕ) → Memory → Type 0
IsRecovered c = IsRecoveredIn (area_of c)
