-- Fresh memory as a world opens it.
use Rattle.std.specs.Prelude.{◌≡◌, ℕ, List, None, slice_index}
use Rattle.bz_layout.specs.Config.{IsConfig}
use Rattle.bz_layout.specs.Fresh.{fresh_words}
use Rattle.bz_layout.specs.declared.config.Config.{Config}
use Rattle.bz_content.specs.Content.{image_fault, content_in}
use Rattle.bz_swap.specs.Held.{Holds}
use Rattle.bz_swap.specs.Power.{IsOpened}
use Rattle.bz_swap.specs.SwapMemory.{SwapMemory}
use Rattle.bz_task.specs.Instant.{Instant}
use Rattle.bz_task.specs.Settled.{settled}
use Rattle.bz_sight.specs.Sight.{IsSeen}

-- a swap memory that was opened over the words of fresh memory
pub record IsFresh (c : Config) (m : SwapMemory) : Type 0 where
  pub config : IsConfig c
  pub opened : IsOpened m (fresh_words c) c.swaps c.workers
  pub holds : Holds m

-- the image of fresh memory, and what tasks see of it
abbrev pub fresh_image : Config → ℕ → ℕ
fresh_image c = slice_index (fresh_words c)

abbrev pub fresh_instant : Config → Instant
fresh_instant c = settled c (fresh_image c)

-- the memory is seen, its image is well formed, and no key has a payload
pub record IsSeenFresh (c : Config) (m : SwapMemory) : Type 0 where
  pub seen : IsSeen c m (fresh_instant c)
  pub well_formed : image_fault c (fresh_image c) ≡ None
  pub content : (key : List ℕ) → content_in c (fresh_image c) key ≡ None

abbrev pub FreshMemoryIsSeen : Type 0
FreshMemoryIsSeen = (c : Config) (m : SwapMemory) → IsFresh c m → IsSeenFresh c m
