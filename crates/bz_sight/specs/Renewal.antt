-- A memory that is renewed when its recovery has ended, as tasks see it.
use Rattle.std.specs.Prelude.{◌≡◌, ℕ, None, [], length, get_or, slice_index}
use Rattle.bz_layout.specs.Addresses.{words_of as size_of}
use Rattle.bz_layout.specs.Config.{IsConfig}
use Rattle.bz_layout.specs.declared.config.Config.{Config}
use Rattle.bz_content.specs.Content.{image_fault}
use Rattle.bz_swap.specs.Held.{Holds}
use Rattle.bz_swap.specs.PlainFields.{HavePlainFields}
use Rattle.bz_swap.specs.Power.{MayRenew, renewed}
use Rattle.bz_swap.specs.SwapMemory.{SwapMemory}
use Rattle.bz_task.specs.Instant.{Instant}
use Rattle.bz_task.specs.Settled.{settled}
use Rattle.bz_sight.specs.Sight.{IsSeen, next_instant}

-- a memory of these sizes that may be renewed, where nobody waits for a fence, and whose image breaks no rule
pub record IsRenewable (c : Config) (m : SwapMemory) : Type 0 where
  pub config : IsConfig c
  pub swaps : m.swaps ≡ c.swaps
  pub size : length m.durable ≡ size_of c
  pub may_renew : MayRenew m
  pub asks : (w : ℕ) → get_or m.past.asks w [] ≡ []
  pub fields : HavePlainFields m
  pub form : image_fault c (slice_index m.durable) ≡ None
  -- as the swap memory says of a renewal
  pub holds : Holds (renewed m)

-- what tasks see then: a settled memory. Of the descriptors, whose words after the statuses are as they were, nothing is read
abbrev pub renewed_instant : Config → SwapMemory → Instant
renewed_instant c m = next_instant (renewed m) (settled c (slice_index m.durable))

abbrev pub RenewedMemoriesAreSeen : Type 0
RenewedMemoriesAreSeen = (c : Config) (m : SwapMemory) → IsRenewable c m → IsSeen c (renewed m) (renewed_instant c m)
