-- Where in the memory a swap takes effect: in its descriptor alone.
use Rattle.std.specs.Prelude.{◌≡◌, ◌≢◌, ℕ, ◌<◌, slice_index, Some}
use Rattle.bz_layout.specs.Addresses.{swap_address}
use Rattle.bz_swap_cells.specs.FromPm.Words.{IsMemory}
use Rattle.bz_swap_acts.specs.declared.acted.Act.{Act}
use Rattle.bz_swap_acts.specs.declared.acted.Act.TheVariants.{Fence}
use Rattle.bz_swap_cells.specs.Store.{status_word}
use Rattle.bz_swap_machine.specs.declared.done.Done.{Done}
use Rattle.bz_swap_machine.specs.declared.status.SwapStatus.TheVariants.{Free, Undecided, Decided}
use Rattle.bz_swap_machine.specs.declared.status.Verdict.TheVariants.{Succeeded, Failed}
use Rattle.bz_swap.specs.Effects.{KeepsDurableOutside}
use Rattle.bz_swap.specs.Evictions.{IsEviction}
use Rattle.bz_swap.specs.Steps.{IsStep}
use Rattle.bz_swap.specs.SwapMemory.{SwapMemory, memory_words}

-- the act that gives swap s its effect is a fence, after the ask for the line of its status, which lies in its descriptor; the
-- status is not free then, in the caches
pub record EffectsByFlush (old new : SwapMemory) (made : Act) (s : ℕ) : Type 0 where
  pub number : s < old.swaps
  pub act : made ≡ Fence
  pub outside : KeepsDurableOutside old new
  pub taken : slice_index new.cached (swap_address s) ≢ 0

-- the eviction that does is that of its status
pub record EffectsByEviction (old new : SwapMemory) (a s : ℕ) : Type 0 where
  pub number : s < old.swaps
  pub address : a ≡ swap_address s
  pub outside : KeepsDurableOutside old new
  pub taken : slice_index new.cached (swap_address s) ≢ 0

pub record EffectsStayInside : Type 0 where
  pub step : (old new : SwapMemory) (w : ℕ) (made : Act) (done : Done) (s : ℕ) → IsMemory (memory_words old) → IsStep old w made done (Some s) new → EffectsByFlush old new made s
  pub eviction : (old new : SwapMemory) (a s : ℕ) → IsEviction old a (Some s) new → EffectsByEviction old new a s

-- the words of the statuses
pub record StatusWords : Type 0 where
  pub free : status_word Free ≡ 0
  pub undecided : status_word Undecided ≡ 1
  pub succeeded : status_word (Decided Succeeded) ≡ 2
  pub failed : status_word (Decided Failed) ≡ 3
