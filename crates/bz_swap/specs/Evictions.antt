-- What an eviction does.
use Rattle.std.specs.Prelude.{◌≡◌, ℕ, slice_set, Option, None}
use Rattle.bz_swap_cells.specs.FromPm.Acts.{evicted}
use Rattle.bz_swap_cells.specs.FromPm.State.{IsState}
use Rattle.bz_swap.specs.declared.phase.Phase.{Phase}
use Rattle.bz_swap.specs.declared.phase.Phase.TheVariants.{Opened, Running, Recovering}
use Rattle.bz_swap.specs.SwapMemory.{SwapMemory, memory_words, memory_state}
use Rattle.bz_swap.specs.Effects.{EffectIs}

-- the effect that is told, which in a recovery time is none
abbrev pub EvictsIn : Phase → SwapMemory → Option ℕ → SwapMemory → Type 0
EvictsIn Opened old told new = EffectIs old new told
EvictsIn Running old told new = EffectIs old new told
EvictsIn Recovering old told new = told ≡ None

-- one cached word becomes durable, by the memory's own rule, and nothing else changes
pub record IsEviction (old : SwapMemory) (a : ℕ) (told : Option ℕ) (new : SwapMemory) : Type 0 where
  pub is : new ≡ record old { durable = (evicted (memory_words old) a).durable; past = record old.past { since = slice_set old.past.since a old.past.count } }
  pub state : IsState (memory_state old)
  pub effect : EvictsIn old.phase old told new
