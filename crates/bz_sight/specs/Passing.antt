-- Acts and evictions by which no swap takes effect.
use Rattle.std.specs.Prelude.{◌≡◌, ◌≢◌, ℕ, ◌⊎◌, true, false, length, slice_index}
use Rattle.bz_layout.specs.Addresses.{line_of}
use Rattle.bz_layout.specs.declared.config.Config.{Config}
use Rattle.bz_swap_cells.specs.Store.{IsOutside}
use Rattle.bz_swap.specs.Effects.{NoneTakesEffect}
use Rattle.bz_swap.specs.Held.{Holds}
use Rattle.bz_swap.specs.PlainFields.{HavePlainFields}
use Rattle.bz_swap.specs.SwapMemory.{SwapMemory, is_named, is_settled_at}
use Rattle.bz_task.specs.Instant.{Instant, IsDurableAt}
use Rattle.bz_task.specs.Others.{LeavesAll, StoresTo}
use Rattle.bz_task.specs.Resting.{HoldsTheSame, Rests}
use Rattle.bz_task.specs.Scene.{Scene, IsMine, IsScene, here}
use Rattle.bz_sight.specs.Awaiting.{Awaits}
use Rattle.bz_sight.specs.Sight.{IsSeen, IsHidden, next_instant}

-- what no act changes
pub record SameRest (old new : SwapMemory) : Type 0 where
  pub swaps : new.swaps ≡ old.swaps
  pub phase : new.phase ≡ old.phase
  pub begun : new.begun ≡ old.begun
  pub size : length new.durable ≡ length old.durable

-- no swap takes effect, a settled word that stays in the caches stays settled, and an awaited one awaited, and of the private
-- words there at most hidden ones become others
pub record Passes (c : Config) (x : Instant) (old new : SwapMemory) : Type 0 where
  pub same : SameRest old new
  pub holds : Holds new
  pub fields : HavePlainFields new
  pub quiet : NoneTakesEffect old new
  pub settled : (a : ℕ) → slice_index new.cached a ≡ slice_index old.cached a → is_settled_at old a ≡ true → is_settled_at new a ≡ true
  pub awaits : (v a : ℕ) → slice_index new.cached a ≡ slice_index old.cached a → Awaits old v a → Awaits new v a
  pub cached : (a : ℕ) → IsOutside old.swaps a → is_named old a ≡ false → (slice_index new.cached a ≡ slice_index old.cached a) ⊎ IsHidden c x a

-- for readers nothing changed
pub record Passed (c : Config) (x : Instant) (new : SwapMemory) : Type 0 where
  pub seen : IsSeen c new (next_instant new x)
  pub rests : Rests c x (next_instant new x)
  pub same : HoldsTheSame c x (next_instant new x)

abbrev pub ActsPass : Type 0
ActsPass = (c : Config) (x : Instant) (old new : SwapMemory) → IsSeen c old x → Passes c x old new → Passed c x new

-- nobody's private store: every private word in the caches stays
abbrev pub AllStay : SwapMemory → SwapMemory → Type 0
AllStay old new = (a : ℕ) → IsOutside old.swaps a → is_named old a ≡ false → slice_index new.cached a ≡ slice_index old.cached a

-- then it leaves all that anybody owns
abbrev pub ActsLeaveAll : Type 0
ActsLeaveAll =
    (c : Config) (x : Instant) (old new : SwapMemory) (v : Scene) → IsSeen c old x → Passes c x old new → AllStay old new → IsScene v → v.past.config ≡ c → here v ≡ x →
    LeavesAll v (next_instant new x)

-- a private store at an address
pub record StoresAt (old new : SwapMemory) (a v : ℕ) : Type 0 where
  pub outside : IsOutside old.swaps a
  pub private : is_named old a ≡ false
  pub cached : slice_index new.cached a ≡ v
  pub others : (b : ℕ) → b ≢ a → slice_index new.cached b ≡ slice_index old.cached b
  pub durable : (b : ℕ) → slice_index new.durable b ≡ slice_index old.durable b
  pub past : new.past ≡ old.past

abbrev pub StoresAreSeen : Type 0
StoresAreSeen = (c : Config) (x : Instant) (old new : SwapMemory) (a v : ℕ) → IsSeen c old x → Passes c x old new → StoresAt old new a v → StoresTo a v x (next_instant new x)

-- a flush makes what one owns in a line durable
abbrev pub FlushesAreSeen : Type 0
FlushesAreSeen =
    (c : Config) (x : Instant) (old new : SwapMemory) (line : ℕ) (v : Scene) → IsSeen c old x → Passes c x old new → AllStay old new → IsScene v → v.past.config ≡ c → here v ≡ x →
    ((a : ℕ) → line_of a ≡ line → IsMine v a → is_named old a ≡ false → is_settled_at new a ≡ true) →
    (a : ℕ) → line_of a ≡ line → IsMine v a → IsDurableAt (next_instant new x) a
