-- What the swap leaves, as the tree reads it.
use Rattle.std.specs.Prelude.{◌≡◌, ◌≢◌, ℕ, true, false, All, slice_index}
use Rattle.bz_layout.specs.declared.config.Config.{Config}
use Rattle.bz_word.specs.declared.entry.Entry.{Entry}
use Rattle.bz_swap_cells.specs.Store.{IsOutside}
use Rattle.bz_swap.specs.Effects.{TakesEffect, NoneTakesEffect}
use Rattle.bz_swap.specs.Held.{Holds}
use Rattle.bz_swap.specs.SwapMemory.{SwapMemory, value_at, entries_of, is_target, is_named}
use Rattle.bz_swap.specs.declared.phase.Phase.TheVariants.{Recovering}
use Rattle.bz_content.specs.Lawful.{is_fixed, is_lawful}
use Rattle.bz_content.specs.Resolving.{resolve}

-- what the word at an address resolves to in the image that a power cut would leave of a swap memory
abbrev pub left_at : SwapMemory → ℕ → ℕ
left_at m a = resolve (slice_index m.durable) a

-- the memory is held, and no recovery goes on
pub record HoldsNow (m : SwapMemory) : Type 0 where
  pub holds : Holds m
  pub phase : m.phase ≢ Recovering

-- that image resolves to the memory's values, and its words are lawful
pub record LeavesItsValues (m : SwapMemory) : Type 0 where
  pub values : (a : ℕ) → IsOutside m.swaps a → left_at m a ≡ value_at m a
  pub lawful : (c : Config) (a : ℕ) → c.swaps ≡ m.swaps → IsOutside m.swaps a → is_fixed a ≡ false → is_lawful c (slice_index m.durable) a ≡ true

-- so it is outside a recovery time
abbrev pub HeldMemoriesLeaveTheirValues : Type 0
HeldMemoriesLeaveTheirValues = (m : SwapMemory) → HoldsNow m → LeavesItsValues m

-- the same of a swap memory before and after, with the same descriptors
pub record HoldsAtBoth (old new : SwapMemory) : Type 0 where
  pub before : HoldsNow old
  pub after : HoldsNow new
  pub swaps : new.swaps ≡ old.swaps

-- swap s on the image: its targets held the expected values and hold the new ones, and no other named word changes
pub record TakesEffectOnImage (old new : SwapMemory) (s : ℕ) : Type 0 where
  pub expected : All (λ (e : Entry). left_at old e.target ≡ e.expected) (entries_of old s)
  pub value : All (λ (e : Entry). left_at new e.target ≡ e.new) (entries_of old s)
  pub others : (a : ℕ) → IsOutside old.swaps a → is_named old a ≡ true → is_target (entries_of old s) a ≡ false → left_at new a ≡ left_at old a

-- so does a swap that takes effect, whose targets lie outside the descriptors
abbrev pub EffectsShowOnTheImage : Type 0
EffectsShowOnTheImage =
    (old new : SwapMemory) (s : ℕ) → HoldsAtBoth old new → All (λ (e : Entry). IsOutside old.swaps e.target) (entries_of old s) → TakesEffect old new s →
    TakesEffectOnImage old new s

-- where nothing takes effect, no named word changes
abbrev pub QuietMomentsChangeNothing : Type 0
QuietMomentsChangeNothing =
    (old new : SwapMemory) → HoldsAtBoth old new → NoneTakesEffect old new → (a : ℕ) → IsOutside old.swaps a → is_named old a ≡ true → left_at new a ≡ left_at old a
