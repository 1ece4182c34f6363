-- What an act or an eviction may do to the values of a swap memory: nothing, or the effect of one whole swap.
use Rattle.std.specs.Prelude.{◌≡◌, ◌≢◌, ℕ, true, false, List, slice_index, All, Option, Some, None}
use Rattle.bz_word.specs.declared.entry.Entry.{Entry}
use Rattle.bz_swap_cells.specs.Store.{IsOutside}
use Rattle.bz_swap.specs.SwapMemory.{SwapMemory, Swapping, value_at, has_effect, is_missed, entries_of, is_target, is_named, doing_of}

-- swap s takes effect, whole: it is a worker's operation and had no effect; its targets held the expected values and
-- hold the new ones; no other named address and no other swap changes
pub record TakesEffect (old new : SwapMemory) (s : ℕ) : Type 0 where
  pub worker : ℕ
  pub pending : doing_of old worker ≡ Swapping s
  pub before : has_effect old s ≡ false
  pub done : has_effect new s ≡ true
  pub other_swaps : (t : ℕ) → t ≢ s → has_effect new t ≡ has_effect old t
  pub expected : All (λ (e : Entry). value_at old e.target ≡ e.expected) (entries_of old s)
  pub value : All (λ (e : Entry). value_at new e.target ≡ e.new) (entries_of old s)
  pub others : (a : ℕ) → is_named old a ≡ true → is_target (entries_of old s) a ≡ false → value_at new a ≡ value_at old a

-- nothing takes effect, and every named address keeps its value
pub record NoneTakesEffect (old new : SwapMemory) : Type 0 where
  pub values : (a : ℕ) → is_named old a ≡ true → value_at new a ≡ value_at old a
  pub swaps : (s : ℕ) → has_effect new s ≡ has_effect old s

-- no durable word outside the descriptors changes
abbrev pub KeepsDurableOutside : SwapMemory → SwapMemory → Type 0
KeepsDurableOutside old new = (a : ℕ) → IsOutside old.swaps a → slice_index new.durable a ≡ slice_index old.durable a

-- the swap that is told takes effect; where none is told, none does
abbrev pub EffectIs : SwapMemory → SwapMemory → Option ℕ → Type 0
EffectIs old new None = NoneTakesEffect old new
EffectIs old new (Some s) = TakesEffect old new s

-- some entry's target does not hold the expected value
abbrev pub SomeDiffers : SwapMemory → List Entry → Type 0
SomeDiffers m entries = ¬ All (λ (e : Entry). value_at m e.target ≡ e.expected) entries

-- a swap is noted as missed only where it has not taken effect and one of its targets differs; a note stays
pub record NotesMisses (old new : SwapMemory) : Type 0 where
  pub lawful : (s : ℕ) → is_missed old s ≡ false → is_missed new s ≡ true → (has_effect old s ≡ false) × SomeDiffers old (entries_of old s)
  pub kept : (s : ℕ) → is_missed old s ≡ true → is_missed new s ≡ true
