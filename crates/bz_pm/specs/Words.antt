-- The words of a simulated memory, in the caches and in the memory itself.
use Rattle.std.specs.Prelude.{◌≡◌, ℕ, ◌%◌, ◌^◌, ◌<◌, List, length, slice_index}

-- the cached and the durable value of each word, by address
pub record Words : Type 0 where
  pub cached : List ℕ
  pub durable : List ℕ

-- words that a memory can hold: one durable word for each cached one, whole lines, and addresses below 2^32
pub record IsMemory (m : Words) : Type 0 where
  pub same : length m.cached ≡ length m.durable
  pub lines : length m.durable % 8 ≡ 0
  pub size : length m.durable < 2 ^ 32

-- every value of a word is below 2^64
pub record HoldsWords (m : Words) : Type 0 where
  pub cached : (a : ℕ) → slice_index m.cached a < 2 ^ 64
  pub durable : (a : ℕ) → slice_index m.durable a < 2 ^ 64
