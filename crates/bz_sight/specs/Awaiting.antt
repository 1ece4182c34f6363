-- A worker that has asked for a line and is to fence it awaits the words there.
use Rattle.std.specs.Prelude.{◌≡◌, ℕ, ◌<◌, true, false, List, length}
use Rattle.bz_layout.specs.Addresses.{line_of}
use Rattle.bz_word.specs.declared.entry.Entry.{Entry}
use Rattle.bz_swap.specs.SettledWords.{IsAwaited}
use Rattle.bz_swap.specs.Starts.{started, swapping}
use Rattle.bz_swap.specs.SwapMemory.{SwapMemory, Doing, Flushing, worker_of, doing_of, is_named}

-- worker w flushes the line of an address, and its next act is the fence
pub record IsToFence (m : SwapMemory) (w a : ℕ) : Type 0 where
  pub doing : doing_of m w ≡ Flushing (line_of a)
  pub fence : (worker_of m w).flush_next ≡ true

-- then it awaits the word there
abbrev pub Awaits : SwapMemory → ℕ → ℕ → Type 0
Awaits m w a = IsToFence m w a → IsAwaited m w a

-- a start of worker w, which makes no act, leaves it so, for w too; that of a swap, of a word that it does not name
pub record StartsKeepAwaits : Type 0 where
  pub start : (m : SwapMemory) (w : ℕ) (doing : Doing) (v a : ℕ) → w < length m.workers → Awaits m v a → Awaits (started m w doing) v a
  pub swap : (m : SwapMemory) (w : ℕ) (entries : List Entry) (v a : ℕ) → w < length m.workers → (is_named m a ≡ false → Awaits m v a) → is_named (swapping m w entries) a ≡ false → Awaits (swapping m w entries) v a
