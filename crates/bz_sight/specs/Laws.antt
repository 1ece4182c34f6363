-- What reads of hidden words answer.
use Rattle.std.specs.Prelude.{ℕ, ◌^◌, ◌<◌}
use Rattle.bz_layout.specs.declared.config.Config.{Config}
use Rattle.bz_swap.specs.SwapMemory.{SwapMemory}
use Rattle.bz_task.specs.Instant.{Instant}
use Rattle.bz_sight.specs.Sight.{IsSeen, IsHidden}

-- a hidden word is private, so that a read of it answers a value
abbrev pub HiddenWordsAreValues : Type 0
HiddenWordsAreValues = (c : Config) (x : Instant) (m : SwapMemory) (a : ℕ) → IsSeen c m x → IsHidden c x a → x.value a < 2 ^ 61
