-- What each act leaves of the words of a memory.
use Rattle.std.specs.Prelude.{if◌then◌else◌, ◌==◌, ℕ, slice_index, slice_set}
use Rattle.bz_pm.specs.Words.{Words}

-- a store changes the cached word
abbrev pub stored : Words → ℕ → ℕ → Words
stored m a v = record { cached = slice_set m.cached a v; durable = m.durable }

-- a compare-and-swap changes the cached word where that is the expected one
abbrev pub compared : Words → ℕ → ℕ → ℕ → Words
compared m a old new = record {
  cached = if slice_index m.cached a == old then slice_set m.cached a new else m.cached;
  durable = m.durable;
}

-- an eviction makes one cached word durable
abbrev pub evicted : Words → ℕ → Words
evicted m a = record { cached = m.cached; durable = slice_set m.durable a (slice_index m.cached a) }

-- a power cut leaves the durable words alone
abbrev pub after_cut : Words → Words
after_cut m = record { cached = m.durable; durable = m.durable }
