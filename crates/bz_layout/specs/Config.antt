-- Which configurations are taken, and which number is named where one is not.
use Rattle.std.specs.Prelude.{ℕ, ◌≤◌}
use Rattle.bz_layout.specs.declared.config.Config.{Config}
use Rattle.bz_layout.specs.declared.error.ConfigError.{ConfigError}
use Rattle.bz_layout.specs.declared.error.ConfigError.TheVariants.{Nodes, Swaps, Workers, Marks, Calls, Pages}

-- the number is at least the one bound and at most the other
pub record IsWithin (number low high : ℕ) : Type 0 where
  pub at_least : low ≤ number
  pub at_most : number ≤ high

-- the number that the error names is in its range
abbrev pub IsInRange : Config → ConfigError → Type 0
IsInRange c Nodes = IsWithin c.nodes 1 16384
IsInRange c Swaps = IsWithin c.swaps 1 65536
IsInRange c Workers = IsWithin c.workers 1 64
IsInRange c Marks = IsWithin c.marks 1024 33554432
IsInRange c Calls = IsWithin c.calls 1 65536
IsInRange c Pages = IsWithin c.pages 0 4096

-- each number of the configuration is in its range
pub record IsConfig (c : Config) : Type 0 where
  pub nodes_in_range : IsInRange c Nodes
  pub swaps_in_range : IsInRange c Swaps
  pub workers_in_range : IsInRange c Workers
  pub marks_in_range : IsInRange c Marks
  pub calls_in_range : IsInRange c Calls
  pub pages_in_range : IsInRange c Pages

-- the numbers that stand before the one that the error names are in their ranges
abbrev pub AreEarlierInRange : Config → ConfigError → Type 0
AreEarlierInRange c Nodes = Unit {0}
AreEarlierInRange c Swaps = IsInRange c Nodes
AreEarlierInRange c Workers = IsInRange c Nodes × IsInRange c Swaps
AreEarlierInRange c Marks = IsInRange c Nodes × IsInRange c Swaps × IsInRange c Workers
AreEarlierInRange c Calls = IsInRange c Nodes × IsInRange c Swaps × IsInRange c Workers × IsInRange c Marks
AreEarlierInRange c Pages =
    IsInRange c Nodes × IsInRange c Swaps × IsInRange c Workers × IsInRange c Marks × IsInRange c Calls

-- the error names the first number that is out of its range
pub record IsFirstOutOfRange (c : Config) (e : ConfigError) : Type 0 where
  pub earlier : AreEarlierInRange c e
  pub this : ¬ IsInRange c e
