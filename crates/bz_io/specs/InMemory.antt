-- What contracts see of the sources and sinks in memory.
use Rattle.std.specs.Prelude.{ℕ, List}
use Rattle.bz_io.specs.Faults.{next_count}

-- the numbers, from 1, of the calls that fail; how many calls were made; how many failed
pub record Plan : Type 0 where
  pub fails : List ℕ
  pub made : ℕ
  pub faults : ℕ

-- a plan after a call that did not fail
abbrev pub after_success : Plan → Plan
after_success p = record p { made = next_count p.made }

-- a plan after a call that failed
abbrev pub after_fault : Plan → Plan
after_fault p = record p { made = next_count p.made; faults = next_count p.faults }

-- bytes taken, and the number of bytes there is room for
pub record Stored : Type 0 where
  pub held : List ℕ
  pub room : ℕ

-- a sink in memory: bytes taken, its room in bytes, and how many writes failed
pub record Sunk : Type 0 where
  pub held : List ℕ
  pub room : ℕ
  pub faults : ℕ

-- a failing source: the bytes left, the most bytes a call, and which calls fail
pub record FailingSource : Type 0 where
  pub left : List ℕ
  pub piece : ℕ
  pub plan : Plan

-- a failing sink: bytes taken, its room in bytes, the most bytes a call, and which calls fail
pub record FailingSink : Type 0 where
  pub held : List ℕ
  pub room : ℕ
  pub piece : ℕ
  pub plan : Plan
