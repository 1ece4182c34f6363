-- What contracts see of a source or sink over std's readers and writers.
use Rattle.std.specs.Prelude.{ℕ, List, Option}

-- how many calls failed, and the bytes that the reader has left or the writer holds, where that one tells them
pub record Real : Type 0 where
  pub faults : ℕ
  pub inner : Option (List ℕ)
