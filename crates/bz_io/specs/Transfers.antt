-- What passed from a source or to a sink over several calls, where they tell it.
use Rattle.std.specs.Prelude.{◌≡◌, ◌≤◌, ◌<◌, ℕ, List, ◌++◌, length, Option}
use Rattle.std.specs.Io.KnownBytes.{Consumes, IsAtEnd, Appends}

-- the source was read to its end, and gave these bytes
pub record IsReadWhole (old new : Option (List ℕ)) (bytes : List ℕ) : Type 0 where
  pub given : Consumes old new bytes
  pub ended : IsAtEnd new

-- the source gave exactly so many bytes
pub record GaveCount (old new : Option (List ℕ)) (count : ℕ) : Type 0 where
  pub bytes : List ℕ
  pub given : Consumes old new bytes
  pub counted : length bytes ≡ count

-- the source gave some bytes, at most so many
pub record GaveAtMost (old new : Option (List ℕ)) (most : ℕ) : Type 0 where
  pub bytes : List ℕ
  pub given : Consumes old new bytes
  pub within : length bytes ≤ most

-- the sink grew by a front part of these bytes, and not by all
pub record GrewByFront (old new : Option (List ℕ)) (bytes : List ℕ) : Type 0 where
  pub front : List ℕ
  pub back : List ℕ
  pub whole : front ++ back ≡ bytes
  pub some_back : 0 < length back
  pub grew : Appends old new front
