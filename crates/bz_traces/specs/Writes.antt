-- What a sink has taken of lines where not all were written.
use Rattle.std.specs.Prelude.{◌≡◌, ◌<◌, ◌≤◌, ℕ, List, Option, take, length, Result, OnOk, IsErrOf, ⊤}
use Rattle.std.specs.Io.KnownBytes.{Appends}
use Rattle.bz_io.specs.Faults.{Rose}
use Rattle.bz_io.specs.Transfers.{GrewByFront}
use Rattle.bz_lines.specs.Lines.{text_of, with_end}
use Rattle.bz_traces.specs.declared.error.JsonError.{JsonError}
use Rattle.bz_traces.specs.declared.error.JsonError.TheVariants.{Write, Memory}

-- the sink grew by whole lines, the first ones, and not by all
pub record GrewByLines (old new : Option (List ℕ)) (lines : List (List ℕ)) : Type 0 where
  pub count : ℕ
  pub some_left : count < length lines
  pub grew : Appends old new (text_of (take count lines))

-- what a write of one line makes of a sink: all of it; or a part, where the sink failed; or nothing, for want of memory
pub record WritesLine {K : Type 0} (held : K → Option (List ℕ)) (faults : K → ℕ) (old new : K) (line : List ℕ) (result : Result ⊤ JsonError) : Type 0 where
  pub all : OnOk result (Appends (held old) (held new) (with_end line))
  pub front : IsErrOf result Write → GrewByFront (held old) (held new) (with_end line)
  pub rose : IsErrOf result Write → Rose (faults old) (faults new)
  pub memory : IsErrOf result Memory → new ≡ old
  pub later : faults old ≤ faults new
