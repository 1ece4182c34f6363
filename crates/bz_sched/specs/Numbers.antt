-- The numbers of runs, each once: a change of the format replaces them here and in the constants.
use Rattle.std.specs.Prelude.{◌≡◌}
use Rattle.bz_script.specs.declared.draw.TheConstants.{EVICTED_FROM}

pub record NumbersOfFormats : Type 0 where
  pub evicted_from : EVICTED_FROM ≡ 2147483648
