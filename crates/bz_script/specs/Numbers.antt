-- The numbers of scripts, each once: a change of the format replaces them here and in the constants.
use Rattle.std.specs.Prelude.{◌≡◌}
use Rattle.bz_script.specs.declared.read.TheConstants.{SCRIPT_BYTES}

pub record NumbersOfFormats : Type 0 where
  pub script_bytes : SCRIPT_BYTES ≡ 1048576
