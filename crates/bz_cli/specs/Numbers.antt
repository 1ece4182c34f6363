-- The numbers of command lines, each once: a change of the format replaces them here and in the constants.
use Rattle.std.specs.Prelude.{◌≡◌}
use Rattle.bz_cli.specs.declared.command.TheConstants.{RUN_MARKS, WORK_MARKS}

pub record NumbersOfFormats : Type 0 where
  pub run_marks : RUN_MARKS ≡ 4194304
  pub work_marks : WORK_MARKS ≡ 33554432
