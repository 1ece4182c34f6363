-- The numbers of workloads, each once: a change of the format replaces them here and in the constants.
use Rattle.std.specs.Prelude.{◌≡◌}
use Rattle.bz_gen.specs.declared.workload.TheConstants.{MOST_CALLS}

pub record NumbersOfFormats : Type 0 where
  pub most_calls : MOST_CALLS ≡ 20000
