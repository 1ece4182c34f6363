-- The texts of errors.
use Rattle.std.specs.Prelude.{ℕ, List, codes}
use Rattle.bz_layout.specs.declared.error.ConfigError.{ConfigError}
use Rattle.bz_layout.specs.declared.error.ConfigError.TheVariants.{Nodes, Swaps, Workers, Marks, Calls, Pages}

abbrev pub config_error_text : ConfigError → List ℕ
config_error_text Nodes = codes "the number of nodes is not 1 to 16384"
config_error_text Swaps = codes "the number of swaps is not 1 to 65536"
config_error_text Workers = codes "the number of workers is not 1 to 64"
config_error_text Marks = codes "the limit on marks is not 1024 to 33554432"
config_error_text Calls = codes "the limit on calls is not 1 to 65536"
config_error_text Pages = codes "the limit on pages is above 4096"
