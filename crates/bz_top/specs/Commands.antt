-- What a script's world is made with.
use Rattle.std.specs.Prelude.{ℕ}
use Rattle.bz_layout.specs.declared.config.Config.{Config}
use Rattle.bz_layout.specs.declared.limits.TheConstants.{MAX_WORKERS, MAX_CALLS, MAX_PAGES}

-- the numbers of a world: the limit on marks that the command line says, the script's sizes, and the fixed limits
abbrev pub config_of : ℕ → ℕ → ℕ → Config
config_of marks nodes swaps = record { nodes = nodes; swaps = swaps; workers = MAX_WORKERS; marks = marks; calls = MAX_CALLS; pages = MAX_PAGES }
