-- The worked run of a sleeping helper, by computation.
use Rattle.std.proofs.Common.{refl}
use Rattle.bz_swap_machine.specs.Sleeper.{SleeperIsHarmless}

pub sleeper_is_harmless : SleeperIsHarmless
sleeper_is_harmless = record { sleeps = refl; returned = refl; effects = refl; ended = refl; held = refl }
