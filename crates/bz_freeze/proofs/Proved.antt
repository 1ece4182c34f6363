-- What this crate proves, as lemmas that other crates cite by these names.
use Rattle.bz_freeze.proofs.Freezing.{freezes}
use Rattle.bz_freeze.specs.Laws.{FreezesAreGood}

-- where the status is the one that was read, the swap is lawful for everybody and changes no content
pub freezes_are_good : FreezesAreGood
freezes_are_good = freezes
