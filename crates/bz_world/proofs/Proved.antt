-- What this crate proves, as lemmas that other crates cite by these names.
use Rattle.bz_sound.proofs.Proved.{none_is_open_beside_a_solitary_call, power_tells_what_follows}
use Rattle.bz_world.proofs.UndisturbedLeaves.{solitary-calls-count}
use Rattle.bz_world.specs.UndisturbedLeaves.{SolitaryCallsCountLeaves}

-- during a call beside which no other is open the leaves grow by one for each leaf of its key that had too many live words, and fall by one for each that had too few
pub solitary_calls_count_leaves : SolitaryCallsCountLeaves
solitary_calls_count_leaves = solitary-calls-count power_tells_what_follows none_is_open_beside_a_solitary_call
