-- What this crate proves, as lemmas that other crates cite by these names.
use Rattle.bz_inner.proofs.InnerMerging.{inner-merges}
use Rattle.bz_inner.proofs.Lowering.{lowerings}
use Rattle.bz_inner.proofs.RootTurns.{roots-turn}
use Rattle.bz_inner.specs.InnerMerges.{InnerMergesAreGood}
use Rattle.bz_inner.specs.Lowerings.{LoweringsAreGood}
use Rattle.bz_inner.specs.Relinks.{RootsTurnWith}

-- the swap by which a root with one child gives way to it, and is frozen, is lawful for everybody and changes no content
pub lowerings_are_good : LoweringsAreGood
lowerings_are_good = lowerings

-- a swap that turns the root pointer without its guard, and freezes nodes, turns that alone; these are frozen afterwards
pub roots_turn_with : RootsTurnWith
roots_turn_with = roots-turn

-- the swap by which a new root takes its place, with one inner node in the place of two, and the two and the old root are frozen, is lawful for
-- everybody and changes no content
pub inner_merges_are_good : InnerMergesAreGood
inner_merges_are_good = inner-merges
