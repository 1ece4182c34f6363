-- What the journal tells of the numbers of a memory: of the leaves of its tree, of its descriptors and slots, and of the acts of its recoveries.
use Rattle.bz_layout.specs.declared.config.Config.{Config}
use Rattle.bz_mark.specs.Log.{Log}
use Rattle.bz_mark.specs.declared.power.Power.{Power}
use Rattle.bz_world.specs.Leaves.{AreLeavesKept}
use Rattle.bz_world.specs.Merges.{AreMergesMade}
use Rattle.bz_world.specs.Recoveries.{AreRecoveriesBrief}
use Rattle.bz_world.specs.Taken.{AreEndsTold}

-- leaves come only by splits and go only by merges; what each call took beside which no other was open is what its reply tells; and a leaf that such a delete leaves too
-- small to stand alone is merged, where a neighbour has room, and slots and descriptors are left. Each recovery is brief
pub record AreNumbersKept (c : Config) (at_start : Power) (log : Log) : Type 0 where
  pub leaves : AreLeavesKept c at_start log
  pub taken : AreEndsTold c log.start log.past
  pub merged : AreMergesMade c log.start log.past
  pub brief : AreRecoveriesBrief c at_start log.past
