-- What the parts of a queue's script are: its sizes are in range, its calls and turns are of workers from 1 to 64, its items are below 2^60, its cuts wait for a
-- fence from 1 on, and each line may stand where it does.
use Rattle.std.specs.Prelude.{◌≡◌, ◌≤◌, ◌<◌, ◌^◌, ℕ, true, List, [], ◌∷◌, Ok}
use Rattle.bz_layout.specs.declared.limits.TheConstants.{MAX_CAPACITY, MAX_SWAPS}
use Rattle.bz_ring.specs.declared.calls.QCall.{QCall}
use Rattle.bz_ring.specs.declared.calls.QCall.TheVariants.{Put, Take}
use Rattle.bz_script.specs.ItemLaws.{IsCut}
use Rattle.bz_script.specs.Order.{at_first, may_come, after_kind}
use Rattle.bz_script.specs.RunLaws.{AreTurns}
use Rattle.bz_script.specs.declared.order.Standing.{Standing}
use Rattle.bz_qscript.specs.Script.{QJob, kind_of, script_of}
use Rattle.bz_qscript.specs.declared.item.QItem.{QItem}
use Rattle.bz_qscript.specs.declared.item.QItem.TheVariants.{Queue, Arm, Run, Power}
use Rattle.bz_qscript.specs.declared.item.QPlan.{QPlan}
use Rattle.bz_qscript.specs.declared.item.QPlan.TheVariants.{Alone, List as Listed}

-- the item of a put is below 2^60
abbrev pub IsCall : QCall → Type 0
IsCall (Put item) = item < 2 ^ 60
IsCall Take = Unit {0}

abbrev pub IsPlan : QPlan → Type 0
IsPlan Alone = Unit {0}
IsPlan (Listed turns) = AreTurns turns

abbrev pub IsItem : QItem → Type 0
IsItem (Queue w call) = (1 ≤ w) × (w ≤ 64) × IsCall call
IsItem (Arm cut) = IsCut cut
IsItem (Run plan) = IsPlan plan
IsItem Power = Unit {0}

abbrev pub AreItems : List QItem → Type 0
AreItems [] = Unit {0}
AreItems (item ∷ items) = IsItem item × AreItems items

-- each item may stand where it does
abbrev pub AreInOrder : Standing → List QItem → Type 0
AreInOrder standing [] = Unit {0}
AreInOrder standing (item ∷ items) = (may_come standing (kind_of item) ≡ true) × AreInOrder (after_kind standing (kind_of item)) items

pub record IsJob (job : QJob) : Type 0 where
  pub some_cells : 1 ≤ job.capacity
  pub few_cells : job.capacity ≤ MAX_CAPACITY
  pub some_swaps : 1 ≤ job.swaps
  pub few_swaps : job.swaps ≤ MAX_SWAPS
  pub items : AreItems job.items
  pub ordered : AreInOrder at_first job.items

-- of any bytes
abbrev pub ScriptsAreJobs : Type 0
ScriptsAreJobs = (bytes : List ℕ) (job : QJob) → script_of bytes ≡ Ok job → IsJob job
