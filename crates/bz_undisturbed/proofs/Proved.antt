-- What this crate proves, as lemmas that other crates cite by these names.
use Rattle.bz_undisturbed.proofs.Brief.{brief-look-ups-go-on, gets-are-brief, look-ups-are-brief, ways-are-brief}
use Rattle.bz_undisturbed.proofs.Changing.{inserts-go-on, updates-go-on}
use Rattle.bz_undisturbed.proofs.Consolidating.{consolidations-go-on}
use Rattle.bz_undisturbed.proofs.Deleting.{deletes-go-on}
use Rattle.bz_undisturbed.proofs.Finding.{finds-go-on}
use Rattle.bz_undisturbed.proofs.Freezing.{freezes-go-on}
use Rattle.bz_undisturbed.proofs.Leads.{paths-lead}
use Rattle.bz_undisturbed.proofs.LoweringRoot.{lowerings-go-on}
use Rattle.bz_undisturbed.proofs.Merging.{merges-go-on}
use Rattle.bz_undisturbed.proofs.MergingInner.{inner-merges-go-on}
use Rattle.bz_undisturbed.proofs.OwnSwaps.{own-counted}
use Rattle.bz_undisturbed.proofs.Quiet.{undisturbed, never-fall, quiet-times, read-values}
use Rattle.bz_undisturbed.proofs.Reading.{readings-go-on}
use Rattle.bz_undisturbed.proofs.Restarts.{undisturbed-restarts}
use Rattle.bz_undisturbed.proofs.Seeking.{seeks-go-on}
use Rattle.bz_undisturbed.proofs.Splitting.{root-splits-go-on}
use Rattle.bz_undisturbed.proofs.SplittingBelow.{splits-below-go-on}
use Rattle.bz_undisturbed.proofs.SplittingInner.{inner-splits-go-on}
use Rattle.bz_undisturbed.proofs.SplittingRoot.{inner-root-splits-go-on}
use Rattle.bz_undisturbed.proofs.Tasks.{undisturbed-tasks-go-on}
use Rattle.bz_undisturbed.proofs.Trees.{trees-stand}
use Rattle.bz_undisturbed.proofs.Ways.{paths-read-few}
use Rattle.bz_undisturbed.specs.Brief.{BriefLookUpsGoOn, GetsAreBrief, LookUpsAreBrief, WaysAreBrief}
use Rattle.bz_undisturbed.specs.Changes.{InsertsGoOn, MergesGoOn, UpdatesGoOn}
use Rattle.bz_undisturbed.specs.Counts.{OwnSwapsAreCounted}
use Rattle.bz_undisturbed.specs.Laws.{ConsolidationsGoOn, DeletesGoOn, FreezesGoOn, InnerMergesGoOn, InnerRootSplitsGoOn, InnerSplitsGoOn, LoweringsGoOn, RootSplitsGoOn, SplitsBelowGoOn}
use Rattle.bz_undisturbed.specs.Lookups.{FindsGoOn, ReadingsGoOn, SeeksGoOn}
use Rattle.bz_undisturbed.specs.Quiet.{EffectsNeverFall, UndisturbedTimesAreQuiet, QuietTimesStay, ReadValuesStand}
use Rattle.bz_undisturbed.specs.Reads.{PathsReadFew}
use Rattle.bz_undisturbed.specs.Restarts.{UndisturbedRestartsAreRefusals}
use Rattle.bz_undisturbed.specs.Tasks.{UndisturbedTasksGoOn}
use Rattle.bz_undisturbed.specs.Trees.{PathsLeadToLeaves, TreesStand}

-- no effect is ever undone
pub effects_never_fall : EffectsNeverFall
effects_never_fall = never-fall

-- between two moments with as many effects none came, and nothing changed for readers
pub quiet_times_stay : QuietTimesStay
quiet_times_stay = quiet-times

-- in a time without effects an address that readers read has one value
pub read_values_stand : ReadValuesStand
read_values_stand = read-values

-- where a worker is alone, the time since its own last swap is such a time, and all of it since its look-up began where it made none
pub undisturbed_times_are_quiet : UndisturbedTimesAreQuiet
undisturbed_times_are_quiet = undisturbed

-- in such a time the tree stands, and each key has the leaf that it had
pub trees_stand : TreesStand
trees_stand = trees-stand

-- so a path that was found while the worker was alone leads to the leaf of its key now
pub paths_lead_to_leaves : PathsLeadToLeaves
paths_lead_to_leaves = paths-lead

-- and its reads are at most those of the way to that leaf
pub paths_read_few : PathsReadFew
paths_read_few = paths-read-few

-- a freeze goes on
pub freezes_go_on : FreezesGoOn
freezes_go_on = freezes-go-on

-- a delete goes on
pub deletes_go_on : DeletesGoOn
deletes_go_on = deletes-go-on

-- so does a consolidation
pub consolidations_go_on : ConsolidationsGoOn
consolidations_go_on = consolidations-go-on

-- so does the split of a root leaf
pub root_splits_go_on : RootSplitsGoOn
root_splits_go_on = root-splits-go-on

-- so does the split of a leaf below a parent
pub splits_below_go_on : SplitsBelowGoOn
splits_below_go_on = splits-below-go-on

-- so does that of an inner node below a parent
pub inner_splits_go_on : InnerSplitsGoOn
inner_splits_go_on = inner-splits-go-on

-- so does that of an inner root
pub inner_root_splits_go_on : InnerRootSplitsGoOn
inner_root_splits_go_on = inner-root-splits-go-on

-- so does the merge of two inner nodes under the root
pub inner_merges_go_on : InnerMergesGoOn
inner_merges_go_on = inner-merges-go-on

-- so does the lowering of the root
pub lowerings_go_on : LoweringsGoOn
lowerings_go_on = lowerings-go-on

-- a descent goes on
pub seeks_go_on : SeeksGoOn
seeks_go_on = seeks-go-on

-- a look-up of a key in a leaf goes on
pub finds_go_on : FindsGoOn
finds_go_on = finds-go-on

-- so does a reading of a leaf
pub readings_go_on : ReadingsGoOn
readings_go_on = readings-go-on

-- an insert goes on
pub inserts_go_on : InsertsGoOn
inserts_go_on = inserts-go-on

-- so does an update
pub updates_go_on : UpdatesGoOn
updates_go_on = updates-go-on

-- a merge goes on
pub merges_go_on : MergesGoOn
merges_go_on = merges-go-on

-- whichever task it is, it goes on where its worker is alone
pub undisturbed_tasks_go_on : UndisturbedTasksGoOn
undisturbed_tasks_go_on = undisturbed-tasks-go-on

-- so a task that ends to begin again, while its worker is alone, was refused a swap whose expected values stand
pub undisturbed_restarts_are_refusals : UndisturbedRestartsAreRefusals
undisturbed_restarts_are_refusals = undisturbed-restarts

-- a task's own swaps are among the effects since its look-up began, so that it tells how many were others'
pub own_swaps_are_counted : OwnSwapsAreCounted
own_swaps_are_counted = own-counted

-- a look-up that is made while no other call is open meets no effect, and its worker's acts are at most twice the reads that it asks for
pub look_ups_are_brief : LookUpsAreBrief
look_ups_are_brief = look-ups-are-brief

-- they stay so where the way was found
pub ways_are_brief : WaysAreBrief
ways_are_brief = ways-are-brief

-- it is not begun again
pub brief_look_ups_go_on : BriefLookUpsGoOn
brief_look_ups_go_on = brief-look-ups-go-on

-- so a get's acts are at most twice the reads that its image allows
pub gets_are_brief : GetsAreBrief
gets_are_brief = gets-are-brief
