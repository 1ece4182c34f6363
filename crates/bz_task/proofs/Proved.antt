-- What this crate proves, as lemmas that other crates cite by these names.
use Rattle.bz_task.proofs.Ages.{nodes-stay}
use Rattle.bz_task.proofs.Frozen.{fronts-stay, frozen-nodes-stay}
use Rattle.bz_task.proofs.Inside.{nodes-were-inside}
use Rattle.bz_task.proofs.LeafSwaps.{leaf-swaps}
use Rattle.bz_task.proofs.Others.{effects-lawful, quiet-lawful, sharers-apart, stores-lawful}
use Rattle.bz_task.proofs.PairChanges.{pair-changes}
use Rattle.bz_task.proofs.PairSwaps.{pair-swaps}
use Rattle.bz_task.proofs.Ranges.{headers, ranges-stay}
use Rattle.bz_task.proofs.Resting.{resting}
use Rattle.bz_task.proofs.Roots.{roots-reached}
use Rattle.bz_task.proofs.Sames.{same-shown}
use Rattle.bz_task.proofs.SeenLeaves.{seen-whole}
use Rattle.bz_task.proofs.Separators.{separators-stay}
use Rattle.bz_task.proofs.Settled.{settled-good}
use Rattle.bz_task.proofs.Showing.{good-shows-settled}
use Rattle.bz_task.proofs.Stays.{key-views-stay, nothing-gained, paths-stay, views-stay}
use Rattle.bz_task.proofs.Swapping.{slot-words}
use Rattle.bz_task.proofs.Targeting.{not-mine, of-memory, targets-stay}
use Rattle.bz_task.proofs.Thawed.{child-inside, in-tree, thawed-stay}
use Rattle.bz_task.specs.Laws.{ChildrenAreInTrees, FrontsStay, FrozenNodesStay, HeadersSayTheLevel, KeyViewsStay, LeavesAreInTrees, NodesStay, NodesWereInside, NothingIsGained, PathsStay, RangesStay, RootsAreReached, SameRecordsShowTheSame, SeenLeavesAreWhole, SeparatorsStay, SwapsShowInSlots, ThawedLeavesStay, ViewsStay}
use Rattle.bz_task.specs.LeafSwaps.{LeafSwapsAreGood}
use Rattle.bz_task.specs.Others.{EffectsAreLawful, QuietActsAreLawful, SharersOfNothingAreApart, StoresAreLawful}
use Rattle.bz_task.specs.PairSwaps.{PairSwapsAreLawful, PairSwapsMakeChanges}
use Rattle.bz_task.specs.Resting.{RestingMemoriesAreGood}
use Rattle.bz_task.specs.Settled.{SettledMemoriesAreGood}
use Rattle.bz_task.specs.Swaps.{GoodSwapsShowSettled}
use Rattle.bz_task.specs.Targets.{OwnWordsAreNoTargets, TargetsAreOfTheMemory, TargetsStay}

-- while its status has the value that was read, a reached node is as it was
pub nodes_stay : NodesStay
nodes_stay = nodes-stay

-- a frozen node stays as it was
pub frozen_nodes_stay : FrozenNodesStay
frozen_nodes_stay = frozen-nodes-stay

-- separators and the places of child pointers of an inner node stay
pub separators_stay : SeparatorsStay
separators_stay = separators-stay

-- header and fences of a reached node stay
pub fronts_stay : FrontsStay
fronts_stay = fronts-stay

-- the level and the range of a node are the same whenever it is in the tree
pub ranges_stay : RangesStay
ranges_stay = ranges-stay

-- what a node of the tree is later, it was at some moment at which it was still in the tree
pub nodes_were_inside : NodesWereInside
nodes_were_inside = nodes-were-inside

-- a swap on one leaf that leaves it whole is lawful for everybody
pub leaf_swaps_are_good : LeafSwapsAreGood
leaf_swaps_are_good = leaf-swaps

-- a swap on two leaves that leaves both whole is lawful for everybody, and changes what is said of their keys alone
pub pair_swaps_are_lawful : PairSwapsAreLawful
pair_swaps_are_lawful = pair-swaps

-- where each leaf says its changes, the swap makes both leaves' changes at once
pub pair_swaps_make_changes : PairSwapsMakeChanges
pair_swaps_make_changes = pair-changes

-- the root is in the tree, and holds every key
pub roots_are_reached : RootsAreReached
roots_are_reached = roots-reached

-- a node of the tree has a lawful header, with the level at which it stands
pub headers_say_the_level : HeadersSayTheLevel
headers_say_the_level = headers

-- where the records are the same, so are the places that readers read
pub same_records_show_the_same : SameRecordsShowTheSame
same_records_show_the_same = same-shown

-- a word of a slot before and after a swap
pub swaps_show_in_slots : SwapsShowInSlots
swaps_show_in_slots = slot-words

-- words that are those of a leaf to its readers are a leaf by themselves, and say what it says
pub seen_leaves_are_whole : SeenLeavesAreWhole
seen_leaves_are_whole = seen-whole

-- what stands where, of a leaf of the tree
pub leaves_are_in_trees : LeavesAreInTrees
leaves_are_in_trees = in-tree

-- the child of a node of the tree is in the tree
pub children_are_in_trees : ChildrenAreInTrees
children_are_in_trees = child-inside

-- a leaf that was not frozen is in the tree and as it was, while its status has the value that was read
pub thawed_leaves_stay : ThawedLeavesStay
thawed_leaves_stay = thawed-stay

-- a path stays what it is
pub paths_stay : PathsStay
paths_stay = paths-stay

-- a view stays what it is
pub views_stay : ViewsStay
views_stay = views-stay

-- what was found of a key stays what it is
pub key_views_stay : KeyViewsStay
key_views_stay = key-views-stay

-- where no slot is taken, all that were taken have been stored into
pub nothing_is_gained : NothingIsGained
nothing_is_gained = nothing-gained

-- workers who share nothing own no word both
pub sharers_of_nothing_are_apart : SharersOfNothingAreApart
sharers_of_nothing_are_apart = sharers-apart

-- a read, an ask, a fence, an eviction and an act of a swap without effect are lawful for everybody
pub quiet_acts_are_lawful : QuietActsAreLawful
quiet_acts_are_lawful = quiet-lawful

-- a private store is lawful for every other worker
pub stores_are_lawful : StoresAreLawful
stores_are_lawful = stores-lawful

-- the effect of a task's swap is lawful for every other worker
pub effects_are_lawful : EffectsAreLawful
effects_are_lawful = effects-lawful

-- what readers read after a good swap they read before, or it was settled
pub good_swaps_show_settled : GoodSwapsShowSettled
good_swaps_show_settled = good-shows-settled

-- a memory in which nothing goes on is good
pub settled_memories_are_good : SettledMemoriesAreGood
settled_memories_are_good = settled-good

-- a memory in which nothing changes for readers stays good, and holds the same
pub resting_memories_are_good : RestingMemoriesAreGood
resting_memories_are_good = resting

-- what a swap may name is a matter of the memory alone
pub targets_are_of_the_memory : TargetsAreOfTheMemory
targets_are_of_the_memory = of-memory

-- an address that a swap may name stays one
pub targets_stay : TargetsStay
targets_stay = targets-stay

-- a word of one's own is none that a swap may name
pub own_words_are_no_targets : OwnWordsAreNoTargets
own_words_are_no_targets = not-mine
