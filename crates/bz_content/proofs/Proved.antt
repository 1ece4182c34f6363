-- What this crate proves, as lemmas that other crates cite by these names.
use Rattle.bz_content.proofs.Fresh.{fresh-empty, fresh-reaches}
use Rattle.bz_content.proofs.Honesty.{honest}
use Rattle.bz_content.proofs.LeafSwaps.{quiet-swaps, rewrites}
use Rattle.bz_content.proofs.Levels.{two-levels}
use Rattle.bz_content.proofs.Maps.{map-is-content}
use Rattle.bz_content.proofs.Merges.{merges}
use Rattle.bz_content.proofs.Restructures.{splits}
use Rattle.bz_content.proofs.RootSplits.{root-splits}
use Rattle.bz_content.proofs.Swaps.{consolidations, leaf-swaps, unreached-words}
use Rattle.bz_content.proofs.Turns.{links-turned}
use Rattle.bz_content.proofs.Unnamed.{unnamed}
use Rattle.bz_content.proofs.Values.{resolve-value}
use Rattle.bz_content.proofs.WellFormed.{well-formed}
use Rattle.bz_content.proofs.Worked.{broken-images, worked-insert}
use Rattle.bz_content.specs.BrokenImages.{BrokenImages}
use Rattle.bz_content.specs.Laws.{ConsolidationsKeepTheContent, FreshMemoryIsEmpty, FreshMemoryReachesSlotZero, LeafSwapsKeepTheTree, LinksAreTurned, MapIsTheContent, MergesKeepTheContent, PlainWordsStandForThemselves, QuietSwapsKeepTheContent, RewritesChangeOneKey, RootSplitsKeepTheContent, SplitsKeepTheContent, UnnamedWordsStay, UnreachedWordsDoNotMatter, ViewsAreHonest, WellFormedImagesHaveNoFault}
use Rattle.bz_content.specs.TwoLevels.{TwoLevels}
use Rattle.bz_content.specs.WorkedInsert.{WorkedInsert}

-- the rules of an image see to what a tree needs of them
pub views_are_honest : ViewsAreHonest
views_are_honest = honest

-- a plain value resolves to itself
pub plain_words_stand_for_themselves : PlainWordsStandForThemselves
plain_words_stand_for_themselves = resolve-value

-- an image has no fault exactly where all its rules hold
pub well_formed_images_have_no_fault : WellFormedImagesHaveNoFault
well_formed_images_have_no_fault = well-formed

-- fresh memory is well formed and holds nothing
pub fresh_memory_is_empty : FreshMemoryIsEmpty
fresh_memory_is_empty = fresh-empty

-- of fresh memory slot 0 is reached, and no other
pub fresh_memory_reaches_slot_zero : FreshMemoryReachesSlotZero
fresh_memory_reaches_slot_zero = fresh-reaches

-- the content as a map answers each key as the descent does
pub map_is_the_content : MapIsTheContent
map_is_the_content = map-is-content

-- a swap changes nothing of the slots of which it names no word
pub unnamed_words_stay : UnnamedWordsStay
unnamed_words_stay = unnamed

-- words of slots that are not reached do not matter
pub unreached_words_do_not_matter : UnreachedWordsDoNotMatter
unreached_words_do_not_matter = unreached-words

-- a swap on one leaf that stays whole leaves the tree, and changes what is said of the keys of that leaf alone
pub leaf_swaps_keep_the_tree : LeafSwapsKeepTheTree
leaf_swaps_keep_the_tree = leaf-swaps

-- a reservation, the first swap of an update, a freeze and private stores keep tree and content
pub quiet_swaps_keep_the_content : QuietSwapsKeepTheContent
quiet_swaps_keep_the_content = quiet-swaps

-- a publication, a delete and the second swap of an update change what is said of their record's key alone
pub rewrites_change_one_key : RewritesChangeOneKey
rewrites_change_one_key = rewrites

-- a swap of one link, told of words, is one of the slots
pub links_are_turned : LinksAreTurned
links_are_turned = links-turned

-- a consolidation, at the root or below an inner node, keeps the content
pub consolidations_keep_the_content : ConsolidationsKeepTheContent
consolidations_keep_the_content = consolidations

-- a split of a leaf or an inner node below an inner node keeps the content
pub splits_keep_the_content : SplitsKeepTheContent
splits_keep_the_content = splits

-- a split of the root keeps the content
pub root_splits_keep_the_content : RootSplitsKeepTheContent
root_splits_keep_the_content = root-splits

-- a merge of two leaves keeps the content
pub merges_keep_the_content : MergesKeepTheContent
merges_keep_the_content = merges

-- the images of the worked insert are well formed and hold what they should
pub worked_insert_reads : WorkedInsert
worked_insert_reads = worked-insert

-- of broken images the first fault is told
pub broken_images_are_told : BrokenImages
broken_images_are_told = broken-images

-- a tree of two levels is read, and its first fault told where it is broken
pub two_levels_read : TwoLevels
two_levels_read = two-levels
