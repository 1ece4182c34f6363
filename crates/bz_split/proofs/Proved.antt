-- What this crate proves, as lemmas that other crates cite by these names.
use Rattle.bz_content.proofs.Proved.{plain_words_stand_for_themselves, root_splits_keep_the_content, splits_keep_the_content, well_formed_images_have_no_fault}
use Rattle.bz_renew.proofs.Proved.{child_links_turn_with, frozen_leaves_stand_still, guarded_links_stand, link_swaps_are_good, links_may_be_turned, root_links_turn, root_links_turn_with}
use Rattle.bz_task.proofs.Proved.{leaves_are_in_trees, ranges_stay, roots_are_reached}
use Rattle.bz_split.proofs.BelowSplitting.{splits-below}
use Rattle.bz_split.proofs.RootSplitting.{root-splits}
use Rattle.bz_split.specs.BelowSplits.{LeafSplitsBelowAreGood}
use Rattle.bz_split.specs.RootSplits.{RootLeafSplitsAreGood}

-- the swap by which a new root over the halves of a frozen root leaf takes its place is lawful for everybody and changes no content
pub root_leaf_splits_are_good : RootLeafSplitsAreGood
root_leaf_splits_are_good = root-splits (record {
  formed = well_formed_images_have_no_fault;
  plain = plain_words_stand_for_themselves;
  keep = root_splits_keep_the_content;
  turn = root_links_turn;
  still = frozen_leaves_stand_still;
  links = link_swaps_are_good;
  roots = roots_are_reached;
  leaves = leaves_are_in_trees;
})

-- the swap by which a new parent takes its place, with the halves of a frozen leaf in the leaf's, and the old parent is frozen, is lawful for everybody and changes no content
pub leaf_splits_below_are_good : LeafSplitsBelowAreGood
leaf_splits_below_are_good = splits-below (record {
  formed = well_formed_images_have_no_fault;
  plain = plain_words_stand_for_themselves;
  keep = splits_keep_the_content;
  may = links_may_be_turned;
  root = root_links_turn_with;
  child = child_links_turn_with;
  stand = guarded_links_stand;
  still = frozen_leaves_stand_still;
  ranges = ranges_stay;
  links = link_swaps_are_good;
})
