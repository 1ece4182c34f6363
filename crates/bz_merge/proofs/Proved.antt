-- What this crate proves, as lemmas that other crates cite by these names.
use Rattle.std.specs.Prelude.{◌≤◌}
use Rattle.bz_content.proofs.Proved.{merges_keep_the_content, plain_words_stand_for_themselves, well_formed_images_have_no_fault}
use Rattle.bz_layout.specs.declared.thresholds.TheConstants.{MERGE_SLOTS}
use Rattle.bz_renew.proofs.Proved.{child_links_turn_with, guarded_links_stand, link_swaps_are_good, links_may_be_turned, root_links_turn_with}
use Rattle.bz_tree.proofs.Proved.{trees_have_forms}
use Rattle.bz_slotted.proofs.Proved.{inner_rules_are_facts, leaf_rules_are_facts, whole_inners_are_readable}
use Rattle.bz_task.proofs.Proved.{frozen_nodes_stay, leaves_are_in_trees, nodes_stay, ranges_stay, same_records_show_the_same, seen_leaves_are_whole}
use Rattle.bz_merge.proofs.Merging.{merges-good}
use Rattle.bz_merge.proofs.Needing.{needs-few}
use Rattle.bz_merge.proofs.ReadingLeaves.{leaves-read}
use Rattle.bz_merge.proofs.ReadingParents.{children-stand, parents-read}
use Rattle.bz_merge.specs.Duties.{needs_of}
use Rattle.bz_merge.specs.Merges.{MergesAreGood}
use Rattle.bz_merge.specs.Siblings.{ChildrenStand, LeavesReadWere, ParentsReadWere}
use Rattle.bz_merge.specs.declared.merge.Merge.{Merge}

-- the swap by which a new parent takes its place, with one leaf in the place of two frozen neighbours, and the old parent is frozen, is lawful for everybody and changes no content
pub merges_are_good : MergesAreGood
merges_are_good = merges-good (record {
  formed = well_formed_images_have_no_fault;
  plain = plain_words_stand_for_themselves;
  keep = merges_keep_the_content;
  may = links_may_be_turned;
  root = root_links_turn_with;
  child = child_links_turn_with;
  below = record { formed = well_formed_images_have_no_fault; forms = trees_have_forms; stand = guarded_links_stand; ranges = ranges_stay };
  links = link_swaps_are_good;
  leaf = record { frozen = frozen_nodes_stay; shown = same_records_show_the_same; seen = seen_leaves_are_whole; leaves = leaves_are_in_trees };
})

pub parents_read_were : ParentsReadWere
parents_read_were = parents-read (record {
  below = record { formed = well_formed_images_have_no_fault; forms = trees_have_forms; stand = guarded_links_stand; ranges = ranges_stay };
  nodes = nodes_stay;
  rules = inner_rules_are_facts;
  readable = whole_inners_are_readable;
})

pub children_stand : ChildrenStand
children_stand = children-stand (record { formed = well_formed_images_have_no_fault; forms = trees_have_forms; stand = guarded_links_stand; ranges = ranges_stay })

-- the words of a leaf that were read one by one are those of one moment, where its status is found again
pub leaves_read_were : LeavesReadWere
leaves_read_were = leaves-read (record { nodes = nodes_stay; rules = leaf_rules_are_facts; shown = same_records_show_the_same; seen = seen_leaves_are_whole; leaves = leaves_are_in_trees })

-- a merge takes no more than two slots
pub merges_take_two_slots : (t : Merge) → needs_of t ≤ MERGE_SLOTS
merges_take_two_slots t = needs-few t.phase
