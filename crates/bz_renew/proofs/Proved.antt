-- What this crate proves, as lemmas that other crates cite by these names.
use Rattle.bz_layout.proofs.Laws.{slots_apart}
use Rattle.bz_page.proofs.Proved.{views_say_what_images_say}
use Rattle.bz_tree.proofs.Proved.{trees_have_forms}
use Rattle.bz_slotted.proofs.Proved.{inner_rules_are_facts}
use Rattle.bz_task.proofs.FromContent.Proved.{plain_words_stand_for_themselves, well_formed_images_have_no_fault}
use Rattle.bz_task.proofs.Proved.{fronts_stay, frozen_nodes_stay, headers_say_the_level, leaves_are_in_trees, nodes_stay, ranges_stay, same_records_show_the_same, seen_leaves_are_whole, separators_stay, swaps_show_in_slots}
use Rattle.bz_word.proofs.Proved.{statuses}
use Rattle.bz_renew.proofs.Basis.{Laws}
use Rattle.bz_renew.proofs.FrozenLeaves.{stand-still}
use Rattle.bz_renew.proofs.LinkSwaps.{link-swaps}
use Rattle.bz_renew.proofs.Turnable.{turnable}
use Rattle.bz_renew.proofs.UnderNode.{child-links, child-links-with, guarded-stand}
use Rattle.bz_renew.proofs.UnderRoot.{root-links, root-links-with}
use Rattle.bz_renew.proofs.Viewing.{views-show}
use Rattle.bz_renew.specs.FrozenLeaves.{FrozenLeavesStandStill, ViewsShowFrozenLeaves}
use Rattle.bz_renew.specs.LinkSwaps.{LinkSwapsAreGood}
use Rattle.bz_renew.specs.Renewals.{LinksMayBeTurned}
use Rattle.bz_renew.specs.Standing.{GuardedLinksStand}
use Rattle.bz_renew.specs.Turning.{ChildLinksTurn, ChildLinksTurnWith, RootLinksTurn, RootLinksTurnWith}

-- a swap of a link that leaves the image well formed with the same content is lawful for everybody
pub link_swaps_are_good : LinkSwapsAreGood
link_swaps_are_good = link-swaps well_formed_images_have_no_fault plain_words_stand_for_themselves

pub links_may_be_turned : LinksMayBeTurned
links_may_be_turned =
    let laws : Laws = record {
      formed = well_formed_images_have_no_fault;
      forms = trees_have_forms;
      inner = inner_rules_are_facts;
      codec = statuses;
      apart = slots_apart;
      nodes = nodes_stay;
      fronts = fronts_stay;
      separators = separators_stay;
      headers = headers_say_the_level;
      slots = swaps_show_in_slots;
      shown = same_records_show_the_same;
    } in
    turnable laws

pub root_links_turn : RootLinksTurn
root_links_turn =
    let laws : Laws = record {
      formed = well_formed_images_have_no_fault;
      forms = trees_have_forms;
      inner = inner_rules_are_facts;
      codec = statuses;
      apart = slots_apart;
      nodes = nodes_stay;
      fronts = fronts_stay;
      separators = separators_stay;
      headers = headers_say_the_level;
      slots = swaps_show_in_slots;
      shown = same_records_show_the_same;
    } in
    root-links laws

pub child_links_turn : ChildLinksTurn
child_links_turn =
    let laws : Laws = record {
      formed = well_formed_images_have_no_fault;
      forms = trees_have_forms;
      inner = inner_rules_are_facts;
      codec = statuses;
      apart = slots_apart;
      nodes = nodes_stay;
      fronts = fronts_stay;
      separators = separators_stay;
      headers = headers_say_the_level;
      slots = swaps_show_in_slots;
      shown = same_records_show_the_same;
    } in
    child-links laws

pub root_links_turn_with : RootLinksTurnWith
root_links_turn_with =
    let laws : Laws = record {
      formed = well_formed_images_have_no_fault;
      forms = trees_have_forms;
      inner = inner_rules_are_facts;
      codec = statuses;
      apart = slots_apart;
      nodes = nodes_stay;
      fronts = fronts_stay;
      separators = separators_stay;
      headers = headers_say_the_level;
      slots = swaps_show_in_slots;
      shown = same_records_show_the_same;
    } in
    root-links-with laws

pub child_links_turn_with : ChildLinksTurnWith
child_links_turn_with =
    let laws : Laws = record {
      formed = well_formed_images_have_no_fault;
      forms = trees_have_forms;
      inner = inner_rules_are_facts;
      codec = statuses;
      apart = slots_apart;
      nodes = nodes_stay;
      fronts = fronts_stay;
      separators = separators_stay;
      headers = headers_say_the_level;
      slots = swaps_show_in_slots;
      shown = same_records_show_the_same;
    } in
    child-links-with laws

-- while the guard of a link below a parent has the value that was read, the link leads where it led
pub guarded_links_stand : GuardedLinksStand
guarded_links_stand =
    let laws : Laws = record {
      formed = well_formed_images_have_no_fault;
      forms = trees_have_forms;
      inner = inner_rules_are_facts;
      codec = statuses;
      apart = slots_apart;
      nodes = nodes_stay;
      fronts = fronts_stay;
      separators = separators_stay;
      headers = headers_say_the_level;
      slots = swaps_show_in_slots;
      shown = same_records_show_the_same;
    } in
    guarded-stand laws

-- a leaf that was frozen stands as it stood
pub frozen_leaves_stand_still : FrozenLeavesStandStill
frozen_leaves_stand_still = stand-still (record {
  frozen = frozen_nodes_stay;
  ranges = ranges_stay;
  shown = same_records_show_the_same;
  seen = seen_leaves_are_whole;
  leaves = leaves_are_in_trees;
})

-- what a view of a frozen leaf shows
pub views_show_frozen_leaves : ViewsShowFrozenLeaves
views_show_frozen_leaves = views-show (record {
  leaves = leaves_are_in_trees;
  seen = seen_leaves_are_whole;
  shown = same_records_show_the_same;
  views = views_say_what_images_say;
})
