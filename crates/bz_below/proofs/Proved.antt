-- What this crate proves, as lemmas that other crates cite by these names.
use Rattle.bz_content.proofs.Proved.{well_formed_images_have_no_fault}
use Rattle.bz_halves.proofs.Proved.{read_children_may_be_parted}
use Rattle.bz_renew.proofs.Proved.{guarded_links_stand, links_may_be_turned}
use Rattle.bz_tree.proofs.Proved.{trees_have_forms}
use Rattle.bz_slotted.proofs.Proved.{inner_rules_are_facts, whole_inners_are_readable}
use Rattle.bz_task.proofs.Proved.{fronts_stay, headers_say_the_level, nodes_stay, nodes_were_inside, ranges_stay, separators_stay}
use Rattle.bz_below.proofs.Briefness.{costs-little}
use Rattle.bz_below.proofs.ReadingParents.{read-parents}
use Rattle.bz_below.proofs.Standing.{Laws, leave-nodes, stand-on}
use Rattle.bz_below.specs.Duties.{WantOfRoomCostsLittle}
use Rattle.bz_below.specs.Guards.{LinksLeaveTheirNodes, LinksStandOn}
use Rattle.bz_below.specs.Parents.{ReadParentsWere}

-- the words of a parent that were read one by one are those of one moment, where its status is found again; and the leaf's place may be parted there
pub read_parents_were : ReadParentsWere
read_parents_were = read-parents (record {
  basis = record {
    formed = well_formed_images_have_no_fault;
    forms = trees_have_forms;
    inner = inner_rules_are_facts;
    nodes = nodes_stay;
    headers = headers_say_the_level;
  };
  readable = whole_inners_are_readable;
  partable = read_children_may_be_parted;
  stand = guarded_links_stand;
  ranges = ranges_stay;
})

pub links_stand_on : LinksStandOn
links_stand_on =
    let b : Laws = record {
      basis = record {
        formed = well_formed_images_have_no_fault;
        forms = trees_have_forms;
        inner = inner_rules_are_facts;
        nodes = nodes_stay;
        headers = headers_say_the_level;
      };
      fronts = fronts_stay;
      separators = separators_stay;
      were = nodes_were_inside;
      turn = links_may_be_turned;
    } in
    stand-on b

pub links_leave_their_nodes : LinksLeaveTheirNodes
links_leave_their_nodes =
    let b : Laws = record {
      basis = record {
        formed = well_formed_images_have_no_fault;
        forms = trees_have_forms;
        inner = inner_rules_are_facts;
        nodes = nodes_stay;
        headers = headers_say_the_level;
      };
      fronts = fronts_stay;
      separators = separators_stay;
      were = nodes_were_inside;
      turn = links_may_be_turned;
    } in
    leave-nodes b

-- where a split ends for want of room, it has loaded one word, and no more
pub want_of_room_costs_little : WantOfRoomCostsLittle
want_of_room_costs_little = costs-little
