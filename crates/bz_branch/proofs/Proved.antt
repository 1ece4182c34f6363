-- What this crate proves, as lemmas that other crates cite by these names.
use Rattle.bz_content.proofs.Proved.{well_formed_images_have_no_fault}
use Rattle.bz_parted.proofs.Proved.{read_nodes_have_children}
use Rattle.bz_tree.proofs.Proved.{trees_have_forms}
use Rattle.bz_slotted.proofs.Proved.{inner_rules_are_facts}
use Rattle.bz_task.proofs.Proved.{headers_say_the_level, nodes_stay}
use Rattle.bz_branch.proofs.InnerSplitting.{inner-splits}
use Rattle.bz_branch.proofs.ReadingNodes.{nodes-were}
use Rattle.bz_branch.proofs.RootSplitting.{inner-root-splits}
use Rattle.bz_branch.specs.InnerSplits.{InnerSplitsAreGood}
use Rattle.bz_branch.specs.Nodes.{ReadNodesWere}
use Rattle.bz_branch.specs.RootSplits.{InnerRootSplitsAreGood}

-- the words of an inner node that were read one by one are those of one moment, where its status is found again
pub read_nodes_were : ReadNodesWere
read_nodes_were = nodes-were (record {
  basis = record {
    formed = well_formed_images_have_no_fault;
    forms = trees_have_forms;
    inner = inner_rules_are_facts;
    nodes = nodes_stay;
    headers = headers_say_the_level;
  };
  node = read_nodes_have_children;
})

-- the swap by which a new parent takes its place, with the halves of an inner node in the node's, and the old parent and the node are frozen, is lawful for everybody and changes no content
pub inner_splits_are_good : InnerSplitsAreGood
inner_splits_are_good = inner-splits

-- the swap by which a new root over the halves of an inner root takes its place, and that is frozen, is lawful for everybody and changes no content
pub inner_root_splits_are_good : InnerRootSplitsAreGood
inner_root_splits_are_good = inner-root-splits
