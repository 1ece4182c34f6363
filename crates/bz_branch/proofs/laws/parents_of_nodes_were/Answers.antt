use Rattle.bz_below.proofs.ReadingParents.{Laws, was-parent}
use Rattle.bz_branch.specs.Nodes.{ParentsOfNodesWere}
use Rattle.bz_branch.proofs.laws.parents_of_nodes_were.Goals as goal

parents-were : Laws → ParentsOfNodesWere
parents-were b s upper lower m sep read good links since until inside now were key above below = was-parent b s upper lower m sep read good links since until inside now were key above below

pub returns : goal.returns
returns c = parents-were (record {
  basis = record {
    formed = c.well_formed_images_have_no_fault.ensures;
    forms = c.trees_have_forms.ensures;
    inner = c.inner_rules_are_facts.ensures;
    nodes = c.nodes_stay.ensures;
    headers = c.headers_say_the_level.ensures;
  };
  readable = c.whole_inners_are_readable.ensures;
  partable = c.read_children_may_be_parted.ensures;
  stand = c.guarded_links_stand.ensures;
  ranges = c.ranges_stay.ensures;
})
