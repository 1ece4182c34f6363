use Rattle.bz_slotted.proofs.Proved as proved
use Rattle.bz_slotted.proofs.laws.leaf_rules_are_facts.Goals as goal

pub returns : goal.returns
returns c = proved.leaf_rules_are_facts
