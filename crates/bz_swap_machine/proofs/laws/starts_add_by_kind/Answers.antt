use Rattle.bz_swap_machine.proofs.Proved as proved
use Rattle.bz_swap_machine.proofs.laws.starts_add_by_kind.Goals as goal

pub returns : goal.returns
returns c = proved.starts_add_by_kind
