use Rattle.bz_swap_machine.proofs.Proved as proved
use Rattle.bz_swap_machine.proofs.laws.solo_steps_are_allowed_by_kind.Goals as goal

pub returns : goal.returns
returns c = proved.solo_steps_are_allowed_by_kind
