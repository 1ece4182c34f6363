use Rattle.bz_slotted.proofs.Proved as proved
use Rattle.bz_slotted.proofs.laws.inner_keys_rise.Goals as goal

pub returns : goal.returns
returns c = proved.inner_keys_rise
