use Rattle.bz_sight.proofs.Proved as proved
use Rattle.bz_sight.proofs.laws.acts_pass.Goals as goal

pub returns : goal.returns
returns c = proved.acts_pass
