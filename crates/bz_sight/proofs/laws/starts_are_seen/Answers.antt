use Rattle.bz_sight.proofs.Proved as proved
use Rattle.bz_sight.proofs.laws.starts_are_seen.Goals as goal

pub returns : goal.returns
returns c = proved.starts_are_seen
