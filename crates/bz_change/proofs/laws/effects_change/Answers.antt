use Rattle.bz_change.proofs.Changing.{effects_change}
use Rattle.bz_change.proofs.laws.effects_change.Goals as goal

pub returns : goal.returns
returns c = effects_change
