use Rattle.bz_change.proofs.Changing.{reads_tell}
use Rattle.bz_change.proofs.laws.reads_tell.Goals as goal

pub returns : goal.returns
returns c = reads_tell
