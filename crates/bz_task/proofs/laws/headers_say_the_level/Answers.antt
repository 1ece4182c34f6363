use Rattle.bz_task.proofs.Proved as proved
use Rattle.bz_task.proofs.laws.headers_say_the_level.Goals as goal

pub returns : goal.returns
returns c = proved.headers_say_the_level
