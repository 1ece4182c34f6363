use Rattle.std.proofs.Common.{refl}
use Rattle.bz_swap.specs.Inside.Parts.{idle_worker}
use Rattle.bz_swap.proofs.access.idle_worker.Goals as goal

pub returns : goal.returns
unfolding idle_worker
returns c = refl
