use Rattle.bz_ring.proofs.Changes.{puts_append}
use Rattle.bz_ring.proofs.laws.puts_append.Goals as goal

pub returns : goal.returns
returns c = puts_append
