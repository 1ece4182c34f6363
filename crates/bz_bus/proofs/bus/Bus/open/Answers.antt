use Rattle.bz_bus.proofs.Ends.{opens, all_but_first}
use Rattle.bz_bus.proofs.bus.Bus.open.Goals as goal

pub vacant-requires : goal.vacant-requires
vacant-requires g c = rw c.length.ensures (opens _ _ _ _)

pub returns-in-Ok-clause-free : goal.returns-in-Ok-clause-free
returns-in-Ok-clause-free g c = λ n h. all_but_first 64 n h
