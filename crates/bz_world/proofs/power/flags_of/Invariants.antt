use Rattle.bz_world.proofs.Flags.{Copied}
use Rattle.bz_world.proofs.power.flags_of.Given as goal

abbrev pub invariant-loop-w : goal.invariant-loop-w
invariant-loop-w l = Copied l.access l.w l.flags.items
