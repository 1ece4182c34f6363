use Rattle.bz_qsched.specs.Fuses.{with_fuse}
use Rattle.bz_qsched.proofs.WordLemmas.{Listing}
use Rattle.bz_qsched.proofs.list.run_list.Given as goal

abbrev pub invariant-loop-turn : goal.invariant-loop-turn
invariant-loop-turn l = Listing l.turns l.turn-index l.initial.world (with_fuse l.initial.queue l.initial.fuse) l.world (with_fuse l.queue l.fuse)
