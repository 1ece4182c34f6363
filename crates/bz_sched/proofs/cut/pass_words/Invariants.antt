use Rattle.bz_sched.proofs.PassLemmas.{Passing}
use Rattle.bz_layout.specs.Addresses.{words_of}
use Rattle.bz_sched.proofs.cut.pass_words.Given as goal

abbrev pub invariant-loop-a : goal.invariant-loop-a
invariant-loop-a l = Passing (words_of l.initial.world.config) l.seed l.a l.state l.initial.world l.world
