use Rattle.bz_qsched.proofs.PassLemmas.{Passing}
use Rattle.bz_ring.specs.Content.{size_of}
use Rattle.bz_qsched.proofs.cut.pass_words.Given as goal

abbrev pub invariant-loop-a : goal.invariant-loop-a
invariant-loop-a l = Passing (size_of l.initial.world.numbers.ring) l.seed l.a l.state l.initial.world l.world
