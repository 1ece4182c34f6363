use Rattle.bz_world.proofs.Solo.{GoneOn, still}
use Rattle.bz_world.proofs.world.World.solo.Given as goal

abbrev pub invariant-loop-answer : goal.invariant-loop-answer
invariant-loop-answer l = GoneOn l.initial.self l.w l.answer l.self

abbrev pub decreases-loop-answer : goal.decreases-loop-answer
decreases-loop-answer l = still l.answer l.self
