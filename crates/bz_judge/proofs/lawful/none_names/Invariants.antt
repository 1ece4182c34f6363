use Rattle.std.proofs.Common.{◌≡◌, true}
use Rattle.bz_judge.specs.Inside.Kinds.{other_target_test}
use Rattle.std.specs.Prelude.{slice_index}
use Rattle.bz_slotted.specs.Tests.{every}
use Rattle.bz_judge.proofs.lawful.none_names.Given as goal

abbrev pub invariant-loop-i : goal.invariant-loop-i
invariant-loop-i l = every l.i (other_target_test (slice_index l.image) l.a l.swap) ≡ true
