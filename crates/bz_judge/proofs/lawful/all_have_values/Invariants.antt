use Rattle.std.proofs.Common.{◌≡◌, true}
use Rattle.bz_judge.specs.Inside.Kinds.{values_test}
use Rattle.std.specs.Prelude.{slice_index}
use Rattle.bz_slotted.specs.Tests.{every}
use Rattle.bz_judge.proofs.lawful.all_have_values.Given as goal

abbrev pub invariant-loop-i : goal.invariant-loop-i
invariant-loop-i l = every l.i (values_test (slice_index l.image) l.swap) ≡ true
