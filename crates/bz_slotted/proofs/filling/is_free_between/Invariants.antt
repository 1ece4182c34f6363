use Rattle.std.proofs.Common.{◌≡◌, true}
use Rattle.bz_slotted.specs.Page.{page}
use Rattle.bz_slotted.specs.ReadingLaws.{node_of}
use Rattle.bz_slotted.specs.Rules.{free_test}
use Rattle.bz_slotted.specs.Tests.{every}
use Rattle.bz_slotted.proofs.filling.is_free_between.Given as goal

abbrev pub invariant-loop-i : goal.invariant-loop-i
invariant-loop-i l = every l.i (free_test (page (node_of l.words))) ≡ true
