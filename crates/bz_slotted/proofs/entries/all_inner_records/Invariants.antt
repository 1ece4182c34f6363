use Rattle.std.proofs.Common.{◌≡◌, true}
use Rattle.bz_slotted.specs.Page.{page}
use Rattle.bz_slotted.specs.ReadingLaws.{node_of}
use Rattle.bz_slotted.specs.Rules.{inner_record_test}
use Rattle.bz_slotted.specs.Tests.{every}
use Rattle.bz_slotted.proofs.entries.all_inner_records.Given as goal

abbrev pub invariant-loop-j : goal.invariant-loop-j
invariant-loop-j l = every l.j (inner_record_test (node_of l.raw) (page (node_of l.words))) ≡ true
