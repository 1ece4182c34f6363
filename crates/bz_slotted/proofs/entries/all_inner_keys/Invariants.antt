use Rattle.std.proofs.Common.{◌≡◌, true}
use Rattle.bz_slotted.specs.Page.{page}
use Rattle.bz_slotted.specs.ReadingLaws.{node_of}
use Rattle.bz_slotted.specs.Rules.{inner_key_test}
use Rattle.bz_slotted.specs.Tests.{every}
use Rattle.bz_slotted.proofs.entries.all_inner_keys.Given as goal

abbrev pub invariant-loop-j : goal.invariant-loop-j
invariant-loop-j l = every l.j (inner_key_test (page (node_of l.words)) l.place.low l.place.high) ≡ true
