use Rattle.std.proofs.Common.{◌≡◌, ◌^◌, true, arith}
use Rattle.std.specs.Prelude.{nat_lt}
use Rattle.std.proofs.lemmas.Bool.Decides.{nat_tests}
use Rattle.bz_slotted.proofs.Unpacking.{header-is, header-fits}
use Rattle.bz_find.proofs.front.sorted_of.Goals as goal

pub returns-in-Some-clause-sorted : goal.returns-in-Some-clause-sorted
returns-in-Some-clause-sorted c =
    let is = header-is c.in-Some.header c.args.word c.in-Some.ensures.word.0 c.in-Some.ensures.word.1 in
    let fits = header-fits c.in-Some.header c.args.word c.in-Some.ensures.word.0 c.in-Some.ensures.word.1 in
    let t : nat_lt c.args.word (2 ^ 32) ≡ true = grind (arith, nat_tests) in
    rw (t, ← is) c.min.ensures
