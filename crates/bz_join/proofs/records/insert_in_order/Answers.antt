use Rattle.std.proofs.Common.{arith}
use Rattle.std.proofs.lemmas.List.Sorted.{IsPermutation-insert}
use Rattle.bz_node.specs.Records.{keys_of}
use Rattle.bz_node.proofs.Orders.{keys_of-insert, length-keys_of, AreRising-insert}
use Rattle.bz_join.proofs.records.insert_in_order.Goals as goal

pub returns-clause-rising : goal.returns-clause-rising
returns-clause-rising c =
    let pairs = c.args.out.now in
    let place = c.place_for-place.result in
    let long = length-keys_of pairs in
    let within = rw c.pairs.ensures.same at c.place_for-place.ensures.within in
    let before = rw c.pairs.ensures.same at c.place_for-place.ensures.before in
    let after = rw c.pairs.ensures.same at c.place_for-place.ensures.after in
    rw (c.insert.ensures, keys_of-insert pairs place (c.args.key, c.args.payload))
    (AreRising-insert (keys_of pairs) place c.args.key c.requires.rising (omega (arith, within, long)) before (λ k from inside. after k from (omega (arith, inside, long))))

pub returns-clause-same : goal.returns-clause-same
returns-clause-same c = rw c.insert.ensures (IsPermutation-insert c.args.out.now c.place_for-place.result (c.args.key, c.args.payload))
