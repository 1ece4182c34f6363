use Rattle.std.proofs.Common.{◌-◌, arith, IsTrue}
use Rattle.bz_node.specs.Records.{keys_of}
use Rattle.bz_node.proofs.Orders.{get_or-keys_of}
use Rattle.bz_test_vectors.proofs.Checks.{rise_more}
use Rattle.bz_test_vectors.proofs.tests.node.make_leaf.Goals as goal

pub loop-i-preserved : goal.loop-i-preserved
loop-i-preserved c =
    let records = c.args.records.now in
    let t : IsTrue c.is_before.result = cc in
    let at = get_or-keys_of records c.loop-i.i c.index-records-i-in-loop-i.result (omega arith) in
    let before = get_or-keys_of records (c.loop-i.i - 1) c.index-records-i.result (omega arith) in
    rise_more (keys_of records) c.loop-i.i (omega arith) c.loop-i.invariant (rw (at, before) (c.is_before.ensures.0 t))
