use Rattle.std.proofs.Common.{arith}
use Rattle.bz_check.specs.Tables.{is_other_in}
use Rattle.bz_check.proofs.Counting.{others_step, others_all}
use Rattle.bz_check.proofs.table.Table.others.Goals as goal

pub loop-i-preserved : goal.loop-i-preserved
loop-i-preserved c = record {
  few = omega (arith, c.loop-i.invariant.few, c.other-count.ensures.few);
  rest = others_step (λ v. is_other_in c.args.self.now c.args.w v) c.loop-i.i c.args.workers c.loop-i.count c.other-count.result _ c.loop-i-test.true c.other-count.ensures.is c.loop-i.invariant.rest;
}

pub returns : goal.returns
returns c = others_all (λ v. is_other_in c.args.self.now c.args.w v) c.loop-i.i c.args.workers c.loop-i.count c.loop-i-test.false c.loop-i.invariant.rest
