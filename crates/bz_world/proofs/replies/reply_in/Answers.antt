use Rattle.std.proofs.Common.{◌-◌, arith, sym, ap, ◌∙◌}
use Rattle.bz_mark.specs.Moments.{at_moment}
use Rattle.bz_world.specs.WorldView.{reply_of}
use Rattle.bz_world.proofs.Numbers.{one-back}
use Rattle.bz_world.proofs.replies.reply_in.Goals as goal

pub returns-in-Some : goal.returns-in-Some
returns-in-Some c =
    let past = c.args.journal.now.past in
    sym (c.loop-left.invariant.rest ∙ (ap (reply_of c.args.w c.args.n) (one-back c.loop-left.left c.mark.result past (omega (arith, c.loop-left-test.true)) c.loop-left.invariant.within c.mark.ensures)
    ∙ c.told_by.ensures.some (at_moment (c.loop-left.left - 1) past) c.in-Some.reply c.in-Some.is))

pub loop-left-preserved : goal.loop-left-preserved
loop-left-preserved c =
    let past = c.args.journal.now.past in
    record {
      within = omega (arith, c.loop-left.invariant.within);
      rest = c.loop-left.invariant.rest ∙ (ap (reply_of c.args.w c.args.n) (one-back c.loop-left.left c.mark.result past (omega (arith, c.loop-left-test.true)) c.loop-left.invariant.within c.mark.ensures)
          ∙ c.told_by.ensures.none (at_moment (c.loop-left.left - 1) past) c.in_default.is);
    }
