use Rattle.std.proofs.Common.{sym, subst}
use Rattle.std.specs.Prelude.{IsSome}
use Rattle.bz_consol.proofs.Proved.{consolidations_take_one_slot}
use Rattle.bz_merge.proofs.Proved.{merges_take_two_slots}
use Rattle.bz_any_task.proofs.Ends.{looks-take-nothing, renewals-take-one-swap, ends-so}
use Rattle.bz_any_task.proofs.Going.{last-swap-publishes, goes-on-in-room}
use Rattle.bz_any_task.proofs.Heights.{filled-up}
use Rattle.bz_any_task.proofs.Made.{made-stays, merge-stays, small-stays}
use Rattle.bz_any_task.proofs.Rising.{rises-on}
use Rattle.bz_any_task.proofs.Statements.{takes-few, wants-few, publishes-last}
use Rattle.bz_any_task.proofs.running.AnyTask.laws.Goals as goal

pub returns : goal.returns
returns c = let e = c.ended-ended.ensures in let l = c.learnt.ensures in record {
  sound = l;
  acts = c.acted.ensures;
  made_for = made-stays c.args.self.now;
  merge_for = merge-stays c.args.self.now;
  small_for = small-stays c.args.self.now;
  few = takes-few consolidations_take_one_slot merges_take_two_slots c.args.self.now l.few;
  most = wants-few c.args.self.now;
  last = publishes-last c.args.self.now;
  publishes_last = last-swap-publishes c.args.self.now;
  looks = looks-take-nothing c.args.self.now;
  single = renewals-take-one-swap c.args.self.now;
  ends_of = ends-so c.args.self.now;
  going = goes-on-in-room c.args.self.now;
  finish = λ f. subst IsSome e.end (e.finish f);
  only = λ k. e.only (subst IsSome (sym e.end) k);
  rises = rises-on c.args.self.now l.ends;
  height = filled-up c.args.self.now l.ends;
}
