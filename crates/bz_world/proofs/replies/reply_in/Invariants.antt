use Rattle.std.proofs.Common.{◌≡◌, ◌≤◌, length}
use Rattle.bz_mark.specs.Moments.{at_moment}
use Rattle.bz_world.specs.WorldView.{reply_of}
use Rattle.bz_world.proofs.replies.reply_in.Given as goal

abbrev pub decreases-loop-left : goal.decreases-loop-left
decreases-loop-left l = l.left

abbrev pub invariant-loop-left : goal.invariant-loop-left
invariant-loop-left l = record {
  within : l.left ≤ length l.journal.past;
  rest : reply_of l.w l.n l.journal.past ≡ reply_of l.w l.n (at_moment l.left l.journal.past);
}
