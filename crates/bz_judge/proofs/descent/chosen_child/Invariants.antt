use Rattle.std.proofs.Common.{◌≡◌, ◌<◌}
use Rattle.bz_node.specs.Reading.{count_in}
use Rattle.bz_tree.specs.Descent.{pick, choice}
use Rattle.bz_tree.specs.View.{View, high_at}
use Rattle.bz_judge.specs.Inside.Stacks.{Shows}
use Rattle.bz_judge.proofs.descent.chosen_child.Given as goal

abbrev pub invariant-loop-i : goal.invariant-loop-i
invariant-loop-i l = record {
  within : l.i < count_in l.node.0;
  high : (v : View) → Shows v l.visit.slot l.node.0 → l.high ≡ high_at v l.visit.slot l.visit.place.high l.i;
  way : (v : View) → Shows v l.visit.slot l.node.0 → choice v l.visit.slot l.key ≡ pick v l.visit.slot l.key l.i;
}

abbrev pub decreases-loop-i : goal.decreases-loop-i
decreases-loop-i l = l.i
