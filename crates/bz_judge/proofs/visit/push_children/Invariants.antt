use Rattle.std.proofs.Common.{◌≡◌, ◌-◌, ◌≤◌, ◌<◌, ◌++◌}
use Rattle.bz_node.specs.Reading.{count_in}
use Rattle.bz_tree.specs.View.{View, high_at}
use Rattle.bz_tree.specs.Walk.{kids}
use Rattle.bz_judge.specs.Inside.Stacks.{visit_of, stack_of, Shows}
use Rattle.bz_judge.proofs.visit.push_children.Given as goal

abbrev pub invariant-loop-i : goal.invariant-loop-i
invariant-loop-i l = record {
  within : l.i ≤ count_in l.node.0;
  high : (v : View) → Shows v l.visit.slot l.node.0 → 0 < l.i → l.high ≡ high_at v l.visit.slot l.visit.place.high (l.i - 1);
  stack : (v : View) → Shows v l.visit.slot l.node.0 →
      stack_of l.stack.items ≡ kids v (visit_of l.visit) (l.visit.place.level - 1) l.i (v.count l.visit.slot - l.i) ++ stack_of l.initial.stack.items;
}

abbrev pub decreases-loop-i : goal.decreases-loop-i
decreases-loop-i l = l.i
