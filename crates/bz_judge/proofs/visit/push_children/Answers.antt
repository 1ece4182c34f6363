use Rattle.std.proofs.Common.{◌≡◌, ◌-◌, ◌<◌, ap, ◌∙◌, arith}
use Rattle.bz_node.specs.Reading.{count_in}
use Rattle.bz_slotted.specs.ReadingLaws.{node_of, child_read}
use Rattle.bz_judge.specs.Inside.Stacks.{visit_of, stack_of}
use Rattle.bz_judge.proofs.Children.{stack-push, kids-more, kids-none, count-read, child-is, next-kid, next-high, last-high}
use Rattle.bz_judge.proofs.visit.push_children.Goals as goal

pub loop-i-init : goal.loop-i-init
loop-i-init c = record {
  within = omega (arith, c.child_count-i.ensures);
  high = λ v shows some. last-high v c.args.node.now.0 c.args.visit.now.slot _ c.args.visit.now.place.high shows c.requires.children c.child_count-i.ensures some;
  stack = λ v shows. kids-none v (visit_of c.args.visit.now) (c.args.visit.now.place.level - 1) _ _ _ (omega (arith, c.child_count-i.ensures, shows.count, count-read c.args.node.now.0 c.requires.children));
}

pub loop-i-preserved : goal.loop-i-preserved
loop-i-preserved c =
    let less : c.loop-i.i - 1 < count_in c.args.node.now.0 = omega (arith, c.loop-i.invariant.within, c.loop-i-test.true) in
    let is : c.child-child.result ≡ child_read (node_of c.args.node.now.0) (c.loop-i.i - 1) = c.child-child.ensures ∙ child-is c.args.node.now.0 (c.loop-i.i - 1) c.requires.children less in
    record {
      within = omega (arith, c.loop-i.invariant.within);
      high = λ v shows some. next-high v c.args.node.now.0 c.args.visit.now.slot (c.loop-i.i - 1) c.child-child.result c.args.visit.now.place.high shows c.requires.children is some less;
      stack = λ v shows.
          ap stack_of c.in_ok-push.ensures.items
          ∙ (stack-push c.loop-i.stack.items c.visit_to_child-next.result
          ∙ kids-more v (visit_of c.args.visit.now) (visit_of c.visit_to_child-next.result) (c.args.visit.now.place.level - 1) c.loop-i.i (c.loop-i.i - 1) (v.count c.args.visit.now.slot - c.loop-i.i) (v.count c.args.visit.now.slot - (c.loop-i.i - 1)) _ _
          (omega (arith, c.loop-i-test.true)) (omega (arith, c.loop-i-test.true, c.loop-i.invariant.within, shows.count, count-read c.args.node.now.0 c.requires.children))
          (next-kid v c.args.node.now.0 c.args.visit.now (c.loop-i.i - 1) c.child-child.result c.loop-i.high (visit_of c.visit_to_child-next.result) shows is (c.loop-i.invariant.high v shows c.loop-i-test.true) c.visit_to_child-next.ensures)
          (c.loop-i.invariant.stack v shows));
    }
