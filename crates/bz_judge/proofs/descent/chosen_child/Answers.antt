use Rattle.std.proofs.Common.{◌≡◌, ◌-◌, ap, sym, ◌∙◌, arith}
use Rattle.bz_tree.specs.View.{high_at}
use Rattle.bz_tree.specs.Walk.{kid}
use Rattle.bz_slotted.specs.ReadingLaws.{node_of, child_read}
use Rattle.bz_judge.specs.Inside.Stacks.{visit_of}
use Rattle.bz_judge.proofs.Children.{child-is, next-kid, next-high, last-high}
use Rattle.bz_judge.proofs.Descending.{pick-down, pick-here, pick-first, pick-last, not-before, before}
use Rattle.bz_judge.proofs.descent.chosen_child.Goals as goal

pub loop-i-init : goal.loop-i-init
loop-i-init c = record {
  within = omega (arith, c.child_count-i.ensures, c.requires.some);
  high = λ v shows. last-high v c.args.node.now.0 c.args.visit.now.slot _ c.args.visit.now.place.high shows c.requires.children c.child_count-i.ensures (omega (arith, c.child_count-i.ensures, c.requires.some));
  way = λ v shows. pick-last v c.args.node.now.0 c.args.visit.now.slot c.args.key.now _ shows c.requires.children (omega (arith, c.child_count-i.ensures));
}

pub loop-i-preserved : goal.loop-i-preserved
loop-i-preserved c =
    let is : c.child-child.result ≡ child_read (node_of c.args.node.now.0) c.loop-i.i = c.child-child.ensures ∙ child-is c.args.node.now.0 c.loop-i.i c.requires.children c.loop-i.invariant.within in
    record {
      within = omega (arith, c.loop-i.invariant.within);
      high = λ v shows. next-high v c.args.node.now.0 c.args.visit.now.slot c.loop-i.i c.child-child.result c.args.visit.now.place.high shows c.requires.children is c.loop-i-test.true c.loop-i.invariant.within;
      way = λ v shows.
          c.loop-i.invariant.way v shows
          ∙ pick-down v c.args.visit.now.slot c.args.key.now c.loop-i.i c.loop-i-test.true
          (before v c.args.node.now.0 c.args.visit.now.slot c.loop-i.i c.args.key.now c.child-child.result c.reaches-reached.result shows is c.loop-i-test.true c.reaches-reached.ensures c.if-reached.false);
    }

pub returns-then-reached : goal.returns-then-reached
returns-then-reached c =
    let is : c.child-child.result ≡ child_read (node_of c.args.node.now.0) c.loop-i.i = c.child-child.ensures ∙ child-is c.args.node.now.0 c.loop-i.i c.requires.children c.loop-i.invariant.within in
    λ v shows.
    next-kid v c.args.node.now.0 c.args.visit.now c.loop-i.i c.child-child.result c.loop-i.high (visit_of c.visit_to_child.result) shows is (c.loop-i.invariant.high v shows) c.visit_to_child.ensures
    ∙ ap (kid v (visit_of c.args.visit.now) (c.args.visit.now.place.level - 1))
    (sym (c.loop-i.invariant.way v shows
    ∙ pick-here v c.args.visit.now.slot c.args.key.now c.loop-i.i c.loop-i-test.true
    (not-before v c.args.node.now.0 c.args.visit.now.slot c.loop-i.i c.args.key.now c.child-child.result c.reaches-reached.result shows is c.loop-i-test.true c.reaches-reached.ensures c.if-reached.true)))

pub returns : goal.returns
returns c =
    let none : c.loop-i.i ≡ 0 = omega (arith, c.loop-i-test.false) in
    let is : c.child-first.result ≡ child_read (node_of c.args.node.now.0) 0 = c.child-first.ensures ∙ child-is c.args.node.now.0 0 c.requires.children c.requires.some in
    λ v shows.
    next-kid v c.args.node.now.0 c.args.visit.now 0 c.child-first.result c.loop-i.high (visit_of c.visit_to_child-2.result) shows is
    (c.loop-i.invariant.high v shows ∙ ap (λ i. high_at v c.args.visit.now.slot c.args.visit.now.place.high i) none) c.visit_to_child-2.ensures
    ∙ ap (kid v (visit_of c.args.visit.now) (c.args.visit.now.place.level - 1)) (sym (c.loop-i.invariant.way v shows ∙ pick-first v c.args.visit.now.slot c.args.key.now c.loop-i.i none))
