use Rattle.std.proofs.Common.{◌≡◌, sym, ◌∙◌, true, false, arith}
use Rattle.bz_slotted.specs.Page.{page, visible}
use Rattle.bz_slotted.specs.ReadingLaws.{node_of}
use Rattle.bz_judge.proofs.NodeWords.{shown-none, shown-more}
use Rattle.bz_judge.proofs.node.visible_count.Goals as goal
use Rattle.bz_judge.proofs.node.visible_count.Goals.{then-is_visible, else-is_visible}

pub loop-j-init : goal.loop-j-init
loop-j-init c = record { count = sym (shown-none (node_of c.args.node.now.0) (page (node_of c.args.node.now.0)).meta); few = omega arith }

pub loop-j-preserved : goal.loop-j-preserved
loop-j-preserved c =
    elim c.if-is_visible.branch [
      | then-is_visible w ↦
          let t : visible ((page (node_of c.args.node.now.0)).meta c.loop-j.j) ≡ true = sym c.is_visible.ensures ∙ w.if-is_visible.true in
          record { count = omega (arith, w.count-is, c.loop-j.invariant.count, rw t at (shown-more (node_of c.args.node.now.0) (page (node_of c.args.node.now.0)).meta c.loop-j.j)); few = omega (arith, w.count-is, c.loop-j.invariant.few) }
      | else-is_visible w ↦
          let t : visible ((page (node_of c.args.node.now.0)).meta c.loop-j.j) ≡ false = sym c.is_visible.ensures ∙ w.if-is_visible.false in
          record { count = omega (arith, w.count-is, c.loop-j.invariant.count, rw t at (shown-more (node_of c.args.node.now.0) (page (node_of c.args.node.now.0)).meta c.loop-j.j)); few = omega (arith, w.count-is, c.loop-j.invariant.few) }
    ]
