use Rattle.std.proofs.Common.{◌<◌, arith, sym, ◌∙◌}
use Rattle.bz_node.specs.Reading.{count_in}
use Rattle.bz_node.proofs.Pairs.{room_for, key_new, visible_more, hidden_more}
use Rattle.bz_join.proofs.records.records_of.Goals as goal
use Rattle.bz_join.proofs.records.records_of.Goals.{in-Visible, in_default}

pub insert_in_order-requires-clause-room : goal.insert_in_order-requires-clause-room
insert_in_order-requires-clause-room c =
    let below : c.loop-i.i < count_in c.args.words.now = omega (arith, c.count_of-i-end.ensures.count) in
    room_for c.args.words.now c.loop-i.i c.in-Visible.extent c.loop-i.out c.requires.whole c.requires.readable below (sym c.meta_of.ensures.says ∙ c.in-Visible.is) c.loop-i.invariant.same

pub insert_in_order-requires-clause-new : goal.insert_in_order-requires-clause-new
insert_in_order-requires-clause-new c =
    let below : c.loop-i.i < count_in c.args.words.now = omega (arith, c.count_of-i-end.ensures.count) in
    rw (c.pair_of-key.ensures)
    (key_new c.args.words.now c.loop-i.i c.in-Visible.extent c.loop-i.out c.requires.whole c.requires.readable below (sym c.meta_of.ensures.says ∙ c.in-Visible.is) c.loop-i.invariant.same)

pub loop-i-preserved : goal.loop-i-preserved
loop-i-preserved c =
    let below : c.loop-i.i < count_in c.args.words.now = omega (arith, c.count_of-i-end.ensures.count) in
    elim c.match-meta_of.branch [
      | in-Visible w ↦ (let put = rw w.pair_of-key.ensures at w.insert_in_order.ensures.same in
          record {
            same = rw w.out-is (visible_more c.args.words.now c.loop-i.i w.in-Visible.extent c.loop-i.out w.insert_in_order.new.out c.requires.whole c.requires.readable.node.room below (sym c.meta_of.ensures.says ∙ w.in-Visible.is) c.loop-i.invariant.same put);
            rising = rw w.out-is w.insert_in_order.ensures.rising;
          })
      | in_default w ↦ record {
        same = rw (w.out-is, hidden_more c.args.words.now c.loop-i.i c.requires.whole c.requires.readable.node.room below (λ e at. w.in_default.not-Visible e (c.meta_of.ensures.says ∙ at))) c.loop-i.invariant.same;
        rising = rw w.out-is c.loop-i.invariant.rising;
      }
    ]
