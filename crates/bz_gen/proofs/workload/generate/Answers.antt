use Rattle.std.proofs.Common.{sym, ◌∙◌, arith}
use Rattle.bz_gen.proofs.Steps.{state_after-more, items_drawn-more, items_drawn-none, state_after-none}
use Rattle.bz_gen.proofs.workload.generate.Goals as goal

pub loop-done-init : goal.loop-done-init
loop-done-init c = record {
  so_far = c.in_ok-items.ensures.items ∙ sym (items_drawn-none c.args.seed c.args.calls c.args.workers);
  room = omega (arith, c.in_ok-items.ensures.room);
  state = sym (state_after-none c.args.seed);
}

pub loop-done-preserved : goal.loop-done-preserved
loop-done-preserved c =
    let more = items_drawn-more c.args.seed c.args.calls c.args.workers c.loop-done.done in
    let next = state_after-more c.args.seed c.loop-done.done in
    let before = c.loop-done.invariant in
    let drawn = c.draw_call-draws.ensures.draws in
    let moved = c.draw_call-draws.ensures.state in
    let item = c.item_of.ensures in
    let pushed = c.push.ensures.items in
    record {
      so_far = cc;
      room = omega (arith, c.push.ensures.room);
      state = cc;
    }
