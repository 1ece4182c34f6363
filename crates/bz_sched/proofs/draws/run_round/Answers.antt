use Rattle.std.proofs.Common.{ℕ, refl, ap, ◌∙◌}
use Rattle.bz_layout.specs.Addresses.{words_of}
use Rattle.bz_script.specs.Draws.{next_state, draw_of}
use Rattle.bz_sched.specs.Fuses.{with_fuse}
use Rattle.bz_sched.specs.Runs.{point_of}
use Rattle.bz_sched.specs.Turns.{drawn_worker}
use Rattle.bz_sched.proofs.DrawLemmas.{word_is, eviction_round, turn_round, after_turn, draws_eviction, draws_turn}
use Rattle.bz_sched.proofs.OthersLemmas.{list_same}
use Rattle.bz_sched.proofs.draws.run_round.Goals as goal

pub returns-then-draw-eq0-clause-ends : goal.returns-then-draw-eq0-clause-ends
returns-then-draw-eq0-clause-ends c =
    let first = c.next_draw-draw.ensures.draw ∙ ap draw_of c.next_draw-draw.ensures.state in
    let evicted = draws_eviction (next_state c.args.state.now) c.next_draw-draw.result first c.if-draw-eq0.true in
    let second = c.next_draw.ensures.draw ∙ ap draw_of (c.next_draw.ensures.state ∙ ap next_state c.next_draw-draw.ensures.state) in
    let word = word_is c.next_draw.result (draw_of (next_state (next_state c.args.state.now))) c.words.result (words_of c.args.world.now.config) second (c.words.ensures ∙ ap words_of c.config.ensures.config) in
    eviction_round (next_state c.args.state.now) (words_of c.args.world.now.config) _ c.args.world.now (with_fuse c.args.queue.now c.args.fuse.now) c.evict.result c.evict.new.world (with_fuse c.args.queue.now c.args.fuse.now) evicted word (c.evict.ensures.ends (with_fuse c.args.queue.now c.args.fuse.now))

pub returns-else-draw-eq0-clause-ends : goal.returns-else-draw-eq0-clause-ends
returns-else-draw-eq0-clause-ends c =
    let first = c.next_draw-draw.ensures.draw ∙ ap draw_of c.next_draw-draw.ensures.state in
    let turned = draws_turn (next_state c.args.state.now) c.next_draw-draw.result first c.if-draw-eq0.false in
    let drawn = ap (λ (draw : ℕ). drawn_worker draw (point_of c.args.world.now c.args.queue.now)) first in
    turn_round (next_state c.args.state.now) (words_of c.args.world.now.config) (drawn_worker c.next_draw-draw.result (point_of c.args.world.now c.args.queue.now)) c.args.world.now (with_fuse c.args.queue.now c.args.fuse.now) c.take_drawn.result c.take_drawn.new.world (with_fuse c.take_drawn.new.queue c.take_drawn.new.fuse) turned drawn c.take_drawn.ensures.ends

pub returns-else-draw-eq0-clause-state : goal.returns-else-draw-eq0-clause-state
returns-else-draw-eq0-clause-state c =
    let first = c.next_draw-draw.ensures.draw ∙ ap draw_of c.next_draw-draw.ensures.state in
    c.next_draw-draw.ensures.state ∙ after_turn (next_state c.args.state.now) (draws_turn (next_state c.args.state.now) c.next_draw-draw.result first c.if-draw-eq0.false)

pub returns-then-draw-eq0-clause-busy : goal.returns-then-draw-eq0-clause-busy
returns-then-draw-eq0-clause-busy c = c.requires.busy ∙ list_same (point_of c.args.world.now c.args.queue.now) (point_of c.evict.new.world c.args.queue.now) c.evict.ensures.opens refl
