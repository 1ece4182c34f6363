use Rattle.std.proofs.Common.{◌≡◌, true, ap, ◌∙◌, rules}
use Rattle.bz_script.specs.Draws.{draw_of}
use Rattle.bz_qsched.specs.Cuts.{differs_at}
use Rattle.bz_qsched.proofs.PassLemmas.{same_words, other_words, passed_same, passed_undrawn, passed_evicted, undrawn_is, drawn_is, behind_same, behind_next}
use Rattle.bz_qsched.proofs.cut.pass_word.Goals as goal

pub returns-then-not-differs-clause-passed : goal.returns-then-not-differs-clause-passed
returns-then-not-differs-clause-passed c = λ is. passed_same c.args.world.now c.args.a c.args.state.now (same_words _ _ (λ other. search (rules, c.if-not-differs.ensures, other)))

pub returns-then-not-differs-clause-state : goal.returns-then-not-differs-clause-state
returns-then-not-differs-clause-state c = λ is. behind_same _ c.args.state.now (same_words _ _ (λ other. search (rules, c.if-not-differs.ensures, other)))

pub returns-then-next_draw-lt-EVICTED_FROM-clause-passed : goal.returns-then-next_draw-lt-EVICTED_FROM-clause-passed
returns-then-next_draw-lt-EVICTED_FROM-clause-passed c = λ is.
    let differs : differs_at c.args.world.now.log.start c.args.world.now.log.past c.args.a ≡ true = other_words _ _ (search (rules, c.differs.ensures, c.if-not-differs.false)) in
    let drawn = c.next_draw.ensures.draw ∙ ap draw_of c.next_draw.ensures.state in
    passed_undrawn c.args.world.now c.args.a c.args.state.now differs (undrawn_is c.next_draw.result _ drawn c.if-next_draw-lt-EVICTED_FROM.true)

pub returns-then-next_draw-lt-EVICTED_FROM-clause-state : goal.returns-then-next_draw-lt-EVICTED_FROM-clause-state
returns-then-next_draw-lt-EVICTED_FROM-clause-state c = λ is.
    let differs : differs_at c.args.world.now.log.start c.args.world.now.log.past c.args.a ≡ true = other_words _ _ (search (rules, c.differs.ensures, c.if-not-differs.false)) in
    c.next_draw.ensures.state ∙ behind_next _ c.args.state.now differs

pub returns-clause-passed : goal.returns-clause-passed
returns-clause-passed c = λ is.
    let differs : differs_at c.args.world.now.log.start c.args.world.now.log.past c.args.a ≡ true = other_words _ _ (search (rules, c.differs.ensures, c.if-not-differs.false)) in
    let drawn = c.next_draw.ensures.draw ∙ ap draw_of c.next_draw.ensures.state in
    passed_evicted c.args.world.now c.args.a c.args.state.now c.evict_word.new.world differs (drawn_is c.next_draw.result _ drawn c.if-next_draw-lt-EVICTED_FROM.false) (c.evict_word.ensures.evicted is)

pub returns-clause-state : goal.returns-clause-state
returns-clause-state c = λ is.
    let differs : differs_at c.args.world.now.log.start c.args.world.now.log.past c.args.a ≡ true = other_words _ _ (search (rules, c.differs.ensures, c.if-not-differs.false)) in
    c.next_draw.ensures.state ∙ behind_next _ c.args.state.now differs

pub returns-clause-stopped : goal.returns-clause-stopped
returns-clause-stopped c = λ is.
    let drawn = c.next_draw.ensures.draw ∙ ap draw_of c.next_draw.ensures.state in
    record {
      refused = c.evict_word.ensures.refused is;
      differs = other_words _ _ (search (rules, c.differs.ensures, c.if-not-differs.false));
      drawn = drawn_is c.next_draw.result _ drawn c.if-next_draw-lt-EVICTED_FROM.false;
    }
