use Rattle.std.proofs.Common.{sym}
use Rattle.std.proofs.lemmas.Result.{err_from_is_err_and}
use Rattle.bz_script.proofs.TurnWords.{one_more, word_fault, all_read}
use Rattle.bz_script.proofs.run_forms.read_turns.Goals as goal

pub loop-text-preserved : goal.loop-text-preserved
loop-text-preserved c = one_more c.loop-text.turns.items c.push.new.self.items c.loop-text.text-index c.args.words.now _ c.in_ok-turn.turn c.loop-text-test.true (sym c.in_ok-turn.ensures) c.in_ok-push.ensures.items c.loop-text.invariant

pub returns-in_err-turn : goal.returns-in_err-turn
returns-in_err-turn c =
    let p = err_from_is_err_and c.from_residual-in_err-turn.result c.from_residual-in_err-turn.ensures.1 in
    rw (p.1, p.2) (word_fault c.loop-text.turns.items c.loop-text.text-index c.args.words.now _ _ c.loop-text-test.true (sym c.in_err-turn.ensures) c.loop-text.invariant)

pub returns : goal.returns
returns c = rw c.of.ensures (all_read c.loop-text.turns.items c.loop-text.text-index c.args.words.now c.loop-text-test.false c.loop-text.invariant)
