use Rattle.std.proofs.Common.{ℕ, List, take_all, subst, ap, ◌∙◌, arith}
use Rattle.std.specs.Io.KnownBytes.{Appends}
use Rattle.bz_io.specs.Transfers.{GrewByFront}
use Rattle.bz_image.specs.Form.{bytes_of_words}
use Rattle.bz_image.specs.Worlds.{durable_words}
use Rattle.bz_layout.specs.Addresses.{words_of}
use Rattle.bz_image.proofs.DurableLemmas.{durable_long}
use Rattle.bz_image.proofs.Pieces.{appends_piece, grew_piece}
use Rattle.bz_image.proofs.write.write_durable.Goals as goal

pub loop-done-preserved : goal.loop-done-preserved
loop-done-preserved g c =
    let wrote = subst (λ (ws : List ℕ). Appends (g.K.Sink.held c.loop-done.sink) (g.K.Sink.held c.write_piece.new.sink) (bytes_of_words ws)) c.durable_piece-piece.ensures c.in-Ok.ensures.all in (
      omega (arith, c.min-count.ensures, c.loop-done-test.true),
      appends_piece _ _ _ c.loop-done.done c.min-count.result _ (durable_words c.args.world.now) (omega arith) c.loop-done.invariant.1 wrote,
      omega (arith, c.loop-done.invariant.2, c.in-Ok.ensures.cause.later),
    )

pub returns-in-Err-clause-front : goal.returns-in-Err-clause-front
returns-in-Err-clause-front g c =
    let part = subst (λ (ws : List ℕ). GrewByFront (g.K.Sink.held c.loop-done.sink) (g.K.Sink.held c.write_piece.new.sink) (bytes_of_words ws)) c.durable_piece-piece.ensures c.in-Err.ensures.front in
    grew_piece _ _ _ c.loop-done.done c.min-count.result (durable_words c.args.world.now) c.loop-done.invariant.1 part

pub returns-clause-all : goal.returns-clause-all
returns-clause-all g c =
    let long = durable_long c.args.world.now c.journal-journal.ensures.sound in
    let size = c.words-size.ensures ∙ ap words_of c.config.ensures.config in
    let all = take_all c.loop-done.done (durable_words c.args.world.now) (omega (arith, long, size, c.loop-done-test.false)) in
    subst (λ (ws : List ℕ). Appends (g.K.Sink.held c.args.sink.now) (g.K.Sink.held c.loop-done.sink) (bytes_of_words ws)) all c.loop-done.invariant.1
