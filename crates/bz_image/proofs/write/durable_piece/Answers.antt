use Rattle.std.proofs.Common.{◌∙◌, arith}
use Rattle.std.proofs.lemmas.List.{length-set}
use Rattle.bz_image.specs.Worlds.{durable_words}
use Rattle.bz_image.proofs.DurableLemmas.{durable_long, piece_more}
use Rattle.bz_image.proofs.write.durable_piece.Goals as goal

pub loop-i-preserved : goal.loop-i-preserved
loop-i-preserved c =
    let long = durable_long c.args.world.now c.journal-journal.ensures.sound in (
      length-set c.loop-i.piece c.loop-i.i c.durable.result ∙ c.loop-i.invariant.0,
      piece_more c.loop-i.piece (durable_words c.args.world.now) c.args.first c.loop-i.i c.durable.result (omega (arith, c.loop-i.invariant.0, c.loop-i-test.true, c.requires.fits)) (omega (arith, long, c.loop-i-test.true, c.requires.there)) c.durable.ensures
          c.loop-i.invariant.1,
    )
