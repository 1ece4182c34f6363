use Rattle.std.specs.Io.KnownBytes.{Appends}
use Rattle.bz_io.specs.Transfers.{GrewByFront}
use Rattle.bz_image.specs.Form.{bytes_of_head, bytes_of_words}
use Rattle.bz_image.specs.Worlds.{durable_words}
use Rattle.bz_image.proofs.Pieces.{grew_of_more, ok_behind, err_behind}
use Rattle.bz_image.proofs.write.write_image.Goals as goal

pub returns-in-Ok-clause-all : goal.returns-in-Ok-clause-all
returns-in-Ok-clause-all g c =
    let head : Appends (g.K.Sink.held c.args.sink.now) (g.K.Sink.held c.write_all.new.sink) (bytes_of_head c.args.world.now.config.nodes c.args.world.now.config.swaps) =
    rw (c.head_bytes-head.ensures, c.config-config.ensures.config) at c.in-Ok.ensures.all in
    ok_behind _ _ _ (bytes_of_head c.args.world.now.config.nodes c.args.world.now.config.swaps) (bytes_of_words (durable_words c.args.world.now)) c.write_durable.result head c.write_durable.ensures.all

pub returns-in-Ok-clause-front : goal.returns-in-Ok-clause-front
returns-in-Ok-clause-front g c =
    let head : Appends (g.K.Sink.held c.args.sink.now) (g.K.Sink.held c.write_all.new.sink) (bytes_of_head c.args.world.now.config.nodes c.args.world.now.config.swaps) =
    rw (c.head_bytes-head.ensures, c.config-config.ensures.config) at c.in-Ok.ensures.all in
    err_behind _ _ _ (bytes_of_head c.args.world.now.config.nodes c.args.world.now.config.swaps) (bytes_of_words (durable_words c.args.world.now)) c.write_durable.result head c.write_durable.ensures.front

pub returns-in-Err-clause-front : goal.returns-in-Err-clause-front
returns-in-Err-clause-front g c =
    let part : GrewByFront (g.K.Sink.held c.args.sink.now) (g.K.Sink.held c.write_all.new.sink) (bytes_of_head c.args.world.now.config.nodes c.args.world.now.config.swaps) =
    rw (c.head_bytes-head.ensures, c.config-config.ensures.config) at c.in-Err.ensures.front in
    grew_of_more _ _ (bytes_of_head c.args.world.now.config.nodes c.args.world.now.config.swaps) (bytes_of_words (durable_words c.args.world.now)) part
