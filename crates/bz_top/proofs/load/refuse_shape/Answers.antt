use Rattle.std.proofs.Common.{inl}
use Rattle.bz_top.specs.Faults.{fault_line, shape_text}
use Rattle.bz_top.specs.Parts.{sunk, Says}
use Rattle.bz_top.proofs.load.refuse_shape.Goals as goal

pub returns-in-Ok-clause-wrote : goal.returns-in-Ok-clause-wrote
returns-in-Ok-clause-wrote g c =
    let said : Says (sunk (g.K.Sink.held c.args.sink.now) (g.K.Sink.held c.written-status.new.sink) (g.K.Sink.faults c.args.sink.now) (g.K.Sink.faults c.written-status.new.sink)) 6 (fault_line (shape_text c.args.fault)) c.written-status.result = rw (c.as_bytes.ensures.value, c.in-Ok.ensures) at c.written-status.ensures in
    inl said
