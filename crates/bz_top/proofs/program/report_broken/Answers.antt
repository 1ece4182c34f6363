use Rattle.std.proofs.Common.{inl}
use Rattle.bz_top.specs.Faults.{fault_line, broken_text}
use Rattle.bz_top.specs.Parts.{sunk, Says}
use Rattle.bz_top.proofs.program.report_broken.Goals as goal

pub returns-in-Ok-clause-wrote : goal.returns-in-Ok-clause-wrote
returns-in-Ok-clause-wrote g c =
    let said : Says (sunk (g.K.Sink.held c.args.sink.now) (g.K.Sink.held c.written-status.new.sink) (g.K.Sink.faults c.args.sink.now) (g.K.Sink.faults c.written-status.new.sink)) 3 (fault_line (broken_text c.args.line c.args.rule)) c.written-status.result = rw (c.as_bytes.ensures.value, c.in-Ok.ensures) at c.written-status.ensures in
    inl said
