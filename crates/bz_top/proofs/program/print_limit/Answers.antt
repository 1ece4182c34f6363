use Rattle.std.proofs.Common.{◌++◌}
use Rattle.bz_cli.specs.declared.command.Command.TheVariants.{Run, Dump, Load, Trace, Queue, Work}
use Rattle.bz_top.specs.Endings.{printed_before}
use Rattle.bz_top.specs.Faults.{fault_line, limit_text}
use Rattle.bz_top.specs.Parts.{sunk}
use Rattle.bz_top.proofs.RunLemmas.{prints}
use Rattle.bz_top.proofs.program.print_limit.Goals as goal

pub returns-in-Run-clause-wrote : goal.returns-in-Run-clause-wrote
returns-in-Run-clause-wrote g c =
    rw c.in-Run.is
    (prints Run c.args.world (sunk (g.K.Sink.held c.args.sink.now) (g.K.Sink.held c.report_limit.new.sink) (g.K.Sink.faults c.args.sink.now) (g.K.Sink.faults c.report_limit.new.sink)) 5 c.report_limit.result.status (printed_before Run c.args.world ++ fault_line (limit_text c.args.which)) c.report_limit.ensures.wrote)

pub returns-in-Load-clause-wrote : goal.returns-in-Load-clause-wrote
returns-in-Load-clause-wrote g c =
    rw c.in-Load.is
    (prints Load c.args.world (sunk (g.K.Sink.held c.args.sink.now) (g.K.Sink.held c.report_limit-in-Load.new.sink) (g.K.Sink.faults c.args.sink.now) (g.K.Sink.faults c.report_limit-in-Load.new.sink)) 5 c.report_limit-in-Load.result.status (printed_before Load c.args.world ++ fault_line (limit_text c.args.which)) c.report_limit-in-Load.ensures.wrote)

pub returns-in-Queue-clause-wrote : goal.returns-in-Queue-clause-wrote
returns-in-Queue-clause-wrote g c =
    rw c.in-Queue.is
    (prints Queue c.args.world (sunk (g.K.Sink.held c.args.sink.now) (g.K.Sink.held c.report_limit-in-Queue.new.sink) (g.K.Sink.faults c.args.sink.now) (g.K.Sink.faults c.report_limit-in-Queue.new.sink)) 5 c.report_limit-in-Queue.result.status (printed_before Queue c.args.world ++ fault_line (limit_text c.args.which)) c.report_limit-in-Queue.ensures.wrote)

pub returns-in-Dump-clause-wrote : goal.returns-in-Dump-clause-wrote
returns-in-Dump-clause-wrote g c =
    rw c.in-Dump.is
    (prints Dump c.args.world (sunk (g.K.Sink.held c.args.sink.now) (g.K.Sink.held c.tell_limit.new.sink) (g.K.Sink.faults c.args.sink.now) (g.K.Sink.faults c.tell_limit.new.sink)) 5 c.tell_limit.result.status (printed_before Dump c.args.world ++ fault_line (limit_text c.args.which)) c.tell_limit.ensures.wrote)

pub returns-in-Trace-clause-wrote : goal.returns-in-Trace-clause-wrote
returns-in-Trace-clause-wrote g c =
    rw c.in-Trace.is
    (prints Trace c.args.world (sunk (g.K.Sink.held c.args.sink.now) (g.K.Sink.held c.tell_limit-in-Trace.new.sink) (g.K.Sink.faults c.args.sink.now) (g.K.Sink.faults c.tell_limit-in-Trace.new.sink)) 5 c.tell_limit-in-Trace.result.status (printed_before Trace c.args.world ++ fault_line (limit_text c.args.which)) c.tell_limit-in-Trace.ensures.wrote)

pub returns-in-Work-clause-wrote : goal.returns-in-Work-clause-wrote
returns-in-Work-clause-wrote g c =
    rw c.in-Work.is
    (prints (Work c.in-Work.seed c.in-Work.calls c.in-Work.workers) c.args.world (sunk (g.K.Sink.held c.args.sink.now) (g.K.Sink.held c.tell_limit-in-Work.new.sink) (g.K.Sink.faults c.args.sink.now) (g.K.Sink.faults c.tell_limit-in-Work.new.sink)) 5 c.tell_limit-in-Work.result.status (printed_before (Work c.in-Work.seed c.in-Work.calls c.in-Work.workers) c.args.world ++ fault_line (limit_text c.args.which)) c.tell_limit-in-Work.ensures.wrote)
