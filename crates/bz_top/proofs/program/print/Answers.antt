use Rattle.bz_cli.specs.declared.command.Command.TheVariants.{Run, Dump, Load, Queue, Work}
use Rattle.bz_top.specs.Endings.{printed}
use Rattle.bz_top.specs.Parts.{sunk}
use Rattle.bz_top.proofs.RunLemmas.{prints}
use Rattle.bz_top.proofs.program.print.Goals as goal

pub returns-in-Run-clause-wrote : goal.returns-in-Run-clause-wrote
returns-in-Run-clause-wrote g c =
    rw c.in-Run.is
    (prints Run c.args.world (sunk (g.K.Sink.held c.args.sink.now) (g.K.Sink.held c.report.new.sink) (g.K.Sink.faults c.args.sink.now) (g.K.Sink.faults c.report.new.sink)) 0 c.report.result.status (printed Run c.args.world) c.report.ensures.wrote)

pub returns-in-Load-clause-wrote : goal.returns-in-Load-clause-wrote
returns-in-Load-clause-wrote g c =
    rw c.in-Load.is
    (prints Load c.args.world (sunk (g.K.Sink.held c.args.sink.now) (g.K.Sink.held c.report-in-Load.new.sink) (g.K.Sink.faults c.args.sink.now) (g.K.Sink.faults c.report-in-Load.new.sink)) 0 c.report-in-Load.result.status (printed Load c.args.world) c.report-in-Load.ensures.wrote)

pub returns-in-Queue-clause-wrote : goal.returns-in-Queue-clause-wrote
returns-in-Queue-clause-wrote g c =
    rw c.in-Queue.is
    (prints Queue c.args.world (sunk (g.K.Sink.held c.args.sink.now) (g.K.Sink.held c.report-in-Queue.new.sink) (g.K.Sink.faults c.args.sink.now) (g.K.Sink.faults c.report-in-Queue.new.sink)) 0 c.report-in-Queue.result.status (printed Queue c.args.world) c.report-in-Queue.ensures.wrote)

pub returns-in-Dump-clause-wrote : goal.returns-in-Dump-clause-wrote
returns-in-Dump-clause-wrote g c =
    rw c.in-Dump.is
    (prints Dump c.args.world (sunk (g.K.Sink.held c.args.sink.now) (g.K.Sink.held c.dump.new.sink) (g.K.Sink.faults c.args.sink.now) (g.K.Sink.faults c.dump.new.sink)) 0 c.dump.result.status (printed Dump c.args.world) c.dump.ensures.wrote)

pub returns-in-Work-clause-wrote : goal.returns-in-Work-clause-wrote
returns-in-Work-clause-wrote g c =
    rw c.in-Work.is
    (prints (Work c.in-Work.seed c.in-Work.calls c.in-Work.workers) c.args.world (sunk (g.K.Sink.held c.args.sink.now) (g.K.Sink.held c.summarize.new.sink) (g.K.Sink.faults c.args.sink.now) (g.K.Sink.faults c.summarize.new.sink)) 0 c.summarize.result.status (printed (Work c.in-Work.seed c.in-Work.calls c.in-Work.workers) c.args.world) c.summarize.ensures.wrote)

pub returns-in-Trace-clause-wrote : goal.returns-in-Trace-clause-wrote
returns-in-Trace-clause-wrote g c = rw c.in-Trace.is c.trace.ensures.wrote
