use Rattle.std.proofs.Common.{refl, inl, inr, ap, Err}
use Rattle.bz_judge.specs.Held.{IsImageOf}
use Rattle.bz_text.specs.Report.{report_of}
use Rattle.bz_top.specs.Faults.{fault_line, limit_text}
use Rattle.bz_top.specs.Parts.{sunk, Says}
use Rattle.bz_top.proofs.ReportLemmas.{report_written, report_begun}
use Rattle.bz_top.proofs.WriteLemmas.{says_both, front_of_both}
use Rattle.bz_top.proofs.program.report_limit.Goals as goal

pub write_report-requires : goal.write_report-requires
write_report-requires g c = rw c.journal.ensures.journal (record { config = c.args.world.config; whole = c.requires.image })

pub returns-in-Ok-clause-wrote : goal.returns-in-Ok-clause-wrote
returns-in-Ok-clause-wrote g c =
    let image : IsImageOf c.args.world.config c.journal.result.now.start = rw c.journal.ensures.journal c.requires.image in
    let first = report_written (g.K.Sink.held c.args.sink.now) (g.K.Sink.held c.write_report.new.sink) c.args.world.config c.args.world.log c.journal.result.now c.journal.ensures.journal (c.in-Ok.ensures.ok c.args.world.config image) in
    let second : Says (sunk (g.K.Sink.held c.write_report.new.sink) (g.K.Sink.held c.written-status.new.sink) (g.K.Sink.faults c.write_report.new.sink) (g.K.Sink.faults c.written-status.new.sink)) 5 (fault_line (limit_text c.args.which)) c.written-status.result = rw c.limit_line.ensures at c.written-status.ensures in
    inl (says_both _ _ _ _ _ _ 5 c.written-status.result (report_of c.args.world.config c.args.world.log) (fault_line (limit_text c.args.which)) first c.in-Ok.ensures.later second)

pub returns-in-Err-Write-clause-wrote : goal.returns-in-Err-Write-clause-wrote
returns-in-Err-Write-clause-wrote g c =
    let failed = ap Err c.in-Err-Write.field-0-is in
    let image : IsImageOf c.args.world.config c.journal.result.now.start = rw c.journal.ensures.journal c.requires.image in
    let part = report_begun (g.K.Sink.held c.args.sink.now) (g.K.Sink.held c.write_report.new.sink) c.args.world.config c.args.world.log c.journal.result.now c.journal.ensures.journal (c.in-Err-Write.ensures.part c.args.world.config image failed) in
    inl (inr (refl, c.in-Err-Write.ensures.write failed, front_of_both _ _ (report_of c.args.world.config c.args.world.log) (fault_line (limit_text c.args.which)) part))
