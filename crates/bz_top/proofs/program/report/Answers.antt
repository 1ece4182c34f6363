use Rattle.std.proofs.Common.{refl, inl, inr, ap, Err}
use Rattle.bz_judge.specs.Held.{IsImageOf}
use Rattle.bz_top.proofs.ReportLemmas.{report_written, report_begun}
use Rattle.bz_top.proofs.program.report.Goals as goal

pub write_report-requires : goal.write_report-requires
write_report-requires g c = rw c.journal.ensures.journal (record { config = c.args.world.config; whole = c.requires.image })

pub returns-in-Ok-clause-wrote : goal.returns-in-Ok-clause-wrote
returns-in-Ok-clause-wrote g c =
    let image : IsImageOf c.args.world.config c.journal.result.now.start = rw c.journal.ensures.journal c.requires.image in
    let wrote = report_written (g.K.Sink.held c.args.sink.now) (g.K.Sink.held c.write_report.new.sink) c.args.world.config c.args.world.log c.journal.result.now c.journal.ensures.journal (c.in-Ok.ensures.ok c.args.world.config image) in
    inl (inl (refl, wrote))

pub returns-in-Err-Write-clause-wrote : goal.returns-in-Err-Write-clause-wrote
returns-in-Err-Write-clause-wrote g c =
    let failed = ap Err c.in-Err-Write.field-0-is in
    let image : IsImageOf c.args.world.config c.journal.result.now.start = rw c.journal.ensures.journal c.requires.image in
    let part = report_begun (g.K.Sink.held c.args.sink.now) (g.K.Sink.held c.write_report.new.sink) c.args.world.config c.args.world.log c.journal.result.now c.journal.ensures.journal (c.in-Err-Write.ensures.part c.args.world.config image failed) in
    inl (inr (refl, c.in-Err-Write.ensures.write failed, part))
