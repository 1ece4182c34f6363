use Rattle.std.proofs.Common.{refl, inl, inr, ap, Err}
use Rattle.bz_lines.specs.Lines.{lines_of, text_of}
use Rattle.bz_top.proofs.TraceLemmas.{lines_written, lines_begun, lines_left}
use Rattle.bz_top.proofs.trace.trace.Goals as goal

pub returns-in-Ok-clause-wrote : goal.returns-in-Ok-clause-wrote
returns-in-Ok-clause-wrote g c = inl (inl (refl, lines_written _ _ _ _ _ _ c.config-config.ensures.config c.journal.ensures.journal c.in-Ok.ensures.all))

pub returns-in-Err-Write-clause-wrote : goal.returns-in-Err-Write-clause-wrote
returns-in-Err-Write-clause-wrote g c =
    let failed = ap Err c.in-Err-Write.field-0-is in
    inl (inr (refl, c.in-Err-Write.ensures.rose failed, lines_begun _ _ _ _ _ _ c.config-config.ensures.config c.journal.ensures.journal (c.in-Err-Write.ensures.front failed)))

pub returns-in-Err-Memory-clause-wrote : goal.returns-in-Err-Memory-clause-wrote
returns-in-Err-Memory-clause-wrote g c =
    let failed = ap Err c.in-Err-Memory.field-0-is in
    inr (lines_left c.args.world _ _ _ _ _ _ _ _ _ c.config-config.ensures.config c.journal.ensures.journal (c.in-Err-Memory.ensures.whole failed) c.in-Err-Memory.ensures.later c.give_up.ensures.wrote)
