use Rattle.std.proofs.Common.{refl, inl, inr, ap, Err}
use Rattle.bz_top.proofs.program.summarize.Goals as goal

pub write_summary-requires : goal.write_summary-requires
write_summary-requires g c = rw c.journal.ensures.journal (record { config = c.args.world.config; whole = c.requires.image })

pub returns-in-Ok-clause-wrote : goal.returns-in-Ok-clause-wrote
returns-in-Ok-clause-wrote g c = inl (inl (refl, (rw c.journal.ensures.journal at c.in-Ok.ensures.ok) c.args.world.config c.requires.image))

pub returns-in-Err-Write-clause-wrote : goal.returns-in-Err-Write-clause-wrote
returns-in-Err-Write-clause-wrote g c =
    let failed = ap Err c.in-Err-Write.field-0-is in
    inl (inr (refl, c.in-Err-Write.ensures.write failed, (rw c.journal.ensures.journal at c.in-Err-Write.ensures.part) c.args.world.config c.requires.image failed))
