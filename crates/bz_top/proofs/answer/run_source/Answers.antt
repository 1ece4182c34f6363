use Rattle.std.proofs.Common.{inl, inr, ap, Err}
use Rattle.bz_top.proofs.AnswerLemmas.{source_answered}
use Rattle.bz_top.proofs.answer.run_source.Goals as goal

pub returns-in-Ok : goal.returns-in-Ok
returns-in-Ok g c = source_answered _ _ _ _ c.in-Ok.bytes.items _ c.in-Ok.ensures.all c.in-Ok.ensures.short (rw c.deref.ensures.value at c.run_bytes.ensures)

pub returns-in-Err-Failed : goal.returns-in-Err-Failed
returns-in-Err-Failed g c = inl (record { rose = c.in-Err-Failed.ensures.failed (ap Err c.in-Err-Failed.field-0-is); no_lab = c.refuse.ensures.lab; said = c.refuse.ensures.wrote })

pub returns-in-Err-TooLong : goal.returns-in-Err-TooLong
returns-in-Err-TooLong g c =
    inr (inl (record { more = c.in-Err-TooLong.ensures.too_long (ap Err c.in-Err-TooLong.field-0-is); no_lab = c.refuse-in-Err-TooLong.ensures.lab; said = c.refuse-in-Err-TooLong.ensures.wrote }))

pub returns : goal.returns
returns g c = inr (inr (inr (record { no_lab = c.no_memory.ensures.lab; said = c.no_memory.ensures.wrote })))
