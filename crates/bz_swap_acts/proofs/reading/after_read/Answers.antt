use Rattle.bz_swap_acts.proofs.reading.after_read.Goals as goal

pub returns-in-Value-clause-local : goal.returns-in-Value-clause-local
returns-in-Value-clause-local c = λ m. rw c.in-Value.is (c.answer.ensures.local m)
