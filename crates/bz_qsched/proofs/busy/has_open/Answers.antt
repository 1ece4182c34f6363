use Rattle.std.proofs.Common.{sym, ◌∙◌}
use Rattle.bz_qsched.proofs.ReadyLemmas.{told_open, told_none}
use Rattle.bz_qsched.proofs.busy.has_open.Goals as goal

pub returns-in-Some : goal.returns-in-Some
returns-in-Some c = told_open _ _ (sym c.in-Some.is ∙ c.open_call.ensures)

pub returns-in-None : goal.returns-in-None
returns-in-None c = told_none _ (sym c.in-None.is ∙ c.open_call.ensures)
