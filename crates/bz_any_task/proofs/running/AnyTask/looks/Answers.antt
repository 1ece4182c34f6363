use Rattle.std.proofs.Common.{◌≤◌, subst, sym}
use Rattle.bz_descend.specs.SeekFacts.{path_reads}
use Rattle.bz_find.specs.Facts.{find_reads}
use Rattle.bz_task.specs.Instant.{durable}
use Rattle.bz_any_task.specs.LookingUp.{LooksUpBriefly}
use Rattle.bz_any_task.proofs.LookingUp.{seeks-briefly, finds-briefly, others-briefly}
use Rattle.bz_any_task.proofs.running.AnyTask.looks.Goals as goal

pub returns-in-Seeking : goal.returns-in-Seeking
returns-in-Seeking c = let a = c.asked-asked in subst LooksUpBriefly (sym c.in-Seeking.is) (seeks-briefly c.in-Seeking.task (λ path s f e. subst (λ z. z ≤ path_reads path) a.ensures.asked (a.ensures.found path s f e)))

pub returns-in-Finding : goal.returns-in-Finding
returns-in-Finding c = let a = c.asked-asked-in-Finding in subst LooksUpBriefly (sym c.in-Finding.is) (finds-briefly c.in-Finding.task (λ view s f e. subst (λ z. z ≤ find_reads (durable s.past.config (s.past.at view.at) view.slot) c.in-Finding.task.key) a.ensures.asked (a.ensures.found view s f e)))

pub returns-in_default : goal.returns-in_default
returns-in_default c = others-briefly c.args.self.now c.in_default.not-Seeking c.in_default.not-Finding
