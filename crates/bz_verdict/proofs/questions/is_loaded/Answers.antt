use Rattle.std.proofs.Common.{arith}
use Rattle.bz_check.proofs.Following.{false_true}
use Rattle.bz_verdict.proofs.Asking.{not_at_first, load_decides}
use Rattle.bz_verdict.proofs.questions.is_loaded.Goals as goal

pub returns-then-at-eq0 : goal.returns-then-at-eq0
returns-then-at-eq0 c = (λ h. absurd (false_true h), λ h. absurd (not_at_first c.args.w c.args.at c.args.journal.now.past c.if-at-eq0.true h))

pub returns : goal.returns
returns c = load_decides c.args.w c.args.at c.args.journal.now.past c.mark-mark.result c.is_load.result (omega (arith, c.if-at-eq0.false)) c.requires c.mark-mark.ensures c.is_load.ensures
