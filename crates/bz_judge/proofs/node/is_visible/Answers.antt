use Rattle.std.proofs.Common.{ap, ◌∙◌}
use Rattle.bz_slotted.specs.Page.{visible}
use Rattle.bz_slotted.proofs.Unpacking.{meta-some}
use Rattle.bz_judge.proofs.NodeWords.{unread-hidden}
use Rattle.bz_judge.proofs.node.is_visible.Goals as goal

pub returns-in-Some : goal.returns-in-Some
returns-in-Some c = c.is_shown.ensures ∙ ap visible (meta-some c.in-Some.meta c.args.word c.in-Some.ensures.word.0 c.in-Some.ensures.word.1)

pub returns-in-None : goal.returns-in-None
returns-in-None c = unread-hidden c.args.word (λ h. let t = c.in-None.ensures.lawful.1 h in cc)
