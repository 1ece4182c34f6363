use Rattle.std.specs.Prelude.{◌↔◌, IsTrue, slice_index}
use Rattle.std.proofs.Common.{sym, subst}
use Rattle.bz_mark.specs.declared.marks.Mark.{Mark}
use Rattle.bz_verdict.specs.Pages.{ShowsMark}
use Rattle.bz_verdict.proofs.questions.is_mark_shown.Goals as goal

pub returns-in-End : goal.returns-in-End
returns-in-End c = λ config at calls is holds are.
    subst (λ (mark : Mark). IsTrue c.is_reply_shown.result ↔ ShowsMark config (slice_index c.args.pass.now.words.durable) at c.args.journal.now.pages calls mark) (sym c.in-End.is)
    (c.is_reply_shown.ensures config at calls is holds are)
