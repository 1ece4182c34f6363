use Rattle.std.specs.Prelude.{slice_index}
use Rattle.bz_mark.specs.declared.marks.Mark.{Mark}
use Rattle.bz_verdict.specs.Pages.{ShowsMark}
use Rattle.bz_verdict.proofs.Asking.{question_kept, question_struck}
use Rattle.bz_verdict.proofs.questions.answer.Goals as goal

pub returns-then-shown-clause-shown : goal.returns-then-shown-clause-shown
returns-then-shown-clause-shown c = λ config at calls outer is holds are e mark asked there.
    question_kept c.args.journal.now.past c.args.question e mark c.mark-mark.result (λ (m : Mark). ShowsMark config (slice_index c.args.pass.now.words.durable) at c.args.journal.now.pages calls m) c.is_mark_shown-shown.result asked there
    c.mark-mark.ensures (c.is_mark_shown-shown.ensures config at calls is holds are) c.if-shown.true

pub returns-else-shown-clause-shown : goal.returns-else-shown-clause-shown
returns-else-shown-clause-shown c = λ config at calls outer is holds are e mark asked there.
    question_struck c.args.journal.now.past c.args.question e mark c.mark-mark.result (λ (m : Mark). ShowsMark config (slice_index c.args.pass.now.words.durable) at c.args.journal.now.pages calls m) c.is_mark_shown-shown.result asked there
    c.mark-mark.ensures (c.is_mark_shown-shown.ensures config at calls is holds are) c.if-shown.false
