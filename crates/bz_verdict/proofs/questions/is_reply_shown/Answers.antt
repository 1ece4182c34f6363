use Rattle.std.specs.Prelude.{◌↔◌, IsTrue, slice_index}
use Rattle.std.proofs.Common.{sym, subst}
use Rattle.bz_call.specs.declared.replies.Reply.{Reply}
use Rattle.bz_verdict.specs.Pages.{ShowsReply}
use Rattle.bz_verdict.proofs.questions.is_reply_shown.Goals as goal

pub returns-in-Page : goal.returns-in-Page
returns-in-Page c = λ config at calls is holds are.
    subst (λ (reply : Reply). IsTrue c.is_number_shown.result ↔ ShowsReply config (slice_index c.args.pass.now.words.durable) at c.args.journal.now.pages (calls c.args.w) reply) (sym c.in-Page.is)
    (c.is_number_shown.ensures config at calls is holds are)
