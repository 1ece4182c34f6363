use Rattle.std.proofs.Common.{◌≡◌, ap, subst}
use Rattle.std.specs.Prelude.{Err, is_some}
use Rattle.bz_reading.specs.declared.error.LineFault.TheVariants.{Broken}
use Rattle.bz_traces.specs.Journals.{BreaksAt}
use Rattle.bz_lines.specs.Lines.{head_line}
use Rattle.bz_reading.proofs.HeadAgain.{head_bytes}
use Rattle.bz_traces.proofs.Whole.{head_breaks, no_feed, first_line}
use Rattle.bz_traces.proofs.read.read_first.Goals as goal

pub returns-in_default-clause-line : goal.returns-in_default-clause-line
returns-in_default-clause-line c = λ line is.
    let one : 1 ≡ line = cc in
    subst (BreaksAt c.args.bytes.now) one (head_breaks c.args.bytes.now (λ config start behind h text. no_feed c.args.bytes.now (head_line config start) behind (c.first_feed.ensures.none (ap is_some c.in_default.is)) text))

pub returns-in-Err-Broken-clause-line : goal.returns-in-Err-Broken-clause-line
returns-in-Err-Broken-clause-line c = λ line is.
    let one : 1 ≡ line = cc in
    let wrong : c.read_head.result ≡ Err Broken = cc in
    subst (BreaksAt c.args.bytes.now) one (head_breaks c.args.bytes.now (λ config start behind h text.
    c.read_head.ensures.broken wrong config start h (first_line c.args.bytes.now (head_line config start) behind c.in-Some.end (head_bytes config start h) c.in-Some.ensures.before c.in-Some.ensures.feed text)))
