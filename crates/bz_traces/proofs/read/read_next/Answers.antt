use Rattle.std.proofs.Common.{◌≡◌, ◌+◌, ℕ, sym, ap, ◌∙◌}
use Rattle.std.specs.Prelude.{Err, is_some}
use Rattle.bz_reading.specs.declared.error.LineFault.TheVariants.{Broken}
use Rattle.bz_traces.specs.Journals.{pages_with}
use Rattle.bz_lines.specs.Lines.{line_of}
use Rattle.bz_traces.proofs.Unique.{next_bytes}
use Rattle.bz_traces.proofs.Whole.{no_feed, first_line}
use Rattle.bz_traces.proofs.read.read_next.Goals as goal

pub returns-in_default-clause-number : goal.returns-in_default-clause-number
returns-in_default-clause-number c = λ line is.
    let same : c.length-number.result + 2 ≡ line = cc in
    sym same ∙ ap (λ (k : ℕ). k + 2) c.length-number.ensures

pub returns-in_default-clause-broken : goal.returns-in_default-clause-broken
returns-in_default-clause-broken c = λ line is mark pairs behind next text.
    no_feed c.args.left.now (line_of (pages_with c.args.journal.now.pages mark pairs) mark) behind (c.first_feed.ensures.none (ap is_some c.in_default.is)) text

pub returns-in-Err-Broken-clause-number : goal.returns-in-Err-Broken-clause-number
returns-in-Err-Broken-clause-number c = λ line is.
    let same : c.length-number.result + 2 ≡ line = cc in
    sym same ∙ ap (λ (k : ℕ). k + 2) c.length-number.ensures

pub returns-in-Err-Broken-clause-broken : goal.returns-in-Err-Broken-clause-broken
returns-in-Err-Broken-clause-broken c = λ line is mark pairs behind next text.
    let wrong : c.read_mark.result ≡ Err Broken = cc in
    c.read_mark.ensures.broken wrong mark pairs next
    (first_line c.args.left.now (line_of (pages_with c.args.journal.now.pages mark pairs) mark) behind c.in-Some.end (next_bytes c.args.last c.requires.fits c.args.journal.now.past c.args.journal.now.pages mark pairs next)
    c.in-Some.ensures.before c.in-Some.ensures.feed text)
