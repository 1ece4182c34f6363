use Rattle.std.proofs.Common.{◌≡◌, ◌-◌, ◌+◌, ◌<◌, ◌∷◌, ◌++◌, ℕ, List, take, drop, length, sym, ap, subst, ◌∙◌, arith}
use Rattle.std.specs.Prelude.{Err}
use Rattle.bz_traces.specs.declared.error.ReadError.{ReadError}
use Rattle.bz_traces.specs.declared.error.ReadError.TheVariants.{Line}
use Rattle.bz_lines.specs.Lines.{head_line, lines_of, text_of}
use Rattle.bz_traces.specs.Steps.{HasRoomFor, feeds}
use Rattle.bz_traces.specs.Opened.{IsOpened}
use Rattle.bz_traces.proofs.Apart.{one_journal, fault_is_memory}
use Rattle.bz_traces.proofs.Feeds.{feeds_less}
use Rattle.bz_traces.proofs.Whole.{opened_lines, opened_room, opened_text, to_end}
use Rattle.bz_traces.proofs.read.read_journal.Goals as goal

pub returns-in-Err-clause-line : goal.returns-in-Err-clause-line
returns-in-Err-clause-line c = λ line is.
    let same : c.in-Err.error ≡ Line line = cc in
    c.read_first.ensures.line line (c.in-Err.is ∙ ap (λ (x : ReadError). Err x) same)

pub read_rest-requires-clause-lines : goal.read_rest-requires-clause-lines
read_rest-requires-clause-lines c =
    let opened : IsOpened c.in-Ok.first.1.items c.line_feeds-lines.result c.in-Ok-open_journal.journal = rw c.deref.ensures.value at c.in-Ok-open_journal.ensures in
    opened_lines c.in-Ok.first.0 c.in-Ok.first.1.items c.line_feeds-lines.result c.in-Ok-open_journal.journal c.in-Ok.ensures.start opened

pub read_rest-requires-clause-room : goal.read_rest-requires-clause-room
read_rest-requires-clause-room c =
    let fewer : feeds (drop c.in-Ok.first.2 c.args.bytes.now) < feeds c.args.bytes.now = feeds_less c.args.bytes.now (head_line c.in-Ok.first.0 c.in-Ok.first.1.items) (drop c.in-Ok.first.2 c.args.bytes.now) c.in-Ok.ensures.cut.1 in
    subst (λ (xs : List ℕ). HasRoomFor (feeds xs + 1) c.in-Ok-open_journal.journal) (sym (to_end c.args.bytes.now c.in-Ok.first.2))
    (opened_room c.deref.result.now c.line_feeds-lines.result (feeds (drop c.in-Ok.first.2 c.args.bytes.now) + 1) c.in-Ok-open_journal.journal c.in-Ok-open_journal.ensures (omega (arith, fewer, c.line_feeds-lines.ensures)))

pub returns-in-Ok-read_rest-clause-text : goal.returns-in-Ok-read_rest-clause-text
returns-in-Ok-read_rest-clause-text c =
    let opened : IsOpened c.in-Ok.first.1.items c.line_feeds-lines.result c.in-Ok-open_journal.journal = rw c.deref.ensures.value at c.in-Ok-open_journal.ensures in
    let front : c.args.bytes.now ≡ text_of (lines_of c.in-Ok.first.0 c.in-Ok-open_journal.journal) ++ take (length c.args.bytes.now - c.in-Ok.first.2) (drop c.in-Ok.first.2 c.args.bytes.now) =
    opened_text c.in-Ok.first.0 c.in-Ok.first.1.items c.line_feeds-lines.result c.in-Ok-open_journal.journal c.args.bytes.now (take (length c.args.bytes.now - c.in-Ok.first.2) (drop c.in-Ok.first.2 c.args.bytes.now)) opened
    (c.in-Ok.ensures.cut.1 ∙ ap (λ (xs : List ℕ). head_line c.in-Ok.first.0 c.in-Ok.first.1.items ++ 10 ∷ xs) (sym (to_end c.args.bytes.now c.in-Ok.first.2))) in
    c.in-Ok-read_rest.ensures.read c.args.bytes.now front

pub returns-clause-line : goal.returns-clause-line
returns-clause-line c = λ line is.
    let opened : IsOpened c.in-Ok.first.1.items c.line_feeds-lines.result c.in-Ok-open_journal.journal = rw c.deref.ensures.value at c.in-Ok-open_journal.ensures in
    let front : c.args.bytes.now ≡ text_of (lines_of c.in-Ok.first.0 c.in-Ok-open_journal.journal) ++ take (length c.args.bytes.now - c.in-Ok.first.2) (drop c.in-Ok.first.2 c.args.bytes.now) =
    opened_text c.in-Ok.first.0 c.in-Ok.first.1.items c.line_feeds-lines.result c.in-Ok-open_journal.journal c.args.bytes.now (take (length c.args.bytes.now - c.in-Ok.first.2) (drop c.in-Ok.first.2 c.args.bytes.now)) opened
    (c.in-Ok.ensures.cut.1 ∙ ap (λ (xs : List ℕ). head_line c.in-Ok.first.0 c.in-Ok.first.1.items ++ 10 ∷ xs) (sym (to_end c.args.bytes.now c.in-Ok.first.2))) in
    let same : c.in-Err-read_rest.error ≡ Line line = cc in
    c.read_rest.ensures.line line (c.in-Err-read_rest.is ∙ ap (λ (x : ReadError). Err x) same) c.args.bytes.now front

pub returns-in-Err-clause-again : goal.returns-in-Err-clause-again
returns-in-Err-clause-again c = λ config log h is.
    fault_is_memory config log c.args.bytes.now c.in-Err.error h is (λ line same. c.read_first.ensures.line line (c.in-Err.is ∙ ap (λ (x : ReadError). Err x) same))

pub returns-in-Ok-read_rest-clause-again : goal.returns-in-Ok-read_rest-clause-again
returns-in-Ok-read_rest-clause-again c = λ config log h is.
    one_journal config c.in-Ok.first.0 log c.read_rest.new.journal c.args.bytes.now h c.in-Ok-read_rest.ensures.lines is (returns-in-Ok-read_rest-clause-text c)

pub returns-clause-again : goal.returns-clause-again
returns-clause-again c = λ config log h is.
    fault_is_memory config log c.args.bytes.now c.in-Err-read_rest.error h is (λ line same. returns-clause-line c line (ap (λ (x : ReadError). Err x) same))
