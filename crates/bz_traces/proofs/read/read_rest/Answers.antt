use Rattle.std.proofs.Common.{◌≡◌, ◌<◌, ◌+◌, ◌-◌, ℕ, List, [], ◌∷◌, ◌++◌, drop, length, sym, ap, subst, ◌∙◌, arith, append-nil, length-drop}
use Rattle.std.specs.Prelude.{Err}
use Rattle.std.proofs.lemmas.Grind.{common_steps}
use Rattle.bz_layout.specs.Addresses.{words_of}
use Rattle.bz_traces.specs.declared.error.ReadError.{ReadError}
use Rattle.bz_traces.specs.declared.error.ReadError.TheVariants.{Line}
use Rattle.bz_traces.specs.Journals.{BreaksAt}
use Rattle.bz_lines.specs.Lines.{lines_of, text_of}
use Rattle.bz_traces.specs.Steps.{MarkAdded, LineTaken, NoNext, feeds}
use Rattle.bz_traces.proofs.Feeds.{feeds_less}
use Rattle.bz_traces.proofs.Whole.{breaks, lines_more, has_more, told_few, room_more, to_end}
use Rattle.bz_traces.proofs.read.read_rest.Goals as goal

pub read_next-requires-clause-few : goal.read_next-requires-clause-few
read_next-requires-clause-few c = told_few (words_of c.args.config.now) c.loop-at.journal.past c.loop-at.journal.pages c.loop-at.invariant.lines.marks

pub read_next-requires-clause-space : goal.read_next-requires-clause-space
read_next-requires-clause-space c = record {
  marks = λ small. c.loop-at.invariant.room.marks (length c.loop-at.journal.past) (omega arith) small;
  calls = c.loop-at.invariant.room.calls;
  pages = c.loop-at.invariant.room.pages;
}

pub loop-at-preserved : goal.loop-at-preserved
loop-at-preserved c =
    let taken = subst (λ (xs : List ℕ). LineTaken ((c.words-last.result - 1) + 1) xs c.loop-at.journal c.read_next.new.journal c.in-Ok-read_next.more c.in-Ok-read_next.taken) (to_end c.args.rest.now c.loop-at.at) c.in-Ok-read_next.ensures.taken in
    let words : (c.words-last.result - 1) + 1 ≡ words_of c.args.config.now = omega (arith, c.words-last.ensures) in
    let added : MarkAdded (words_of c.args.config.now) taken.line c.loop-at.journal c.read_next.new.journal = subst (λ (k : ℕ). MarkAdded k taken.line c.loop-at.journal c.read_next.new.journal) words taken.added in
    let left : length (drop c.loop-at.at c.args.rest.now) ≡ length c.args.rest.now - c.loop-at.at = length-drop c.loop-at.at c.args.rest.now in
    let behind : drop c.in-Ok-read_next.taken (drop c.loop-at.at c.args.rest.now) ≡ drop (c.loop-at.at + c.in-Ok-read_next.taken) c.args.rest.now = grind (arith, common_steps) in
    let cut : drop c.loop-at.at c.args.rest.now ≡ taken.line ++ 10 ∷ drop (c.loop-at.at + c.in-Ok-read_next.taken) c.args.rest.now = taken.cut ∙ ap (λ (xs : List ℕ). taken.line ++ 10 ∷ xs) behind in
    let fewer : feeds (drop (c.loop-at.at + c.in-Ok-read_next.taken) c.args.rest.now) < feeds (drop c.loop-at.at c.args.rest.now) =
    feeds_less (drop c.loop-at.at c.args.rest.now) taken.line (drop (c.loop-at.at + c.in-Ok-read_next.taken) c.args.rest.now) cut in
    record {
      within = omega (arith, left, taken.fits, c.loop-at-test.true);
      lines = has_more c.args.config.now c.loop-at.journal c.read_next.new.journal taken.line c.loop-at.invariant.lines added;
      counts = taken.counted;
      room = room_more (words_of c.args.config.now) taken.line c.loop-at.journal c.read_next.new.journal (feeds (drop c.loop-at.at c.args.rest.now) + 1) (feeds (drop (c.loop-at.at + c.in-Ok-read_next.taken) c.args.rest.now) + 1) added
          (omega (arith, fewer)) c.loop-at.invariant.room;
      text = λ bytes is. lines_more c.args.config.now c.loop-at.journal c.read_next.new.journal taken.line bytes (drop c.loop-at.at c.args.rest.now) (drop (c.loop-at.at + c.in-Ok-read_next.taken) c.args.rest.now) c.loop-at.invariant.lines added
          (c.loop-at.invariant.text bytes is) cut;
    }

pub returns-in-Err-read_next-clause-line : goal.returns-in-Err-read_next-clause-line
returns-in-Err-read_next-clause-line c = λ line is bytes text.
    let same : c.in-Err-read_next.error ≡ Line line = cc in
    let wrong : c.read_next.result ≡ Err (Line line) = c.in-Err-read_next.is ∙ ap (λ (x : ReadError). Err x) same in
    let words : (c.words-last.result - 1) + 1 ≡ words_of c.args.config.now = omega (arith, c.words-last.ensures) in
    let nothing : NoNext (words_of c.args.config.now) c.loop-at.journal (drop c.loop-at.at c.args.rest.now) =
    subst (λ (k : ℕ). NoNext k c.loop-at.journal (drop c.loop-at.at c.args.rest.now)) words (subst (λ (xs : List ℕ). NoNext ((c.words-last.result - 1) + 1) c.loop-at.journal xs) (to_end c.args.rest.now c.loop-at.at) (c.read_next.ensures.broken line wrong)) in
    subst (BreaksAt bytes) (sym (c.read_next.ensures.number line wrong))
    (breaks c.args.config.now c.loop-at.journal bytes (drop c.loop-at.at c.args.rest.now) c.loop-at.invariant.lines (c.loop-at.invariant.text bytes text) (omega (arith, length-drop c.loop-at.at c.args.rest.now, c.loop-at-test.true)) nothing)

pub returns-clause-read : goal.returns-clause-read
returns-clause-read c = λ bytes is.
    let over : drop c.loop-at.at c.args.rest.now ≡ [] = grind (arith, common_steps) in
    c.loop-at.invariant.text bytes is ∙ ap (λ (xs : List ℕ). text_of (lines_of c.args.config.now c.loop-at.journal) ++ xs) over ∙ append-nil (text_of (lines_of c.args.config.now c.loop-at.journal))
