use Rattle.std.proofs.Common.{◌≡◌, Some, None, true, IsTrue, sym, ap, ◌∙◌}
use Rattle.serde_json.specs.View.{view}
use Rattle.bz_mark.specs.declared.marks.Mark.{Mark}
use Rattle.bz_mark.specs.Log.{Log, with_mark}
use Rattle.bz_reading.specs.declared.error.LineFault.TheVariants.{Broken}
use Rattle.bz_traces.specs.Journals.{pages_with}
use Rattle.bz_lines.specs.Lines.{line_of}
use Rattle.bz_lines.specs.Ranges.{tells_page}
use Rattle.bz_reading.proofs.ListLemmas.{moved}
use Rattle.bz_traces.proofs.Unique.{Pages, next_value, next_no_value, page_told}
use Rattle.bz_traces.proofs.read_marks.read_mark.Goals as goal

pub returns-in-Err-clause-broken : goal.returns-in-Err-clause-broken
returns-in-Err-clause-broken c = λ wrong mark pairs h is.
    next_no_value c.args.last c.requires.fits c.args.journal.now.past c.args.journal.now.pages mark pairs c.args.line.now h is (c.in-Err.ensures.broken (moved c.in-Err.fault Broken wrong))

pub returns-in_default-clause-broken : goal.returns-in_default-clause-broken
returns-in_default-clause-broken c = λ wrong mark pairs h is.
    let value = next_value c.args.last c.requires.fits c.args.journal.now.past c.args.journal.now.pages mark pairs c.args.line.now (view c.in-Ok.value) h is c.in-Ok.ensures.value in
    let told : None ≡ Some mark = sym c.in_default.is ∙ c.take_mark.ensures.told mark pairs h value in
    absurd (cc)

pub returns-then-same-clause-added : goal.returns-then-same-clause-added
returns-then-same-clause-added c =
    let yes : IsTrue c.in-Ok-is_mark.same = c.if-same.true in
    record {
      mark = c.in-Some.mark;
      pairs = c.in-Some.ensures.page.pairs;
      next = record {
        marks = c.in-Some.ensures.place.marks;
        calls = c.in-Some.ensures.place.calls;
        page = c.in-Some.ensures.place.page;
        range = c.in-Some.ensures.range;
        numbered = c.in-Some.ensures.numbered;
        told = c.in-Some.ensures.page.told;
      };
      line = c.in-Ok-is_mark.ensures.0 yes ∙ ap (λ (l : Log). line_of l.pages c.in-Some.mark) c.in-Some.ensures.page.log;
      log = c.push.ensures ∙ ap (λ (l : Log). with_mark l c.in-Some.mark) c.in-Some.ensures.page.log;
    }

pub returns-in-Ok-is_mark-clause-broken : goal.returns-in-Ok-is_mark-clause-broken
returns-in-Ok-is_mark-clause-broken c = λ wrong mark pairs h is.
    let value = next_value c.args.last c.requires.fits c.args.journal.now.past c.args.journal.now.pages mark pairs c.args.line.now (view c.in-Ok.value) h is c.in-Ok.ensures.value in
    let told : Some c.in-Some.mark ≡ Some mark = c.in-Some.ensures.told mark pairs h value in
    let same : c.in-Some.mark ≡ mark = cc in
    let page = c.in-Some.ensures.page in
    let pages = page_told c.args.last c.args.journal.now.past c.args.journal.now.pages mark pairs page.pairs (view c.in-Ok.value) h value (λ (t : tells_page mark ≡ true). page.read (ap tells_page same ∙ t)) in
    let line : c.args.line.now ≡ line_of c.take_mark.new.journal.pages c.in-Some.mark =
    is ∙ ap (λ (ps : Pages). line_of ps mark) (sym pages) ∙ ap (λ (m : Mark). line_of (pages_with c.args.journal.now.pages m page.pairs) m) (sym same) ∙ ap (λ (l : Log). line_of l.pages c.in-Some.mark) (sym page.log) in
    let yes : IsTrue c.in-Ok-is_mark.same = c.in-Ok-is_mark.ensures.1 line in
    absurd (cc)
