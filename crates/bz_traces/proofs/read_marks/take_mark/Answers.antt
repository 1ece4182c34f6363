use Rattle.std.proofs.Common.{◌≡◌, Some, None, true, sym, ap, ◌∙◌}
use Rattle.bz_lines.specs.Ranges.{tells_page}
use Rattle.bz_reading.specs.Reading.{page_in}
use Rattle.bz_traces.proofs.Unique.{page_again}
use Rattle.bz_traces.proofs.read_marks.take_mark.Goals as goal

pub returns-else-add_page-clause-told : goal.returns-else-add_page-clause-told
returns-else-add_page-clause-told c = λ mark pairs h is.
    let told : Some c.in-Some.mark ≡ Some mark = c.in-Some.ensures.told mark pairs h is in
    let same : c.in-Some.mark ≡ mark = cc in
    let tells : tells_page mark ≡ true = ap tells_page (sym same) ∙ c.add_page.ensures.told c.if-add_page.false in
    let nothing : None ≡ Some pairs = sym (c.add_page.ensures.none c.if-add_page.false) ∙ ap page_in is ∙ page_again c.args.journal.now.pages mark pairs h.numbered h.told tells in
    absurd (cc)
