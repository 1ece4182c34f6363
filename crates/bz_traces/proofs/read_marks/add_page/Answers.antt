use Rattle.std.proofs.Common.{◌≡◌, Some, sym, ◌∙◌}
use Rattle.serde_json.specs.View.{view}
use Rattle.bz_reading.specs.Reading.{page_in}
use Rattle.bz_reading.proofs.PageRange.{page_right}
use Rattle.bz_traces.proofs.read_marks.add_page.Goals as goal

pub returns-clause-added : goal.returns-clause-added
returns-clause-added c =
    let read : page_in (view c.args.value.now) ≡ Some c.page_in.new.buffer = rw c.if-not-page_in.false at c.page_in.ensures in
    let tells = sym c.tells.ensures ∙ c.if-not-tells.false in
    record {
      pairs = c.page_in.new.buffer;
      told = page_right (view c.args.value.now) c.page_in.new.buffer read;
      read = λ _. read;
      log = rw (tells, ← c.pairs.ensures.same) c.add_page.ensures.added;
    }
