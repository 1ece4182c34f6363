use Rattle.std.proofs.Common.{◌∙◌, sym, Some, None}
use Rattle.serde_json.specs.View.{view}
use Rattle.bz_traces.proofs.Unique.{next_told}
use Rattle.bz_traces.proofs.read_marks.told_mark.Goals as goal

pub returns-in_default-clause-told : goal.returns-in_default-clause-told
returns-in_default-clause-told c = λ mark pairs h is.
    let found = sym c.in_default.is ∙ c.mark_in.ensures.mark in
    next_told c.args.last c.length.result c.page_count.result c.args.journal.now.past c.args.journal.now.pages mark pairs (view c.args.value.now) None c.length.ensures c.page_count.ensures h is found

pub returns-then-has_place-clause-told : goal.returns-then-has_place-clause-told
returns-then-has_place-clause-told c = λ mark pairs h is.
    next_told c.args.last c.length.result c.page_count.result c.args.journal.now.past c.args.journal.now.pages mark pairs (view c.args.value.now) (Some c.in-Some.mark) c.length.ensures c.page_count.ensures h is c.in-Some.ensures.mark
