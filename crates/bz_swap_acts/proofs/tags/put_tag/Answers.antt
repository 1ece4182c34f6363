use Rattle.std.proofs.Common.{sym, ◌∙◌}
use Rattle.bz_swap_acts.proofs.Exchanges.{missed, tagged}
use Rattle.bz_swap_acts.proofs.tags.put_tag.Goals as goal

pub returns-then-is_miss-clause-memory : goal.returns-then-is_miss-clause-memory
returns-then-is_miss-clause-memory c = λ x b at is.
    let found = c.cas_tag-found.ensures in
    missed x c.args.cells.now c.cas_tag-found.new.cells c.note_miss.new.self b c.args.worker c.args.swap c.args.entry c.args.expected c.cas_tag-found.result.kind is (sym c.is_miss.ensures ∙ c.if-is_miss.true) found.unchanged (c.note_miss.ensures.changed b)

pub returns-else-is_miss-clause-memory : goal.returns-else-is_miss-clause-memory
returns-else-is_miss-clause-memory c = λ x b at is.
    let found = c.cas_tag-found.ensures in
    tagged x c.args.cells.now c.cas_tag-found.new.cells b c.args.a c.args.worker c.args.swap c.args.entry c.args.expected c.cas_tag-found.result.kind at is (sym c.is_miss.ensures ∙ c.if-is_miss.false) found.changed found.unchanged

pub returns-then-is_miss-clause-made : goal.returns-then-is_miss-clause-made
returns-then-is_miss-clause-made c =
    let made = c.cas_tag-found.ensures.made in
    let noted = c.note_miss.ensures in
    record {
      rule = λ w. record { found = (made.rule w).found; after = noted.words ∙ (made.rule w).after };
      within = made.within;
      typed = noted.typed;
      shape = record { swaps = noted.shape.swaps ∙ made.shape.swaps; size = noted.shape.size ∙ made.shape.size; workers = noted.shape.workers ∙ made.shape.workers };
    }
