use Rattle.std.specs.Prelude.{◌≡◌, ◌+◌, slice_index, slice_set}
use Rattle.std.proofs.Common.{ap, ◌∙◌}
use Rattle.bz_swap_cells.specs.Store.{Store, typed}
use Rattle.bz_swap_cells.proofs.Notes.{number-set, typed-tagged}
use Rattle.bz_swap_cells.proofs.cells.Cells.cas_tag.Goals as goal

pub returns-then-eq-clause-changed : goal.returns-then-eq-clause-changed
returns-then-eq-clause-changed c = λ found b.
    let now : Store = record { cached = c.self.inside.pm.state.words.cached; durable = c.self.inside.pm.state.words.durable; past = record { count = c.self.inside.pm.state.count; since = c.self.inside.pm.state.since; asks = c.self.inside.pm.state.asks }; swaps = c.self.inside.swaps; next_tags = c.self.inside.next_tags.items; missed = c.self.inside.missed.items; taken = c.self.inside.taken } in
    let is : now ≡ c.cas_word-found.new.self = c.self.view_is in
    let same : now.next_tags ≡ c.args.self.now.next_tags = ap (λ (st : Store). st.next_tags) is ∙ ap (λ (st : Store). st.next_tags) c.cas_word-found.ensures.words in
    let change = rw c.next_tag-seq.ensures at c.cas_word-found.ensures.changed found b in
    typed-tagged c.args.self.now now b c.args.a c.args.swap c.args.entry c.args.worker (slice_set now.next_tags c.args.worker (c.next_tag-seq.result + 1))
    (λ v. rw (same, c.next_tag-seq.ensures) (number-set c.args.self.now.next_tags c.args.worker (slice_index c.args.self.now.next_tags c.args.worker + 1) v c.requires.worker.worker))
    (ap (λ st. typed st b) is ∙ change)
