use Rattle.std.specs.Prelude.{◌↔◌, IsTrue, List, ℕ, slice_index}
use Rattle.std.proofs.Common.{arith, sym, subst, ◌∙◌}
use Rattle.bz_judge.specs.Held.{IsImageOf}
use Rattle.bz_check.specs.Pairs.{Holds}
use Rattle.bz_check.specs.Tables.{open_in}
use Rattle.bz_verdict.specs.Pages.{ShowsPage}
use Rattle.bz_verdict.proofs.Showing.{number_shown}
use Rattle.bz_verdict.proofs.questions.is_number_shown.Goals as goal

pub returns : goal.returns
returns c = λ config at calls is holds are.
    let image : IsImageOf config c.durable.result.now = subst (λ (words : List ℕ). IsImageOf config words) (sym c.durable.ensures) is in
    let held : Holds at c.map.result.now.entries = subst (λ (es : List (List ℕ × List ℕ)). Holds at es) (sym c.map.ensures) holds in
    let two = c.is_shown.ensures config at image held in
    number_shown config (slice_index c.args.pass.now.words.durable) at c.args.journal.now.pages c.args.page c.in-Some-key_of_page.from c.args.next.now c.page.result.now (open_in c.args.pass.now.table c.args.w) (calls c.args.w) c.in-Some.call
    c.is_shown.result (are c.args.w (omega (arith, c.ranges.w.fits))) (sym c.open_call.ensures ∙ c.in-Some.is) (sym c.key_of_page.ensures ∙ c.in-Some-key_of_page.is) c.page.ensures.pairs
    (subst (λ (words : List ℕ). IsTrue c.is_shown.result ↔ ShowsPage config (slice_index words) at c.in-Some-key_of_page.from c.args.next.now c.page.result.now) c.durable.ensures two)
