use Rattle.std.specs.Prelude.{◌≡◌, List, ℕ, None, slice_index}
use Rattle.std.proofs.Common.{sym, ◌∙◌, subst}
use Rattle.bz_content.specs.Content.{image_fault}
use Rattle.bz_check.proofs.Following.{false_true}
use Rattle.bz_verdict.proofs.judge.judge_all_but_causes.Goals as goal

pub returns-then-not-good : goal.returns-then-not-good
returns-then-not-good c =
    c.bad_start_verdict.ensures c.args.config.now c.args.power c.args.journal.now.pages
    (λ none. false_true (sym c.if-not-good.true ∙ c.in_ok-good.ensures.1 (subst (λ (start : List ℕ). image_fault c.args.config.now (slice_index start) ≡ None) (sym c.start.ensures) none)))
