use Rattle.std.proofs.Common.{◌≡◌, ◌∙◌, sym, ap, IsTrue}
use Rattle.serde_json.specs.View.{view}
use Rattle.bz_layout.specs.declared.config.Config.{Config}
use Rattle.bz_lines.specs.Lines.{head_line}
use Rattle.bz_reading.proofs.HeadAgain.{head_value, head_no_value}
use Rattle.bz_reading.specs.declared.error.LineFault.TheVariants.{Broken}
use Rattle.bz_reading.proofs.ListLemmas.{moved}
use Rattle.bz_reading.proofs.read_lines.read_head.Goals as goal

pub returns-in-Err-clause-broken : goal.returns-in-Err-clause-broken
returns-in-Err-clause-broken c = λ wrong other start h is. head_no_value other start c.args.line.now h is (c.in-Err.ensures.broken (moved c.in-Err.fault Broken wrong))

pub returns-in-Err-told_start-clause-broken : goal.returns-in-Err-told_start-clause-broken
returns-in-Err-told_start-clause-broken c = λ wrong other start h is.
    c.in-Err-told_start.ensures.broken wrong other start h (head_value other start c.args.line.now (view c.in-Ok.value) h is c.in-Ok.ensures.value)

pub returns-in-Ok-is_head-clause-broken : goal.returns-in-Ok-is_head-clause-broken
returns-in-Ok-is_head-clause-broken c = λ wrong other start h is.
    let same = c.in-Ok-told_start.ensures.told other start h (head_value other start c.args.line.now (view c.in-Ok.value) h is c.in-Ok.ensures.value) in
    let line : c.args.line.now ≡ head_line c.in-Ok-told_start.head.0 c.deref.result.now =
    is ∙ ap (λ (d : Config). head_line d start) (sym same.0) ∙ ap (head_line c.in-Ok-told_start.head.0) (sym (c.deref.ensures.value ∙ same.1)) in
    let yes : IsTrue c.in-Ok-is_head.same = c.in-Ok-is_head.ensures.1 line in
    absurd (cc)
