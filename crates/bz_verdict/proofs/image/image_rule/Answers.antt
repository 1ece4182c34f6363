use Rattle.std.proofs.Common.{◌∙◌, sym}
use Rattle.bz_check.proofs.Following.{false_true}
use Rattle.bz_verdict.proofs.Going.{held_good, held_others}
use Rattle.bz_verdict.proofs.image.image_rule.Goals as goal

pub returns-then-is_same : goal.returns-then-is_same
returns-then-is_same c =
    let none = c.in_ok-good.ensures.0 c.if-not-good.false in
    let held = c.in_ok-held.ensures c.args.config.now (record { config = c.requires.config; size = c.requires.whole; none = none }) in
    held_good c.args.config.now c.args.image.now c.in_ok-held.held.entries c.args.map.now.entries none held (c.is_same.ensures.0 c.if-is_same.true)

pub returns : goal.returns
returns c =
    let none = c.in_ok-good.ensures.0 c.if-not-good.false in
    let held = c.in_ok-held.ensures c.args.config.now (record { config = c.requires.config; size = c.requires.whole; none = none }) in
    held_others c.args.config.now c.args.image.now c.in_ok-held.held.entries c.args.map.now.entries none held (λ same. false_true (sym c.if-is_same.false ∙ c.is_same.ensures.1 same))
