use Rattle.std.proofs.Common.{◌≡◌, ◌==◌, false, refl, sym, ◌∙◌}
use Rattle.bz_slotted.proofs.Readings.{level-read, other-test, same-test}
use Rattle.bz_slotted.proofs.front.is_at_level.Goals as goal

pub returns-then-header-level : goal.returns-then-header-level
returns-then-header-level c =
    rw (level-read c.in-Some.header c.args.words.now c.args.level c.in-Some.ensures.word.0 c.in-Some.ensures.word.1, same-test c.in-Some.header.level c.args.level c.if-header-level.true) refl

pub returns-else-header-level : goal.returns-else-header-level
returns-else-header-level c =
    let f : (c.in-Some.header.level == c.args.level) ≡ false = other-test c.in-Some.header.level c.args.level c.if-header-level.false in
    f ∙ sym (rw (level-read c.in-Some.header c.args.words.now c.args.level c.in-Some.ensures.word.0 c.in-Some.ensures.word.1, f) refl)
