use Rattle.std.proofs.Common.{◌≢◌, ◌<◌, ◌-◌, ◌≤◌, length, arith, refl, sym, ◌∙◌}
use Rattle.std.proofs.lemmas.Bool.{true≢false}
use Rattle.bz_mark.specs.declared.power.Power.TheVariants as power
use Rattle.bz_queue.specs.Inside.Kept.{view_of}
use Rattle.bz_queue.specs.declared.answers.QApplied.TheVariants as applied
use Rattle.bz_queue.proofs.Cutting.{cut-kept, cut-seen}
use Rattle.bz_queue.proofs.Refusing.{cut-applied, off-by}
use Rattle.bz_queue.proofs.power.cut.Goals as goal

pub make_cut-requires : goal.make_cut-requires
make_cut-requires c =
    let p = c.args.parts.now in
    let room : 3 ≤ p.journal.most - length p.journal.past = omega arith in
    omega (arith, room)

pub returns-then-is_off-clause-applied : goal.returns-then-is_off-clause-applied
returns-then-is_off-clause-applied c =
    let p = c.args.parts.now in
    let room : 3 ≤ p.journal.most - length p.journal.past = omega arith in
    cut-applied (view_of p) (view_of p) applied.Off room power.Off (c.requires.tabled.powered ∙ c.is_off.ensures.0 c.if-is_off.true) (refl, refl)

pub returns-clause-kept : goal.returns-clause-kept
returns-clause-kept c =
    let p = c.args.parts.now in
    let left : 3 ≤ p.journal.most - length p.journal.past = omega arith in
    let room : length p.journal.past < p.journal.most = omega (arith, left) in
    cut-kept p c.make_cut.new.parts c.requires room (λ off. absurd (true≢false (sym (c.is_off.ensures.1 off) ∙ c.if-is_off.false))) c.make_cut.ensures

pub returns-clause-applied : goal.returns-clause-applied
returns-clause-applied c =
    let p = c.args.parts.now in
    let left : 3 ≤ p.journal.most - length p.journal.past = omega arith in
    let on : p.power ≢ power.Off = λ off. absurd (true≢false (sym (c.is_off.ensures.1 off) ∙ c.if-is_off.false)) in
    cut-applied (view_of p) (view_of c.make_cut.new.parts) applied.Cut left p.power c.requires.tabled.powered (off-by p.power _ _ on (refl, cut-seen p c.make_cut.new.parts c.requires c.make_cut.ensures))
