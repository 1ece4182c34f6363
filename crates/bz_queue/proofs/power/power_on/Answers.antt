use Rattle.std.proofs.Common.{◌-◌, ◌≤◌, length, arith, refl, sym, ◌∙◌}
use Rattle.std.proofs.lemmas.Bool.{true≢false}
use Rattle.bz_mark.specs.declared.power.Power.TheVariants as power
use Rattle.bz_queue.specs.Inside.Kept.{view_of}
use Rattle.bz_queue.specs.declared.answers.QApplied.TheVariants as applied
use Rattle.bz_queue.proofs.Powered.{off-in, kept-started}
use Rattle.bz_queue.proofs.Refusing.{on-applied, on-refused}
use Rattle.bz_queue.proofs.power.power_on.Goals as goal

pub turn_on-requires : goal.turn_on-requires
turn_on-requires c =
    let p = c.args.parts.now in
    let room : 3 ≤ p.journal.most - length p.journal.past = omega arith in
    record { off = off-in p c.requires (c.is_off.ensures.0 c.if-is_off.true); power = c.is_off.ensures.0 c.if-is_off.true; room = omega (arith, room) }

pub returns-then-is_off-clause-kept : goal.returns-then-is_off-clause-kept
returns-then-is_off-clause-kept c = kept-started c.turn_on.new.parts c.turn_on.ensures.power c.turn_on.ensures.started

pub returns-then-is_off-clause-applied : goal.returns-then-is_off-clause-applied
returns-then-is_off-clause-applied c =
    let p = c.args.parts.now in
    let room : 3 ≤ p.journal.most - length p.journal.past = omega arith in
    on-applied (view_of p) (view_of c.turn_on.new.parts) applied.On room power.Off (c.requires.tabled.powered ∙ c.is_off.ensures.0 c.if-is_off.true) (refl, c.turn_on.ensures.after)

pub returns-clause-applied : goal.returns-clause-applied
returns-clause-applied c =
    let p = c.args.parts.now in
    let room : 3 ≤ p.journal.most - length p.journal.past = omega arith in
    on-applied (view_of p) (view_of p) applied.Powered room p.power c.requires.tabled.powered
    (on-refused p.power _ _ (λ off. absurd (true≢false (sym (c.is_off.ensures.1 off) ∙ c.if-is_off.false))) (refl, refl))
