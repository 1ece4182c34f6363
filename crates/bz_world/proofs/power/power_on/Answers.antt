use Rattle.std.proofs.Common.{◌-◌, ◌≤◌, length, arith, refl, sym, ◌∙◌}
use Rattle.std.proofs.lemmas.Bool.{true≢false}
use Rattle.bz_mark.specs.declared.power.Power.TheVariants as power
use Rattle.bz_world.specs.Inside.Beginning.{world_view}
use Rattle.bz_world.specs.declared.answers.Applied.TheVariants as applied
use Rattle.bz_world.proofs.Powered.{off-in, kept-started}
use Rattle.bz_world.proofs.Refusing.{on-applied, on-refused}
use Rattle.bz_world.proofs.power.power_on.Goals as goal

pub turn_on-requires-clause-off : goal.turn_on-requires-clause-off
turn_on-requires-clause-off c = off-in c.args.parts.now c.requires (c.is_off.ensures.0 c.if-is_off.true)

pub turn_on-requires-clause-power : goal.turn_on-requires-clause-power
turn_on-requires-clause-power c = c.is_off.ensures.0 c.if-is_off.true

pub returns-then-is_off-clause-kept : goal.returns-then-is_off-clause-kept
returns-then-is_off-clause-kept c = kept-started c.turn_on.new.parts c.turn_on.ensures.power c.turn_on.ensures.started

pub returns-then-is_off-clause-applied : goal.returns-then-is_off-clause-applied
returns-then-is_off-clause-applied c =
    let p = c.args.parts.now in
    let room : 3 ≤ p.journal.limits.marks - length p.journal.past = omega arith in
    on-applied (world_view p) (world_view c.turn_on.new.parts) applied.On room power.Off (c.requires.tabled.power ∙ c.is_off.ensures.0 c.if-is_off.true) (refl, c.turn_on.ensures.after)

pub returns-clause-applied : goal.returns-clause-applied
returns-clause-applied c =
    let p = c.args.parts.now in
    let room : 3 ≤ p.journal.limits.marks - length p.journal.past = omega arith in
    on-applied (world_view p) (world_view p) applied.Powered room p.power c.requires.tabled.power
    (on-refused p.power _ _ (λ off. absurd (true≢false (sym (c.is_off.ensures.1 off) ∙ c.if-is_off.false))) (refl, refl))
