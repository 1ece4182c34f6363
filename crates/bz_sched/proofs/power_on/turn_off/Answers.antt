use Rattle.std.proofs.Common.{inl, inr, sym, ◌∙◌}
use Rattle.bz_world.specs.declared.answers.Applied.TheVariants as applied
use Rattle.bz_sched.proofs.CutLemmas.{cut_made}
use Rattle.bz_sched.proofs.RecoveryLemmas.{off_already, off_now, on_is_not_off}
use Rattle.bz_sched.proofs.power_on.turn_off.Goals as goal

pub returns-in-Off-clause-off : goal.returns-in-Off-clause-off
returns-in-Off-clause-off c = λ is. off_already c.args.world.now (sym c.power.ensures ∙ c.in-Off.is)

pub returns-in-Cut-clause-off : goal.returns-in-Cut-clause-off
returns-in-Cut-clause-off c = λ is.
    let on = sym c.power.ensures ∙ c.in-On.is in
    elim (cut_made c.args.world.now applied.Cut c.apply.new.self (on_is_not_off c.args.world.now on) c.in-Cut.ensures) [
      | inl none ↦ absurd (let other = none.0 in cc)
      | inr made ↦ off_now c.args.world.now c.apply.new.self on made.1
    ]

pub returns-in-Limit-clause-refused : goal.returns-in-Limit-clause-refused
returns-in-Limit-clause-refused c = λ is.
    let on = sym c.power.ensures ∙ c.in-On.is in
    elim (cut_made c.args.world.now applied.Limit c.apply.new.self (on_is_not_off c.args.world.now on) c.in-Limit.ensures) [
      | inl none ↦ none.1
      | inr made ↦ absurd (let other = made.0 in cc)
    ]

pub unreachable-requires : goal.unreachable-requires
unreachable-requires c =
    let on = sym c.power.ensures ∙ c.in-On.is in
    elim (cut_made c.args.world.now c.apply.result c.apply.new.self (on_is_not_off c.args.world.now on) c.apply.ensures) [
      | inl none ↦ c.in_default.not-Limit none.0
      | inr made ↦ c.in_default.not-Cut made.0
    ]

pub unreachable-requires-in-Recovering : goal.unreachable-requires-in-Recovering
unreachable-requires-in-Recovering c = c.requires (sym c.power.ensures ∙ c.in-Recovering.is)
