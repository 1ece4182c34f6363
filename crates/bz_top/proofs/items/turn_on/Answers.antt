use Rattle.std.proofs.Common.{sym, refl, ◌∙◌}
use Rattle.bz_top.proofs.FirstLemmas.{turned_already, turns_on}
use Rattle.bz_top.proofs.SumLemmas.{on_affords, off_affords}
use Rattle.bz_top.proofs.items.turn_on.Goals as goal

pub returns-in-On-clause-ends : goal.returns-in-On-clause-ends
returns-in-On-clause-ends c = turned_already c.args.world.now c.requires.new (sym c.power.ensures ∙ c.in-On.is)

pub returns-in-Off-clause-ends : goal.returns-in-Off-clause-ends
returns-in-Off-clause-ends c =
    rw c.end_of.ensures
    (turns_on c.args.world.now c.requires.new c.power-in-Off.new.world c.power-in-Off.result (sym c.power.ensures ∙ c.in-Off.is) c.power-in-Off.ensures.ends)

pub returns-in-On-clause-enough : goal.returns-in-On-clause-enough
returns-in-On-clause-enough c = λ supplied items affords. (refl, on_affords supplied c.args.world.now items c.requires.new (sym c.power.ensures ∙ c.in-On.is) affords)

pub returns-in-Off-clause-enough : goal.returns-in-Off-clause-enough
returns-in-Off-clause-enough c = λ supplied items affords.
    let done = off_affords supplied c.args.world.now c.power-in-Off.new.world items c.power-in-Off.result c.requires.new (sym c.power.ensures ∙ c.in-Off.is) affords c.power-in-Off.ensures.ends c.power-in-Off.ensures.enough in
    (c.end_of.ensures ∙ done.0, done.1)
