use Rattle.std.proofs.Common.{refl, sym, ap, subst, ◌∙◌, arith, None}
use Rattle.bz_task.specs.declared.todo.Seen.TheVariants.{NoSwap, Start}
use Rattle.bz_sight.proofs.Proved.{effect_steps_take_place}
use Rattle.bz_swap.proofs.Proved.{effects_stay_inside}
use Rattle.bz_world.specs.Inside.Acted.{IsActed}
use Rattle.bz_world.specs.declared.parts.Parts.{Parts}
use Rattle.bz_world.proofs.Acting.{is-served, is-busy, acted-on, acted-told, none-told, tells-no-want, tells-no-start, struck-acted, quiet-acted}
use Rattle.bz_world.proofs.ActStrikes.{act-strikes}
use Rattle.bz_world.proofs.act.act.Goals as goal

pub make_act-progress-requires-clause-busy : goal.make_act-progress-requires-clause-busy
make_act-progress-requires-clause-busy c = is-busy c.args.parts.now c.requires.kept c.args.w c.requires.open

pub mark_effect-requires-clause-striking : goal.mark_effect-requires-clause-striking
mark_effect-requires-clause-striking c =
    let served = is-served c.args.parts.now c.requires.kept c.args.w c.requires.open in
    act-strikes effect_steps_take_place effects_stay_inside c.step_laws.ensures.taken c.step_laws.ensures.begun c.step_laws.ensures.solo.wins c.step_laws.ensures.solo.paid.rivals c.args.parts.now c.make_act-progress.new.parts c.args.w c.in-Some.swap served.serving
    c.make_act-progress.result.act c.make_act-progress.result.done c.requires.kept served.is
    (subst (λ o. IsActed c.args.parts.now c.args.w c.make_act-progress.result.act c.make_act-progress.result.done o c.make_act-progress.new.parts) c.in-Some.is c.make_act-progress.ensures) (omega (arith, c.requires.room))

-- its effect is marked, and the task is told nothing
pub returns-in-Some : goal.returns-in-Some
returns-in-Some c = record {
  on = λ e. c.mark_effect.ensures.kept;
  told = λ seen e. absurd (none-told seen e);
  swaps = none-told NoSwap;
  begun = none-told Start;
  made = struck-acted c.args.parts.now c.make_act-progress.new.parts c.mark_effect.new.parts c.args.w c.make_act-progress.result.act c.make_act-progress.result.done c.make_act-progress.result.effect c.make_act-progress.ensures c.mark_effect.ensures.struck c.mark_effect.ensures.rest;
  taken = ap (λ (p : Parts). p.access.taken) c.mark_effect.ensures.rest ∙ c.make_act-progress.ensures.step.one.others.taken;
}

-- or the act was without effect
pub returns : goal.returns
returns c =
    let p = c.args.parts.now in
    let q = c.make_act-progress.new.parts in
    let w = c.args.w in
    let made = c.make_act-progress.result.act in
    let answer = c.make_act-progress.result.done in
    let acted : IsActed p w made answer None q = subst (λ o. IsActed p w made answer o q) c.in_default.is c.make_act-progress.ensures in
    let says = c.seen_of.ensures in
    record {
      on = λ none. acted-on c.step_laws.ensures p q w made answer c.requires.kept c.requires.open acted c.requires.room answer refl (sym says ∙ none);
      told = λ seen is. acted-told c.step_laws.ensures p q w made answer c.requires.kept c.requires.open acted c.requires.room answer refl seen (sym says ∙ is);
      swaps = λ is. tells-no-want answer (sym says ∙ is);
      begun = λ is. tells-no-start answer (sym says ∙ is);
      made = quiet-acted p q w made answer acted;
      taken = acted.step.one.others.taken;
    }
