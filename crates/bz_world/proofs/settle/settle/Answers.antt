use Rattle.std.proofs.Common.{◌≡◌, ◌<◌, length, refl, sym, ap, subst, ◌∙◌, Some}
use Rattle.bz_call.specs.Map.{key_of}
use Rattle.bz_any_task.specs.Duties.{end_of}
use Rattle.bz_task.specs.Scene.{Scene}
use Rattle.bz_task.specs.declared.todo.Outcome.TheVariants.{Path, View, Key}
use Rattle.bz_task.specs.declared.todo.Todo.TheVariants.{Finish}
use Rattle.bz_world.specs.Inside.Going.{MustGoOn, effect_in, makes_none_in, wants_in, known}
use Rattle.bz_world.proofs.PaidSteps.{finished-for}
use Rattle.bz_world.proofs.Spared.{end-room}
use Rattle.bz_world.proofs.TakingOn.{slot-is, must-go-on, ended-by, no-view, no-key}
use Rattle.bz_world.proofs.settle.settle.Goals as goal

pub settle_effective-requires-clause-ends : goal.settle_effective-requires-clause-ends
settle_effective-requires-clause-ends c =
    let ended : end_of c.requires.ends.serving.task ≡ Some c.outcome_of-outcome.result = ended-by c.args.parts.now c.args.w Finish c.requires.ends c.outcome_of-outcome.result c.outcome_of-outcome.ensures in
    let on : MustGoOn c.args.parts.now c.args.w = must-go-on c.args.parts.now c.args.w Finish c.requires.ends c.outcome_of-outcome.result ended c.requires.ends.asking.solitary in
    let here : Scene = known c.args.parts.now c.args.w on in
    let tasked = c.requires.ends.asking.tasked in
    let facts = c.requires.ends.asking.facts in
    record {
      had = record { on = on; effect = ap effect_in (sym (slot-is c.args.parts.now c.args.w on c.index.result.now c.index.ensures)) ∙ sym c.in-Some.ensures; room = end-room c.round_laws.ensures c.args.parts.now c.args.w c.requires.ends.serving here.past (finished-for c.args.parts.now c.args.w c.requires.ends.serving here.past c.requires.ends.asking.paid) };
      ends = ended;
      facts = facts;
      tasked = tasked;
      paid = finished-for c.args.parts.now c.args.w c.requires.ends.serving here.past c.requires.ends.asking.paid;
      path = λ path is. tasked.lookup.path path here (tasked.laws.sound.ends here (Path path) facts (ended ∙ ap Some is)).0;
      view = λ view is. tasked.lookup.view view here (tasked.laws.sound.ends here (View view) facts (ended ∙ ap Some is)).0;
      leads = λ view is path way. tasked.lookup.leads path way view here (tasked.laws.sound.ends here (View view) facts (ended ∙ ap Some is)).0;
      some = λ view is none. no-view (key_of on.serving.call) on.serving.task (tasked.wayless none) view here (tasked.laws.sound.ends here (View view) facts (ended ∙ ap Some is)).0;
      alone = let a = c.requires.ends.asking.alone in record { others = a.others; made = a.made; counted = a.counted; stands = λ none again. a.stands refl none (ended ∙ ap Some again) };
      swaps = λ is. c.requires.swaps (c.outcome_of-outcome.ensures ∙ ap Some is);
      meant = c.requires.ends.asking.meant;
    }

pub settle_quiet-requires-clause-ends : goal.settle_quiet-requires-clause-ends
settle_quiet-requires-clause-ends c =
    let ended : end_of c.requires.ends.serving.task ≡ Some c.outcome_of-outcome.result = ended-by c.args.parts.now c.args.w Finish c.requires.ends c.outcome_of-outcome.result c.outcome_of-outcome.ensures in
    let on : MustGoOn c.args.parts.now c.args.w = must-go-on c.args.parts.now c.args.w Finish c.requires.ends c.outcome_of-outcome.result ended c.requires.ends.asking.solitary in
    let here : Scene = known c.args.parts.now c.args.w on in
    let tasked = c.requires.ends.asking.tasked in
    let facts = c.requires.ends.asking.facts in
    record {
      on = on;
      tasked = tasked;
      facts = facts;
      end = ended;
      quiet = ap effect_in (sym (slot-is c.args.parts.now c.args.w on c.index.result.now c.index.ensures)) ∙ sym c.in-None.ensures;
      path = λ path is. tasked.lookup.path path here (tasked.laws.sound.ends here (Path path) facts (ended ∙ ap Some is)).0;
      view = λ view is. tasked.lookup.view view here (tasked.laws.sound.ends here (View view) facts (ended ∙ ap Some is)).0;
      full = λ is. let f = c.requires.full (c.outcome_of-outcome.ensures ∙ ap Some is) in (subst (λ z. length c.args.parts.now.slots.free < wants_in z) c.requires.ends.is f.0, f.1);
      found = λ view is. tasked.lookup.found view here (tasked.laws.sound.ends here (Key view) facts (ended ∙ ap Some is)).0;
      leads_found = λ view is path way. tasked.lookup.leads_found path way view here (tasked.laws.sound.ends here (Key view) facts (ended ∙ ap Some is)).0;
      leads = λ view is path way. tasked.lookup.leads path way view here (tasked.laws.sound.ends here (View view) facts (ended ∙ ap Some is)).0;
      alone = let a = c.requires.ends.asking.alone in record { others = a.others; made = a.made; counted = a.counted; stands = λ none again. a.stands refl none (ended ∙ ap Some again) };
      meant = c.requires.ends.asking.meant;
      paid = finished-for c.args.parts.now c.args.w c.requires.ends.serving here.past c.requires.ends.asking.paid;
      some = λ view is none. no-view (key_of on.serving.call) on.serving.task (tasked.wayless none) view here (tasked.laws.sound.ends here (View view) facts (ended ∙ ap Some is)).0;
      some_found = λ view is none. no-key (key_of on.serving.call) on.serving.task (tasked.wayless none) view here (tasked.laws.sound.ends here (Key view) facts (ended ∙ ap Some is)).0;
      swaps = λ is. c.requires.swaps (c.outcome_of-outcome.ensures ∙ ap Some is);
      silent = λ is. sym (ap makes_none_in c.requires.ends.is) ∙ c.requires.crowded (c.outcome_of-outcome.ensures ∙ ap Some is);
    }
