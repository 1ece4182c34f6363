use Rattle.std.proofs.Common.{◌≡◌, sym, ap, subst, ◌∙◌, inl, Some, is_some}
use Rattle.std.proofs.lemmas.Bool.{true≢false}
use Rattle.std.specs.Prelude.{IfSome, Option}
use Rattle.bz_any_task.specs.declared.running.AnyTask.{AnyTask}
use Rattle.bz_world.specs.Inside.Going.{CanGoUpIn, GoesUpIn, MayGoUpIn, StandsBelowIn, known}
use Rattle.bz_world.specs.declared.serving.OpenCall.{OpenCall}
use Rattle.bz_task.specs.declared.todo.Outcome.TheVariants.{NeedsRoom}
use Rattle.bz_world.proofs.Exactly.{again-ended, no-look-up}
use Rattle.bz_world.proofs.GoingUp.{crowded-other, crowded-pays}
use Rattle.bz_world.proofs.TakingOn.{slot-is}
use Rattle.bz_world.proofs.settle.settle_crowded.Goals as goal

pub above-requires : goal.above-requires
above-requires c =
    let e = c.requires.ends in
    subst (λ (z : Option OpenCall). CanGoUpIn z c.args.parts.now.config) (sym (slot-is c.args.parts.now c.args.w e.on c.index.result.now c.index.ensures))
    (record { config = e.tasked.config; known = record { scene = known c.args.parts.now c.args.w e.on; facts = e.facts } })

pub split_above-requires-clause-up : goal.split_above-requires-clause-up
split_above-requires-clause-up c =
    let e = c.requires.ends in
    let found = subst (λ (z : Option AnyTask). IfSome z (GoesUpIn c.index.result.now)) c.in-Some.is c.above.ensures.up in
    record { ends = e; up = subst (λ (z : Option OpenCall). GoesUpIn z c.in-Some.task) (slot-is c.args.parts.now c.args.w e.on c.index.result.now c.index.ensures) found }

pub look_up_unmerged-requires : goal.look_up_unmerged-requires
look_up_unmerged-requires c = record {
  on = c.requires.ends.on;
  may = inl c.requires.ends.quiet;
  stands = λ solitary at is deletes. absurd (cc (c.requires.ends.quiet, is));
  over = λ delete none. absurd (cc (c.requires.ends.end, none));
  again = no-look-up c.args.parts.now c.args.w c.requires.ends.on (again-ended c.args.parts.now c.args.w c.requires.ends.on c.requires.ends.quiet NeedsRoom c.requires.ends.end (c.requires.ends.tasked.laws.ends_of NeedsRoom (known c.args.parts.now c.args.w c.requires.ends.on) (c.requires.ends.tasked.laws.sound.ends (known c.args.parts.now c.args.w c.requires.ends.on) NeedsRoom c.requires.ends.facts c.requires.ends.end).0) (λ e. e) (λ e. e));
  other = crowded-other c.args.parts.now c.args.w c.requires.ends;
  pays = crowded-pays c.start_laws.ensures.solo c.args.parts.now c.args.w c.requires.ends (subst StandsBelowIn here c.above.ensures.stands)
      (λ up. true≢false (sym (c.above.ensures.due (subst MayGoUpIn (sym here) up)) ∙ ap is_some c.in-None.is));
}
  where
    here : c.index.result.now ≡ Some c.requires.ends.on.serving
    here = slot-is c.args.parts.now c.args.w c.requires.ends.on c.index.result.now c.index.ensures
