use Rattle.std.proofs.Common.{◌≡◌, inl, Some, refl, ap, subst, ◌∙◌, is_some}
use Rattle.bz_any_task.specs.Duties.{end_of, means_of}
use Rattle.bz_any_task.specs.Ends.{IsEndOf}
use Rattle.bz_task.specs.declared.todo.Outcome.TheVariants.{Key, Restart}
use Rattle.bz_task.specs.declared.todo.Todo.TheVariants.{Finish}
use Rattle.bz_world.specs.Inside.Going.{MustGoOn, known}
use Rattle.bz_world.specs.Inside.Paid.{bound_in, errand_of, used_in}
use Rattle.bz_world.proofs.PaidSteps.{finished-for}
use Rattle.bz_world.proofs.Endings.{find-restarts}
use Rattle.bz_world.proofs.Exactly.{again-restart, no-look-up}
use Rattle.bz_world.proofs.Spared.{ended-spares}
use Rattle.bz_any_task.specs.Kinds as kinds
use Rattle.bz_solo.specs.Errands.{IsLookOf}
use Rattle.bz_world.proofs.SolitaryEnds.{other-found}
use Rattle.bz_world.proofs.TakingOn.{must-go-on, ended-by}
use Rattle.bz_world.proofs.settle.settle_found.Goals as goal

pub answer-requires-clause-view : goal.answer-requires-clause-view
answer-requires-clause-view c =
    let s = c.requires.ends.start in
    let ended : end_of s.must.serving.task ≡ Some (Key c.in-Key.view) = ended-by c.args.parts.now c.args.w Finish s.must (Key c.in-Key.view) c.in-Key.ensures in
    let on : MustGoOn c.args.parts.now c.args.w = must-go-on c.args.parts.now c.args.w Finish s.must (Key c.in-Key.view) ended s.must.asking.solitary in
    record {
      on = on;
      viewed = s.must.asking.tasked.lookup.found c.in-Key.view (known c.args.parts.now c.args.w on) (s.must.asking.tasked.laws.sound.ends (known c.args.parts.now c.args.w on) (Key c.in-Key.view) s.must.asking.facts ended).0;
      leads = s.knows.leads;
      some = s.knows.some;
      quiet = s.knows.quiet;
      ends = (s.must.asking.facts, ended);
      kind = c.requires.ends.kind;
      spares = ended-spares c.round_laws.ensures c.args.parts.now c.args.w on (Key c.in-Key.view) kinds.Find c.requires.ends.kind refl ended (λ e. cc e) (finished-for c.args.parts.now c.args.w s.must.serving (known c.args.parts.now c.args.w on).past s.must.asking.paid);
      look = subst (IsLookOf s.must.serving.call) c.requires.ends.kind (s.must.asking.meant.look s.knows.quiet);
    }

pub look_up-requires : goal.look_up-requires
look_up-requires c =
    let s = c.requires.ends.start in
    let ended : end_of s.must.serving.task ≡ Some c.outcome_of.result = ended-by c.args.parts.now c.args.w Finish s.must c.outcome_of.result c.outcome_of.ensures in
    let on : MustGoOn c.args.parts.now c.args.w = must-go-on c.args.parts.now c.args.w Finish s.must c.outcome_of.result ended s.must.asking.solitary in
    let means : means_of s.must.serving.task c.outcome_of.result (known c.args.parts.now c.args.w on) = (s.must.asking.tasked.laws.sound.ends (known c.args.parts.now c.args.w on) c.outcome_of.result s.must.asking.facts ended).0 in
    let again : c.outcome_of.result ≡ Restart = find-restarts c.outcome_of.result (subst (λ k. IsEndOf k c.outcome_of.result) c.requires.ends.kind (s.must.asking.tasked.laws.ends_of c.outcome_of.result (known c.args.parts.now c.args.w on) means)) (λ view e. c.in_default.not-Key view e) in
    record {
      on = on;
      may = inl s.knows.quiet;
      stands = λ solitary at is deletes. absurd (cc (s.knows.quiet, is));
      over = λ delete none. absurd (cc (ended, none));
      again = no-look-up c.args.parts.now c.args.w on (again-restart c.args.parts.now c.args.w on s.knows.quiet (ended ∙ ap Some again) s.must.asking.alone.others s.must.asking.alone.made s.must.asking.alone.counted (λ none. s.must.asking.alone.stands refl none (ended ∙ ap Some again)));
      other = other-found c.args.parts.now c.args.w on c.outcome_of.result ended c.requires.ends.path c.requires.ends.found (λ view e. c.in_default.not-Key view e);
      pays = λ r counted. (c.round_laws.ensures.rounds r).restart c.args.parts.now.access c.args.w (errand_of s.must.serving) s.must.serving.task (used_in r c.args.parts.now c.args.w) (bound_in r c.args.parts.now c.args.w) (known c.args.parts.now c.args.w on).past (ap is_some s.knows.quiet) (ended ∙ ap Some again)
          (finished-for c.args.parts.now c.args.w s.must.serving (known c.args.parts.now c.args.w on).past s.must.asking.paid r counted);
    }
