use Rattle.std.proofs.Common.{◌≡◌, refl, ap, subst, ◌∙◌, inl, Some, is_some}
use Rattle.bz_solo.specs.Errands.{IsLookOf}
use Rattle.bz_any_task.specs.Duties.{end_of}
use Rattle.bz_any_task.specs.Kinds as kinds
use Rattle.bz_any_task.specs.Kinds.{kind_of}
use Rattle.bz_task.specs.declared.todo.Outcome.TheVariants.{Path, View, Key, Done, Restart}
use Rattle.bz_world.specs.Inside.Going.{HasEnded, known}
use Rattle.bz_world.specs.Inside.Paid.{bound_in, errand_of, used_in}
use Rattle.bz_world.proofs.Endings.{restarts}
use Rattle.bz_world.proofs.Exactly.{again-ended, again-restart, no-look-up}
use Rattle.bz_world.proofs.SolitaryEnds.{other-ended}
use Rattle.bz_world.proofs.Spared.{ended-spares, path-kind, key-kind, view-kind}
use Rattle.bz_world.proofs.settle.settle_quiet.Goals as goal

pub look_into-requires-clause-path : goal.look_into-requires-clause-path
look_into-requires-clause-path c =
    let e = c.requires.ends in
    let ended : end_of e.on.serving.task ≡ Some (Path c.in-Path.path) = e.end ∙ ap Some c.in-Path.is in
    let kind : kind_of e.on.serving.task ≡ kinds.Seek = path-kind (kind_of e.on.serving.task) c.in-Path.path (e.tasked.laws.ends_of (Path c.in-Path.path) (known c.args.parts.now c.args.w e.on) (e.tasked.laws.sound.ends (known c.args.parts.now c.args.w e.on) (Path c.in-Path.path) e.facts ended).0) in
    record {
      on = e.on;
      quiet = e.quiet;
      leads = e.path c.in-Path.path c.in-Path.is;
      ends = (e.facts, ended);
      kind = kind;
      spares = ended-spares c.round_laws.ensures c.args.parts.now c.args.w e.on (Path c.in-Path.path) kinds.Seek kind refl ended (λ e. cc e) e.paid;
    }

pub answer-requires-clause-view : goal.answer-requires-clause-view
answer-requires-clause-view c =
    let e = c.requires.ends in
    let ended : end_of e.on.serving.task ≡ Some (Key c.in-Key.view) = e.end ∙ ap Some c.in-Key.is in
    let kind : kind_of e.on.serving.task ≡ kinds.Find = key-kind (kind_of e.on.serving.task) c.in-Key.view (e.tasked.laws.ends_of (Key c.in-Key.view) (known c.args.parts.now c.args.w e.on) (e.tasked.laws.sound.ends (known c.args.parts.now c.args.w e.on) (Key c.in-Key.view) e.facts ended).0) in
    record {
      on = e.on;
      viewed = e.found c.in-Key.view c.in-Key.is;
      leads = e.leads_found c.in-Key.view c.in-Key.is;
      some = e.some_found c.in-Key.view c.in-Key.is;
      quiet = e.quiet;
      ends = (e.facts, ended);
      kind = kind;
      spares = ended-spares c.round_laws.ensures c.args.parts.now c.args.w e.on (Key c.in-Key.view) kinds.Find kind refl ended (λ e. cc e) e.paid;
      look = subst (IsLookOf e.on.serving.call) kind (e.meant.look e.quiet);
    }

pub answer_whole-requires-clause-view : goal.answer_whole-requires-clause-view
answer_whole-requires-clause-view c =
    let e = c.requires.ends in
    let ended : end_of e.on.serving.task ≡ Some (View c.in-View.view) = e.end ∙ ap Some c.in-View.is in
    let kind : kind_of e.on.serving.task ≡ kinds.ReadWhole = view-kind (kind_of e.on.serving.task) c.in-View.view (e.tasked.laws.ends_of (View c.in-View.view) (known c.args.parts.now c.args.w e.on) (e.tasked.laws.sound.ends (known c.args.parts.now c.args.w e.on) (View c.in-View.view) e.facts ended).0) in
    record {
      on = e.on;
      viewed = e.view c.in-View.view c.in-View.is;
      leads = e.leads c.in-View.view c.in-View.is;
      some = e.some c.in-View.view c.in-View.is;
      quiet = e.quiet;
      other = other-ended c.args.parts.now c.args.w e.on (View c.in-View.view) ended (λ path e. cc e) (λ view e. cc e);
      spares = ended-spares c.round_laws.ensures c.args.parts.now c.args.w e.on (View c.in-View.view) kinds.ReadWhole kind refl ended (λ e. cc e) e.paid;
      look = subst (IsLookOf e.on.serving.call) kind (e.meant.look e.quiet);
      kind = kind;
    }

pub settle_full-requires-clause-ends : goal.settle_full-requires-clause-ends
settle_full-requires-clause-ends c = subst (HasEnded c.args.parts.now c.args.w) c.in-Full.is c.requires.ends

pub settle_crowded-requires-clause-ends : goal.settle_crowded-requires-clause-ends
settle_crowded-requires-clause-ends c = subst (HasEnded c.args.parts.now c.args.w) c.in-NeedsRoom.is c.requires.ends

pub look_up_frozen-requires : goal.look_up_frozen-requires
look_up_frozen-requires c =
    let e = c.requires.ends in
    let ended : end_of e.on.serving.task ≡ Some Done = e.end ∙ ap Some c.in-Done.is in
    record {
      on = e.on;
      may = inl e.quiet;
      stands = λ solitary at is deletes. absurd (cc (e.quiet, is));
      over = λ delete none. absurd (cc (ended, none));
      again = no-look-up c.args.parts.now c.args.w e.on (again-ended c.args.parts.now c.args.w e.on e.quiet Done ended (e.tasked.laws.ends_of Done (known c.args.parts.now c.args.w e.on) (e.tasked.laws.sound.ends (known c.args.parts.now c.args.w e.on) Done e.facts ended).0) (λ e. e) (λ e. e));
      other = other-ended c.args.parts.now c.args.w e.on Done ended (λ path e. cc e) (λ view e. cc e);
      pays = λ r counted. (c.round_laws.ensures.rounds r).done c.args.parts.now.access c.args.w (errand_of e.on.serving) e.on.serving.task (used_in r c.args.parts.now c.args.w) (bound_in r c.args.parts.now c.args.w) (known c.args.parts.now c.args.w e.on).past (ap is_some e.quiet) ended (e.paid r counted);
    }

pub look_up-requires : goal.look_up-requires
look_up-requires c =
    let e = c.requires.ends in
    let again : c.args.outcome ≡ Restart = restarts (kind_of e.on.serving.task) c.args.outcome (e.tasked.laws.ends_of c.args.outcome (known c.args.parts.now c.args.w e.on) (e.tasked.laws.sound.ends (known c.args.parts.now c.args.w e.on) c.args.outcome e.facts e.end).0)
    (λ path e. c.in_default.not-Path path e) (λ view e. c.in_default.not-Key view e) (λ view e. c.in_default.not-View view e) (λ spent e. c.in_default.not-Full spent e) (λ e. c.in_default.not-NeedsRoom e) (λ e. c.in_default.not-Done e) in
    record {
      on = e.on;
      may = inl e.quiet;
      stands = λ solitary at is deletes. absurd (cc (e.quiet, is));
      over = λ delete none. absurd (cc (e.end, none));
      again = no-look-up c.args.parts.now c.args.w e.on (again-restart c.args.parts.now c.args.w e.on e.quiet (e.end ∙ ap Some again) e.alone.others e.alone.made e.alone.counted (λ none. e.alone.stands none again));
      other = other-ended c.args.parts.now c.args.w e.on c.args.outcome e.end (λ path e. c.in_default.not-Path path e) (λ view e. c.in_default.not-Key view e);
      pays = λ r counted. (c.round_laws.ensures.rounds r).restart c.args.parts.now.access c.args.w (errand_of e.on.serving) e.on.serving.task (used_in r c.args.parts.now c.args.w) (bound_in r c.args.parts.now c.args.w) (known c.args.parts.now c.args.w e.on).past (ap is_some e.quiet) (e.end ∙ ap Some again) (e.paid r counted);
    }
