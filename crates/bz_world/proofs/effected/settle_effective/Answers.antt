use Rattle.std.proofs.Common.{◌≡◌, refl, ap, ◌∙◌, Some, sym}
use Rattle.bz_any_task.specs.Duties.{end_of}
use Rattle.bz_any_task.specs.Kinds as kinds
use Rattle.bz_any_task.specs.Kinds.{kind_of}
use Rattle.bz_task.specs.declared.todo.Outcome.TheVariants.{Path, View}
use Rattle.bz_world.specs.Inside.Going.{HasToEnd, known}
use Rattle.bz_world.specs.Inside.Meant.{tries_later}
use Rattle.bz_world.specs.WorldView.{is_delete}
use Rattle.bz_world.proofs.Spared.{ended-spares, path-kind, view-kind}
use Rattle.bz_world.proofs.TakingOn.{call-is}
use Rattle.bz_world.proofs.effected.settle_effective.Goals as goal
use Rattle.bz_world.proofs.MergeEnds.{no-delete-key}

pub try_next-requires-clause-found : goal.try_next-requires-clause-found
try_next-requires-clause-found c =
    let e = c.requires.ends in
    let ended : end_of e.had.on.serving.task ≡ Some (Path c.in-Path.path) = e.ends ∙ ap Some c.in-Path.is in
    let kind : kind_of e.had.on.serving.task ≡ kinds.Seek = path-kind (kind_of e.had.on.serving.task) c.in-Path.path (e.tasked.laws.ends_of (Path c.in-Path.path) (known c.args.parts.now c.args.w e.had.on) (e.tasked.laws.sound.ends (known c.args.parts.now c.args.w e.had.on) (Path c.in-Path.path) e.facts ended).0) in
    record {
      had = e.had;
      deletes = ap is_delete (call-is c.args.parts.now c.args.w e.had.on c.index.result.now c.called.result c.index.ensures c.called.ensures ∙ c.in-Delete.is);
      kind = kind;
      ends = ended;
      leads = e.path c.in-Path.path c.in-Path.is;
      spares = ended-spares c.round_laws.ensures c.args.parts.now c.args.w e.had.on (Path c.in-Path.path) kinds.Seek kind refl ended (λ e. cc e) e.paid;
    }

pub settle_small-requires-clause-read : goal.settle_small-requires-clause-read
settle_small-requires-clause-read c =
    let e = c.requires.ends in
    let ended : end_of e.had.on.serving.task ≡ Some (View c.in-View.view) = e.ends ∙ ap Some c.in-View.is in
    let kind : kind_of e.had.on.serving.task ≡ kinds.ReadWhole = view-kind (kind_of e.had.on.serving.task) c.in-View.view (e.tasked.laws.ends_of (View c.in-View.view) (known c.args.parts.now c.args.w e.had.on) (e.tasked.laws.sound.ends (known c.args.parts.now c.args.w e.had.on) (View c.in-View.view) e.facts ended).0) in
    record {
      had = e.had;
      kind = kind;
      first = e.meant.first (ap tries_later kind);
      some = e.some c.in-View.view c.in-View.is;
      ends = ended;
      deletes = ap is_delete (call-is c.args.parts.now c.args.w e.had.on c.index.result.now c.called.result c.index.ensures c.called.ensures ∙ c.in-Delete.is);
      viewed = e.view c.in-View.view c.in-View.is;
      leads = e.leads c.in-View.view c.in-View.is;
      spares = ended-spares c.round_laws.ensures c.args.parts.now c.args.w e.had.on (View c.in-View.view) kinds.ReadWhole kind refl ended (λ e. cc e) e.paid;
    }

pub end_effective-requires : goal.end_effective-requires
end_effective-requires c =
    let e = c.requires.ends in
    let ends : HasToEnd c.args.parts.now c.args.w c.args.at = record {
      had = e.had;
      merged = λ solitary deletes may. absurd (no-delete-key e.had.on.serving.call deletes (λ key is. c.in_default.not-Delete key (sym (call-is c.args.parts.now c.args.w e.had.on c.index.result.now c.called.result c.index.ensures c.called.ensures) ∙ is)));
    } in
    record { had = ends; room = c.requires.room }

pub settle_tried-requires-clause-tried : goal.settle_tried-requires-clause-tried
settle_tried-requires-clause-tried c =
    let e = c.requires.ends in
    record {
      ends = e;
      deletes = ap is_delete (call-is c.args.parts.now c.args.w e.had.on c.index.result.now c.called.result c.index.ensures c.called.ensures ∙ c.in-Delete.is);
      no_path = λ path is. c.in_default-outcome.not-Path path is;
      no_view = λ view is. c.in_default-outcome.not-View view is;
    }
