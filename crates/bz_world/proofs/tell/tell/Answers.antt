use Rattle.std.proofs.Common.{◌≡◌, ◌<◌, length, refl, sym, ap, subst, ◌∙◌, arith, Some, None, get_or, slice_set}
use Rattle.std.proofs.lemmas.List.{get_or_read_under, get_or-set_same}
use Rattle.std.specs.Vec.{with_item}
use Rattle.bz_call.specs.declared.replies.Spent.TheVariants.{Nodes}
use Rattle.bz_refinement.proofs.Proved.{scenes_are_seen, slots_are_taken}
use Rattle.bz_world.specs.Inside.Going.{end_in, wants_in}
use Rattle.bz_world.specs.Inside.Paid.{begun_with}
use Rattle.bz_world.specs.WorldView.{HadFew, RunsWhole}
use Rattle.bz_world.specs.Inside.Telling.{CanHear, HasToldIn}
use Rattle.bz_world.proofs.Telling.{can-hear, full-rightly, lacked-told, must-start, still-knows}
use Rattle.bz_world.proofs.Roomless.{room-found}
use Rattle.bz_world.proofs.tell.tell.Goals as goal

pub hear_task-requires : goal.hear_task-requires
hear_task-requires c = subst (λ m. CanHear c.index_mut.result.now c.args.seen m c.args.parts.now.slots) (sym c.length-moment.ensures) (can-hear scenes_are_seen slots_are_taken c.solitary_laws.ensures c.undisturbed_laws.ensures c.args.parts.now c.args.w c.args.seen c.requires c.index_mut.result.now was)
  where
    was : c.index_mut.result.now ≡ Some c.requires.serving
    was = get_or_read_under c.args.parts.now.workers.items c.args.w (length c.args.parts.now.workers.items) c.index_mut.result.now None c.index_mut.ensures.value
        (omega (arith, c.requires.told.between.within, c.requires.told.between.tabled.places, c.requires.told.between.tabled.config.workers_in_range.at_most)) refl ∙ c.requires.is

pub returns-clause-asks : goal.returns-clause-asks
returns-clause-asks c = must-start scenes_are_seen slots_are_taken c.solitary_laws.ensures c.undisturbed_laws.ensures c.args.parts.now c.args.w c.args.seen c.requires c.hear_task.result c.hear_task.new.slots c.index_mut.result.now c.hear_task.new.slot was
    (subst (λ m. HasToldIn c.index_mut.result.now c.args.seen m c.args.parts.now.slots c.hear_task.result c.hear_task.new.slot c.hear_task.new.slots) c.length-moment.ensures c.hear_task.ensures)
  where
    was : c.index_mut.result.now ≡ Some c.requires.serving
    was = get_or_read_under c.args.parts.now.workers.items c.args.w (length c.args.parts.now.workers.items) c.index_mut.result.now None c.index_mut.ensures.value
        (omega (arith, c.requires.told.between.within, c.requires.told.between.tabled.places, c.requires.told.between.tabled.config.workers_in_range.at_most)) refl ∙ c.requires.is

pub returns-clause-told : goal.returns-clause-told
returns-clause-told c =
    subst (λ z. HasToldIn z c.args.seen (length c.args.parts.now.journal.past) c.args.parts.now.slots c.hear_task.result (get_or (slice_set c.args.parts.now.workers.items c.args.w c.hear_task.new.slot) c.args.w None) c.hear_task.new.slots) was
    (subst (λ z. HasToldIn c.index_mut.result.now c.args.seen (length c.args.parts.now.journal.past) c.args.parts.now.slots c.hear_task.result z c.hear_task.new.slots) (sym (get_or-set_same c.args.parts.now.workers.items c.args.w c.hear_task.new.slot None in-table))
    (subst (λ m. HasToldIn c.index_mut.result.now c.args.seen m c.args.parts.now.slots c.hear_task.result c.hear_task.new.slot c.hear_task.new.slots) c.length-moment.ensures c.hear_task.ensures))
  where
    in-table : c.args.w < length c.args.parts.now.workers.items
    in-table = omega (arith, c.requires.told.between.within, c.requires.told.between.tabled.places, c.requires.told.between.tabled.config.workers_in_range.at_most)

    was : c.index_mut.result.now ≡ get_or c.args.parts.now.workers.items c.args.w None
    was = get_or_read_under c.args.parts.now.workers.items c.args.w (length c.args.parts.now.workers.items) c.index_mut.result.now None c.index_mut.ensures.value in-table refl

pub returns-clause-full : goal.returns-clause-full
returns-clause-full c ended = (subst (λ z. length c.hear_task.new.slots.free < wants_in z) (sym (get_or-set_same c.args.parts.now.workers.items c.args.w c.hear_task.new.slot None in-table)) rightly.0, rightly.1)
  where
    in-table : c.args.w < length c.args.parts.now.workers.items
    in-table = omega (arith, c.requires.told.between.within, c.requires.told.between.tabled.places, c.requires.told.between.tabled.config.workers_in_range.at_most)

    was : c.index_mut.result.now ≡ Some c.requires.serving
    was = get_or_read_under c.args.parts.now.workers.items c.args.w (length c.args.parts.now.workers.items) c.index_mut.result.now None c.index_mut.ensures.value in-table refl ∙ c.requires.is

    rightly : (length c.hear_task.new.slots.free < wants_in c.hear_task.new.slot) × (RunsWhole c.args.parts.now.config c.args.w c.args.parts.now.journal.past → HadFew c.args.parts.now.config (begun_with c.args.parts.now) Nodes)
    rightly =
        full-rightly c.undisturbed_laws.ensures.rounds c.args.parts.now c.args.w c.args.seen c.requires c.length-moment.result c.hear_task.result c.hear_task.new.slot c.hear_task.new.slots
        (subst (λ z. HasToldIn z c.args.seen c.length-moment.result c.args.parts.now.slots c.hear_task.result c.hear_task.new.slot c.hear_task.new.slots) was c.hear_task.ensures)
        (ap end_in (sym (get_or-set_same c.args.parts.now.workers.items c.args.w c.hear_task.new.slot None in-table)) ∙ ended)

pub returns-clause-swaps : goal.returns-clause-swaps
returns-clause-swaps c other ended = other (lacked-told c.args.parts.now c.args.w c.args.seen c.requires c.length-moment.result c.hear_task.result c.hear_task.new.slot c.hear_task.new.slots (subst (λ z. HasToldIn z c.args.seen c.length-moment.result c.args.parts.now.slots c.hear_task.result c.hear_task.new.slot c.hear_task.new.slots) was c.hear_task.ensures)
    (ap end_in (sym (get_or-set_same c.args.parts.now.workers.items c.args.w c.hear_task.new.slot None in-table)) ∙ ended))
  where
    in-table : c.args.w < length c.args.parts.now.workers.items
    in-table = omega (arith, c.requires.told.between.within, c.requires.told.between.tabled.places, c.requires.told.between.tabled.config.workers_in_range.at_most)

    was : c.index_mut.result.now ≡ Some c.requires.serving
    was = get_or_read_under c.args.parts.now.workers.items c.args.w (length c.args.parts.now.workers.items) c.index_mut.result.now None c.index_mut.ensures.value in-table refl ∙ c.requires.is

pub returns-clause-crowded : goal.returns-clause-crowded
returns-clause-crowded c other = room-found c.args.parts.now c.args.w c.args.seen c.requires other (record c.args.parts.now { slots = c.hear_task.new.slots; workers = with_item c.args.parts.now.workers c.args.w c.hear_task.new.slot }) c.hear_task.result (returns-clause-asks c)
    (length c.args.parts.now.journal.past) c.args.parts.now.slots c.hear_task.new.slots (returns-clause-told c)

pub returns-clause-knows : goal.returns-clause-knows
returns-clause-knows c m = still-knows scenes_are_seen slots_are_taken c.solitary_laws.ensures c.undisturbed_laws.ensures c.args.parts.now c.args.w c.args.seen m.must m.knows c.hear_task.result c.hear_task.new.slots c.index_mut.result.now c.hear_task.new.slot was
    (subst (λ n. HasToldIn c.index_mut.result.now c.args.seen n c.args.parts.now.slots c.hear_task.result c.hear_task.new.slot c.hear_task.new.slots) c.length-moment.ensures c.hear_task.ensures)
  where
    was : c.index_mut.result.now ≡ Some m.must.serving
    was = get_or_read_under c.args.parts.now.workers.items c.args.w (length c.args.parts.now.workers.items) c.index_mut.result.now None c.index_mut.ensures.value
        (omega (arith, m.must.told.between.within, m.must.told.between.tabled.places, m.must.told.between.tabled.config.workers_in_range.at_most)) refl ∙ m.must.is
