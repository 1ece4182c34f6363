use Rattle.std.proofs.Common.{◌≡◌, refl, sym, ap, subst, ◌∙◌, ◌<◌, ◌≤◌, ◌+◌, length, arith, Option, Some, None}
use Rattle.std.specs.Prelude.{get_or}
use Rattle.std.specs.Global.{Vec}
use Rattle.std.specs.Vec.{with_item}
use Rattle.bz_layout.specs.declared.thresholds.TheConstants.{SPLIT_SLOTS}
use Rattle.bz_task.specs.declared.todo.Seen.TheVariants.{Start}
use Rattle.bz_world.specs.Inside.Going.{with_change, end_in, needs_in}
use Rattle.bz_world.specs.Inside.Solitary.{IsNotSolitaryIn}
use Rattle.bz_world.specs.declared.parts.Parts.{Parts}
use Rattle.bz_world.specs.declared.serving.OpenCall.{OpenCall}
use Rattle.bz_world.proofs.Changing.{tells-nothing}
use Rattle.bz_world.proofs.ChangesTold.{takes, has-heard, ends-crowded}
use Rattle.bz_world.proofs.TakingOn.{taken-begins, begins-knowing, here-is, slot-is, told-went, told-other, went-anew}
use Rattle.bz_world.proofs.Supplies.{told-few, told-fewer}
use Rattle.bz_world.proofs.changes.begin_change.Goals as goal

pub tell-todo-requires : goal.tell-todo-requires
tell-todo-requires c = taken-begins c.args.parts.now c.args.w c.args.task c.args.had None c.requires.change.reads.on.serving.path (takes c.undisturbed_laws.ensures.rounds c.args.parts.now c.args.w c.args.had c.args.task c.requires.change) c.set_change.new.slot slot
    (tells-nothing c.args.parts.now c.args.w c.requires.change.reads.on c.args.had c.requires.change.reads.quiet) c.undisturbed_laws.ensures refl
  where
    slot : c.set_change.new.slot ≡ Some (record c.requires.change.reads.on.serving { task = c.args.task; had = c.args.had })
    slot = c.set_change.ensures ∙ ap (λ (z : Option OpenCall). with_change z c.args.task c.args.had) (slot-is c.args.parts.now c.args.w c.requires.change.reads.on c.index_mut.result.now c.index_mut.ensures.value)

pub go_on_changing-requires-clause-asks : goal.go_on_changing-requires-clause-asks
go_on_changing-requires-clause-asks c = c.tell-todo.ensures.knows
    (begins-knowing c.args.parts.now c.args.w c.args.task c.args.had None c.requires.change.reads.on.serving.path (takes c.undisturbed_laws.ensures.rounds c.args.parts.now c.args.w c.args.had c.args.task c.requires.change) c.set_change.new.slot slot
    (tells-nothing c.args.parts.now c.args.w c.requires.change.reads.on c.args.had c.requires.change.reads.quiet) c.undisturbed_laws.ensures refl c.requires.change.reads.leads c.requires.change.reads.quiet c.requires.change.reads.some refl (record { slotless = omega (arith, c.requires.change.tasked.laws.few, c.requires.change.wants); spares = c.requires.change.spares; lacks = c.requires.change.lacks }))
  where
    slot : c.set_change.new.slot ≡ Some (record c.requires.change.reads.on.serving { task = c.args.task; had = c.args.had })
    slot = c.set_change.ensures ∙ ap (λ (z : Option OpenCall). with_change z c.args.task c.args.had) (slot-is c.args.parts.now c.args.w c.requires.change.reads.on c.index_mut.result.now c.index_mut.ensures.value)

pub go_on_changing-requires-clause-ends : goal.go_on_changing-requires-clause-ends
go_on_changing-requires-clause-ends c ends = ap end_in c.tell-todo.ensures.asks.is
    ∙ ends-crowded c.undisturbed_laws.ensures c.args.parts.now c.args.w c.args.had c.args.task c.requires.change c.tell-todo.new.parts c.tell-todo.result c.tell-todo.ensures.asks (length c.args.parts.now.journal.past) c.args.parts.now.slots c.tell-todo.new.parts.slots
    (has-heard (record c.requires.change.reads.on.serving { task = c.args.task; had = c.args.had }) (get_or workers.items c.args.w None) c.tell-todo.new.parts c.args.w c.tell-todo.result c.tell-todo.ensures.asks (length c.args.parts.now.journal.past) c.args.parts.now.slots c.tell-todo.new.parts.slots served c.tell-todo.ensures.told) ends
  where
    workers : Vec (Option OpenCall)
    workers = with_item c.args.parts.now.workers c.args.w c.set_change.new.slot

    served : get_or workers.items c.args.w None ≡ Some (record c.requires.change.reads.on.serving { task = c.args.task; had = c.args.had })
    served = here-is c.args.parts.now c.args.w c.args.task c.args.had None c.requires.change.reads.on.serving.path (takes c.undisturbed_laws.ensures.rounds c.args.parts.now c.args.w c.args.had c.args.task c.requires.change) c.set_change.new.slot
        (c.set_change.ensures ∙ ap (λ (z : Option OpenCall). with_change z c.args.task c.args.had) (slot-is c.args.parts.now c.args.w c.requires.change.reads.on c.index_mut.result.now c.index_mut.ensures.value))
        (tells-nothing c.args.parts.now c.args.w c.requires.change.reads.on c.args.had c.requires.change.reads.quiet)

pub go_on_changing-requires-clause-other : goal.go_on_changing-requires-clause-other
go_on_changing-requires-clause-other c = subst (λ (z : Parts). IsNotSolitaryIn z.journal.past c.args.w (get_or c.tell-todo.new.parts.workers.items c.args.w None)) (sym c.tell-todo.ensures.rest)
    (told-other (get_or workers.items c.args.w None) (get_or c.tell-todo.new.parts.workers.items c.args.w None) Start (length c.args.parts.now.journal.past) c.args.parts.now.slots c.tell-todo.result c.tell-todo.new.parts.slots c.tell-todo.ensures.told
    c.args.parts.now.journal.past c.args.w (subst (IsNotSolitaryIn c.args.parts.now.journal.past c.args.w) (sym served) c.requires.change.reads.other))
  where
    workers : Vec (Option OpenCall)
    workers = with_item c.args.parts.now.workers c.args.w c.set_change.new.slot

    served : get_or workers.items c.args.w None ≡ Some (record c.requires.change.reads.on.serving { task = c.args.task; had = c.args.had })
    served = here-is c.args.parts.now c.args.w c.args.task c.args.had None c.requires.change.reads.on.serving.path (takes c.undisturbed_laws.ensures.rounds c.args.parts.now c.args.w c.args.had c.args.task c.requires.change) c.set_change.new.slot
        (c.set_change.ensures ∙ ap (λ (z : Option OpenCall). with_change z c.args.task c.args.had) (slot-is c.args.parts.now c.args.w c.requires.change.reads.on c.index_mut.result.now c.index_mut.ensures.value))
        (tells-nothing c.args.parts.now c.args.w c.requires.change.reads.on c.args.had c.requires.change.reads.quiet)

pub go_on_changing-requires-clause-room : goal.go_on_changing-requires-clause-room
go_on_changing-requires-clause-room c = subst (λ (z : Parts). length z.journal.past < z.config.marks) (sym c.tell-todo.ensures.rest) c.requires.room

pub returns : goal.returns
returns c = went-anew c.args.parts.now workers c.args.parts.now.page c.args.w c.go_on_changing.result c.go_on_changing.new.parts
    (told-went (record c.args.parts.now { workers = workers }) c.tell-todo.new.parts c.args.w c.go_on_changing.result c.go_on_changing.new.parts c.tell-todo.ensures.rest fewer (omega (arith, none, most)) c.go_on_changing.ensures)
  where
    workers : Vec (Option OpenCall)
    workers = with_item c.args.parts.now.workers c.args.w c.set_change.new.slot

    served : get_or workers.items c.args.w None ≡ Some (record c.requires.change.reads.on.serving { task = c.args.task; had = c.args.had })
    served = here-is c.args.parts.now c.args.w c.args.task c.args.had None c.requires.change.reads.on.serving.path (takes c.undisturbed_laws.ensures.rounds c.args.parts.now c.args.w c.args.had c.args.task c.requires.change) c.set_change.new.slot
        (c.set_change.ensures ∙ ap (λ (z : Option OpenCall). with_change z c.args.task c.args.had) (slot-is c.args.parts.now c.args.w c.requires.change.reads.on c.index_mut.result.now c.index_mut.ensures.value))
        (tells-nothing c.args.parts.now c.args.w c.requires.change.reads.on c.args.had c.requires.change.reads.quiet)

    -- a change takes no slot
    none : length c.args.parts.now.slots.free ≤ length c.tell-todo.new.parts.slots.free
    none = omega (
      arith,
      told-few (get_or workers.items c.args.w None) (get_or c.tell-todo.new.parts.workers.items c.args.w None) Start (length c.args.parts.now.journal.past) c.args.parts.now.slots c.tell-todo.result c.tell-todo.new.parts.slots c.tell-todo.ensures.told,
      ap needs_in served,
      c.requires.change.tasked.laws.few,
      c.requires.change.wants,
    )

    fewer : length c.tell-todo.new.parts.slots.free ≤ length c.args.parts.now.slots.free
    fewer = told-fewer (get_or workers.items c.args.w None) (get_or c.tell-todo.new.parts.workers.items c.args.w None) Start (length c.args.parts.now.journal.past) c.args.parts.now.slots c.tell-todo.result c.tell-todo.new.parts.slots c.tell-todo.ensures.told

    most : length c.tell-todo.new.parts.slots.free ≤ length c.go_on_changing.new.parts.slots.free + SPLIT_SLOTS
    most = c.go_on_changing.ensures.spends.few
