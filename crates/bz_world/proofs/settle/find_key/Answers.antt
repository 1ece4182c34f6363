use Rattle.std.proofs.Common.{◌≡◌, ◌≤◌, ◌<◌, ◌+◌, length, arith, refl, sym, ap, subst, ◌∙◌, Option, Some, None, false}
use Rattle.std.specs.Prelude.{get_or}
use Rattle.std.specs.Global.{Vec}
use Rattle.std.specs.Vec.{with_item}
use Rattle.bz_call.specs.Map.{key_of}
use Rattle.bz_layout.specs.declared.thresholds.TheConstants.{SPLIT_SLOTS}
use Rattle.bz_task.specs.declared.todo.Seen.TheVariants.{Start}
use Rattle.bz_world.specs.Inside.Going.{with_task, needs_in, path_in, froze_in, LooksUpIn}
use Rattle.bz_world.specs.Inside.Telling.{MustStartOf}
use Rattle.bz_world.specs.declared.parts.Parts.{Parts}
use Rattle.bz_world.specs.declared.serving.OpenCall.{OpenCall}
use Rattle.bz_any_task.specs.Ends.{IsEndOf}
use Rattle.bz_task.specs.declared.todo.Outcome.TheVariants.{NeedsRoom}
use Rattle.bz_world.proofs.ChangesTold.{has-heard}
use Rattle.bz_world.proofs.Finding.{find-taken, find-left}
use Rattle.bz_world.proofs.Supplies.{told-few, told-fewer}
use Rattle.bz_world.proofs.TakingOn.{taken-begins, begins-found, here-is, slot-is, call-is, told-path, told-went, went-anew}
use Rattle.bz_world.proofs.settle.find_key.Goals as goal

pub tell-todo-requires : goal.tell-todo-requires
tell-todo-requires c = taken-begins c.args.parts.now c.args.w c.find-task.result c.requires.path.on.serving.had None (Some c.args.path)
    (find-taken c.start_laws.ensures.solitary c.start_laws.ensures.solo.rounds c.args.parts.now c.args.w c.args.path c.requires.path c.find-task.result c.key_of.result (c.key_of.ensures ∙ ap key_of (sym (call-is c.args.parts.now c.args.w c.requires.path.on c.index.result.now c.called-call.result c.index.ensures c.called-call.ensures)))
    c.find-task.ensures.config c.laws.ensures c.find-task.ensures.silent c.find-task.ensures.ends c.find-task.ensures.asks c.find-task.ensures.wants c.find-task.ensures.swaps c.find-task.ensures.facts (c.find-task.ensures.look, c.find-task.ensures.key, c.find-task.ensures.last) c.find-task.ensures.reads c.looks.ensures
    (record { kind = c.find-task.ensures.kind; made = c.find-task.ensures.made; look = subst LooksUpIn c.requires.path.on.is c.requires.look }) (subst (λ z. froze_in z ≡ false) c.requires.path.on.is c.requires.thawed))
    c.set_task.new.slot (c.set_task.ensures ∙ ap (λ (z : Option OpenCall). with_task z c.find-task.result (Some c.args.path)) (slot-is c.args.parts.now c.args.w c.requires.path.on c.index_mut.result.now c.index_mut.ensures.value))
    c.requires.path.on.between.call_open.told c.start_laws.ensures.solo refl

pub go_on_finding-requires-clause-asks : goal.go_on_finding-requires-clause-asks
go_on_finding-requires-clause-asks c = record {
  start = start;
  kind = (has-heard (record c.requires.path.on.serving { task = c.find-task.result; path = Some c.args.path }) (get_or workers.items c.args.w None) c.tell-todo.new.parts c.args.w c.tell-todo.result start.must (length c.args.parts.now.journal.past) c.args.parts.now.slots c.tell-todo.new.parts.slots served c.tell-todo.ensures.told).kind ∙ c.find-task.ensures.kind;
  path = c.args.path;
  found = ap path_in (sym start.must.is)
      ∙ (told-path (get_or workers.items c.args.w None) (get_or c.tell-todo.new.parts.workers.items c.args.w None) Start (length c.args.parts.now.journal.past) c.args.parts.now.slots c.tell-todo.result c.tell-todo.new.parts.slots c.tell-todo.ensures.told ∙ ap path_in served);
}
  where
    workers : Vec (Option OpenCall)
    workers = with_item c.args.parts.now.workers c.args.w c.set_task.new.slot

    start : MustStartOf c.tell-todo.new.parts c.args.w c.tell-todo.result
    start = c.tell-todo.ensures.knows (begins-found c.args.parts.now c.args.w c.find-task.result c.requires.path.on.serving.had None (Some c.args.path)
        (find-taken c.start_laws.ensures.solitary c.start_laws.ensures.solo.rounds c.args.parts.now c.args.w c.args.path c.requires.path c.find-task.result c.key_of.result (c.key_of.ensures ∙ ap key_of (sym (call-is c.args.parts.now c.args.w c.requires.path.on c.index.result.now c.called-call.result c.index.ensures c.called-call.ensures)))
        c.find-task.ensures.config c.laws.ensures c.find-task.ensures.silent c.find-task.ensures.ends c.find-task.ensures.asks c.find-task.ensures.wants c.find-task.ensures.swaps c.find-task.ensures.facts (c.find-task.ensures.look, c.find-task.ensures.key, c.find-task.ensures.last) c.find-task.ensures.reads c.looks.ensures
        (record { kind = c.find-task.ensures.kind; made = c.find-task.ensures.made; look = subst LooksUpIn c.requires.path.on.is c.requires.look }) (subst (λ z. froze_in z ≡ false) c.requires.path.on.is c.requires.thawed))
        c.set_task.new.slot (c.set_task.ensures ∙ ap (λ (z : Option OpenCall). with_task z c.find-task.result (Some c.args.path)) (slot-is c.args.parts.now c.args.w c.requires.path.on c.index_mut.result.now c.index_mut.ensures.value))
        c.requires.path.on.between.call_open.told c.start_laws.ensures.solo refl c.args.path refl c.requires.path.leads c.requires.path.quiet
        (record {
          slotless = c.find-task.ensures.needs;
          spares = find-left c.start_laws.ensures.solo.rounds c.args.parts.now c.args.w c.args.path c.requires.path (subst (λ z. froze_in z ≡ false) c.requires.path.on.is c.requires.thawed);
          lacks = λ z means. absurd (subst (λ k. IsEndOf k NeedsRoom) c.find-task.ensures.kind (c.laws.ensures.ends_of NeedsRoom z means));
        }))

    served : get_or workers.items c.args.w None ≡ Some (record c.requires.path.on.serving { task = c.find-task.result; path = Some c.args.path })
    served = here-is c.args.parts.now c.args.w c.find-task.result c.requires.path.on.serving.had None (Some c.args.path)
        (find-taken c.start_laws.ensures.solitary c.start_laws.ensures.solo.rounds c.args.parts.now c.args.w c.args.path c.requires.path c.find-task.result c.key_of.result (c.key_of.ensures ∙ ap key_of (sym (call-is c.args.parts.now c.args.w c.requires.path.on c.index.result.now c.called-call.result c.index.ensures c.called-call.ensures)))
        c.find-task.ensures.config c.laws.ensures c.find-task.ensures.silent c.find-task.ensures.ends c.find-task.ensures.asks c.find-task.ensures.wants c.find-task.ensures.swaps c.find-task.ensures.facts (c.find-task.ensures.look, c.find-task.ensures.key, c.find-task.ensures.last) c.find-task.ensures.reads c.looks.ensures
        (record { kind = c.find-task.ensures.kind; made = c.find-task.ensures.made; look = subst LooksUpIn c.requires.path.on.is c.requires.look }) (subst (λ z. froze_in z ≡ false) c.requires.path.on.is c.requires.thawed))
        c.set_task.new.slot (c.set_task.ensures ∙ ap (λ (z : Option OpenCall). with_task z c.find-task.result (Some c.args.path)) (slot-is c.args.parts.now c.args.w c.requires.path.on c.index_mut.result.now c.index_mut.ensures.value))
        c.requires.path.on.between.call_open.told

pub go_on_finding-requires-clause-room : goal.go_on_finding-requires-clause-room
go_on_finding-requires-clause-room c = subst (λ (z : Parts). length z.journal.past < z.config.marks) (sym c.tell-todo.ensures.rest) c.requires.room

pub returns : goal.returns
returns c = went-anew c.args.parts.now workers c.args.parts.now.page c.args.w c.go_on_finding.result c.go_on_finding.new.parts
    (told-went (record c.args.parts.now { workers = workers }) c.tell-todo.new.parts c.args.w c.go_on_finding.result c.go_on_finding.new.parts c.tell-todo.ensures.rest fewer (omega (arith, none, most)) c.go_on_finding.ensures)
  where
    workers : Vec (Option OpenCall)
    workers = with_item c.args.parts.now.workers c.args.w c.set_task.new.slot

    served : get_or workers.items c.args.w None ≡ Some (record c.requires.path.on.serving { task = c.find-task.result; path = Some c.args.path })
    served = here-is c.args.parts.now c.args.w c.find-task.result c.requires.path.on.serving.had None (Some c.args.path)
        (find-taken c.start_laws.ensures.solitary c.start_laws.ensures.solo.rounds c.args.parts.now c.args.w c.args.path c.requires.path c.find-task.result c.key_of.result (c.key_of.ensures ∙ ap key_of (sym (call-is c.args.parts.now c.args.w c.requires.path.on c.index.result.now c.called-call.result c.index.ensures c.called-call.ensures)))
        c.find-task.ensures.config c.laws.ensures c.find-task.ensures.silent c.find-task.ensures.ends c.find-task.ensures.asks c.find-task.ensures.wants c.find-task.ensures.swaps c.find-task.ensures.facts (c.find-task.ensures.look, c.find-task.ensures.key, c.find-task.ensures.last) c.find-task.ensures.reads c.looks.ensures
        (record { kind = c.find-task.ensures.kind; made = c.find-task.ensures.made; look = subst LooksUpIn c.requires.path.on.is c.requires.look }) (subst (λ z. froze_in z ≡ false) c.requires.path.on.is c.requires.thawed))
        c.set_task.new.slot (c.set_task.ensures ∙ ap (λ (z : Option OpenCall). with_task z c.find-task.result (Some c.args.path)) (slot-is c.args.parts.now c.args.w c.requires.path.on c.index_mut.result.now c.index_mut.ensures.value))
        c.requires.path.on.between.call_open.told

    -- a look-up takes no slot
    none : length c.args.parts.now.slots.free ≤ length c.tell-todo.new.parts.slots.free
    none = omega (
      arith,
      told-few (get_or workers.items c.args.w None) (get_or c.tell-todo.new.parts.workers.items c.args.w None) Start (length c.args.parts.now.journal.past) c.args.parts.now.slots c.tell-todo.result c.tell-todo.new.parts.slots c.tell-todo.ensures.told,
      ap needs_in served,
      c.find-task.ensures.needs,
    )

    fewer : length c.tell-todo.new.parts.slots.free ≤ length c.args.parts.now.slots.free
    fewer = told-fewer (get_or workers.items c.args.w None) (get_or c.tell-todo.new.parts.workers.items c.args.w None) Start (length c.args.parts.now.journal.past) c.args.parts.now.slots c.tell-todo.result c.tell-todo.new.parts.slots c.tell-todo.ensures.told

    most : length c.tell-todo.new.parts.slots.free ≤ length c.go_on_finding.new.parts.slots.free + SPLIT_SLOTS
    most = c.go_on_finding.ensures.spends.few
