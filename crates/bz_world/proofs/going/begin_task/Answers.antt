use Rattle.std.proofs.Common.{◌<◌, length, arith, sym, subst, None}
use Rattle.std.specs.Prelude.{get_or}
use Rattle.bz_task.specs.declared.todo.Seen.TheVariants.{Start}
use Rattle.bz_world.specs.declared.parts.Parts.{Parts}
use Rattle.bz_world.proofs.Supplies.{told-few, told-fewer, few-told}
use Rattle.bz_world.proofs.TakingOn.{told-went, never-ends}
use Rattle.bz_world.proofs.going.begin_task.Goals as goal

pub go_on-requires-clause-room : goal.go_on-requires-clause-room
go_on-requires-clause-room c = subst (λ (z : Parts). length z.journal.past < z.config.marks) (sym c.tell-todo.ensures.rest) c.requires.room

pub go_on-requires-clause-more : goal.go_on-requires-clause-more
go_on-requires-clause-more c ends = never-ends (get_or c.args.parts.now.workers.items c.args.w None) (get_or c.tell-todo.new.parts.workers.items c.args.w None) (length c.args.parts.now.journal.past) c.args.parts.now.slots c.tell-todo.result c.tell-todo.new.parts.slots c.tell-todo.ensures.told
    c.requires.begins.tell.serving c.requires.begins.tell.is c.requires.begins.goes ends

pub tell-todo-requires : goal.tell-todo-requires
tell-todo-requires c = c.requires.begins.tell

pub returns : goal.returns
returns c = told-went c.args.parts.now c.tell-todo.new.parts c.args.w c.go_on.result c.go_on.new.parts c.tell-todo.ensures.rest
    (told-fewer (get_or c.args.parts.now.workers.items c.args.w None) (get_or c.tell-todo.new.parts.workers.items c.args.w None) Start (length c.args.parts.now.journal.past) c.args.parts.now.slots c.tell-todo.result c.tell-todo.new.parts.slots c.tell-todo.ensures.told)
    (omega (
      arith,
      c.go_on.ensures.few,
      few-told c.args.parts.now c.args.w Start c.requires.begins.tell,
      told-few (get_or c.args.parts.now.workers.items c.args.w None) (get_or c.tell-todo.new.parts.workers.items c.args.w None) Start (length c.args.parts.now.journal.past) c.args.parts.now.slots c.tell-todo.result c.tell-todo.new.parts.slots c.tell-todo.ensures.told,
    ))
    c.go_on.ensures.went
