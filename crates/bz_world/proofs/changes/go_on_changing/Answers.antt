use Rattle.std.proofs.Common.{sym, ap, subst, ◌∙◌, refl}
use Rattle.bz_task.specs.declared.todo.Outcome.TheVariants.{NeedsRoom}
use Rattle.bz_world.specs.Inside.Going.{end_in}
use Rattle.bz_world.specs.Inside.Solitary.{IsNotSolitaryIn}
use Rattle.bz_world.proofs.ChangesTold.{must-read-crowded}
use Rattle.bz_world.proofs.TakingOn.{serving-is, ended-by}
use Rattle.bz_world.proofs.changes.go_on_changing.Goals as goal

pub read_whole-requires-clause-way : goal.read_whole-requires-clause-way
read_whole-requires-clause-way c =
    let slot = serving-is c.args.parts.now c.args.w c.args.todo c.requires.asks.must c.index.result.now c.index.ensures in
    must-read-crowded c.round_laws.ensures c.args.parts.now c.args.w c.args.todo c.requires.asks
    (ended-by c.args.parts.now c.args.w c.args.todo c.requires.asks.must NeedsRoom (ap end_in (c.requires.asks.must.is ∙ sym slot) ∙ c.if-needs_room.ensures.needs refl))
    (subst (IsNotSolitaryIn c.args.parts.now.journal.past c.args.w) c.requires.asks.must.is c.requires.other)

pub go_on-requires-clause-asks : goal.go_on-requires-clause-asks
go_on-requires-clause-asks c = c.requires.asks.must

-- it has not ended, as it would have ended for want of room
pub go_on-requires-clause-more : goal.go_on-requires-clause-more
go_on-requires-clause-more c ends =
    let slot = serving-is c.args.parts.now c.args.w c.args.todo c.requires.asks.must c.index.result.now c.index.ensures in
    c.if-needs_room.ensures.goes refl (ap end_in (slot ∙ sym c.requires.asks.must.is) ∙ c.requires.ends ends)
