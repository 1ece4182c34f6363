use Rattle.std.proofs.Common.{length, ap, ◌∙◌, Some, None}
use Rattle.std.specs.Prelude.{get_or}
use Rattle.bz_world.proofs.Stepping.{stepped-on, stepped-through, told-room}
use Rattle.bz_world.proofs.Supplies.{told-fewer, few-told, few-in-all}
use Rattle.bz_world.proofs.step.step_open.Goals as goal

pub returns-in-Some-clause-steps : goal.returns-in-Some-clause-steps
returns-in-Some-clause-steps c = stepped-through c.args.parts.now c.act.new.parts c.tell-todo.new.parts c.follow.new.parts c.args.w c.follow.result c.requires.kept c.act.ensures.made c.act.ensures.taken c.tell-todo.ensures.rest
    (told-fewer (get_or c.act.new.parts.workers.items c.args.w None) (get_or c.tell-todo.new.parts.workers.items c.args.w None) c.in-Some.seen (length c.act.new.parts.journal.past) c.act.new.parts.slots c.tell-todo.result c.tell-todo.new.parts.slots c.tell-todo.ensures.told)
    (few-in-all (get_or c.act.new.parts.workers.items c.args.w None) (get_or c.tell-todo.new.parts.workers.items c.args.w None) c.in-Some.seen (length c.act.new.parts.journal.past) c.act.new.parts.slots c.tell-todo.result c.tell-todo.new.parts.slots (length c.follow.new.parts.slots.free) c.tell-todo.ensures.told
    (few-told c.act.new.parts c.args.w c.in-Some.seen (c.act.ensures.told c.in-Some.seen c.in-Some.is)) c.follow.ensures.went.spends.few c.follow.ensures.few)
    c.follow.ensures.went

pub returns-in-None-clause-steps : goal.returns-in-None-clause-steps
returns-in-None-clause-steps c = stepped-on c.args.parts.now c.act.new.parts c.args.w c.requires.kept (c.act.ensures.on c.in-None.is) c.requires.open c.act.ensures.made c.act.ensures.taken

pub follow-requires : goal.follow-requires
follow-requires c = record {
  asks = c.tell-todo.ensures.asks;
  full = c.tell-todo.ensures.full;
  swaps = c.tell-todo.ensures.swaps (λ none. c.act.ensures.swaps (c.in-Some.is ∙ ap Some none));
  crowded = c.tell-todo.ensures.crowded (λ start. c.act.ensures.begun (c.in-Some.is ∙ ap Some start));
  room = told-room c.args.parts.now c.act.new.parts c.tell-todo.new.parts c.args.w c.act.ensures.made c.tell-todo.ensures.rest c.requires.room;
}

pub returns-in-Some-clause-kept : goal.returns-in-Some-clause-kept
returns-in-Some-clause-kept c = c.follow.ensures.went.kept

pub returns-in-None-clause-kept : goal.returns-in-None-clause-kept
returns-in-None-clause-kept c = c.act.ensures.on c.in-None.is
