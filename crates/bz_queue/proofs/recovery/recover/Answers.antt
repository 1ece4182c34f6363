use Rattle.std.proofs.Common.{ap, ◌∙◌, Some}
use Rattle.bz_queue.proofs.Powered.{kept-awake}
use Rattle.bz_queue.proofs.Recovered.{seen-stepped, kept-stepped, seen-woken, seen-going-on, kept-going-on, more-room}
use Rattle.bz_queue.proofs.recovery.recover.Goals as goal

pub returns-in_default : goal.returns-in_default
returns-in_default c = record {
  kept = kept-going-on c.args.parts.now c.ask_next.new.parts c.requires.started c.in_default.ensures c.requires.power;
  recovers = seen-going-on c.args.parts.now c.ask_next.new.parts c.requires.started c.in_default.ensures;
}

pub wake-requires : goal.wake-requires
wake-requires c = record {
  wakes = record { swept = c.in-Some.ensures.swept; asks = c.in-Some.ensures.asks ∙ ap Some c.in-Finish.is; after = c.in-Some.ensures.after };
  room = more-room c.args.parts.now c.ask_next.new.parts c.ask_next.new.parts c.in-Some.ask c.requires.started c.in-Some.ensures c.requires.room;
}

pub returns-in-Finish : goal.returns-in-Finish
returns-in-Finish c = record {
  kept = kept-awake c.wake.new.parts c.wake.ensures.awake;
  recovers = seen-woken c.args.parts.now c.ask_next.new.parts c.wake.new.parts c.in-Some.ask c.requires.started c.in-Some.ensures c.wake.ensures;
}

pub start_act-requires : goal.start_act-requires
start_act-requires c = record { asked = c.in-Some.ensures.swept; asks = c.in-Some.ensures.asks; more = c.in_default-ask.not-Finish }

pub returns-in_default-ask : goal.returns-in_default-ask
returns-in_default-ask c = record {
  kept = kept-stepped c.args.parts.now c.ask_next.new.parts c.start_act.new.parts c.in-Some.ask c.requires.started c.in-Some.ensures c.requires.power c.start_act.ensures.rest c.start_act.ensures.started;
  recovers = seen-stepped c.args.parts.now c.ask_next.new.parts c.start_act.new.parts c.in-Some.ask c.requires.started c.in-Some.ensures c.start_act.ensures.rest c.start_act.ensures.started c.start_act.ensures.others;
}
