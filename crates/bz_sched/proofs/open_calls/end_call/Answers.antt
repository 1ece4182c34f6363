use Rattle.std.proofs.Common.{sym, ◌∙◌}
use Rattle.bz_sched.proofs.OpenTurns.{call_closed, call_ends, call_stops, call_answers}
use Rattle.bz_sched.proofs.open_calls.end_call.Goals as goal

pub returns-then-not-has_open : goal.returns-then-not-has_open
returns-then-not-has_open c = call_closed c.args.w c.args.world.now c.requires.ready (sym c.if-not-has_open.ensures)

pub returns-in-Ended : goal.returns-in-Ended
returns-in-Ended c =
    call_ends c.args.w c.args.world.now c.requires.worker c.requires.ready (sym c.has_open.ensures ∙ c.if-not-has_open.false) c.in-Ended.field-0 c.solo.new.self c.in-Ended.ensures

pub returns-in-Limit : goal.returns-in-Limit
returns-in-Limit c = call_stops c.args.w c.args.world.now c.requires.worker c.requires.ready (sym c.has_open.ensures ∙ c.if-not-has_open.false) c.solo.new.self c.in-Limit.ensures

pub unreachable-requires : goal.unreachable-requires
unreachable-requires c =
    call_answers c.args.w c.args.world.now c.requires.worker c.requires.ready (sym c.has_open.ensures ∙ c.if-not-has_open.false) c.solo.result c.solo.new.self c.solo.ensures c.in_default.not-Ended c.in_default.not-Limit
