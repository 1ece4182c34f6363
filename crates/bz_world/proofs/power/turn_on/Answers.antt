use Rattle.std.proofs.Common.{◌∙◌, sym, ap}
use Rattle.bz_layout.specs.declared.config.Config.{Config}
use Rattle.bz_sound.proofs.Proved.{ons_follow, power_tells_what_follows}
use Rattle.bz_refinement.proofs.Proved.{power_on_is_marked, recoveries_go_on, turns_make_no_mark}
use Rattle.bz_world.proofs.Waking.{begun-on, seen-on}
use Rattle.bz_world.proofs.power.turn_on.Goals as goal

pub next-todo-requires-clause-slots : goal.next-todo-requires-clause-slots
next-todo-requires-clause-slots c = c.requires.off.dark.slots ∙ ap (λ (d : Config). d.nodes) (sym c.new-parts.ensures.config)

pub start_act-requires-clause-asked : goal.start_act-requires-clause-asked
start_act-requires-clause-asked c =
    begun-on (record { follow = ons_follow; tells = power_tells_what_follows; begin = power_on_is_marked; turns = turns_make_no_mark; go_on = recoveries_go_on })
    c.args.parts.now c.requires.off c.requires.power c.requires.room c.new-parts.result c.next-todo.new.self c.next-todo.new.slots
    (record { config = c.new-parts.ensures.config; ready = c.new-parts.ensures.ready; asks = c.new-parts.ensures.asks; knows = c.new-parts.ensures.knows; left = c.new-parts.ensures.left })
    (record { config = c.next-todo.ensures.config; ready = c.next-todo.ensures.ready; learns = c.next-todo.ensures.learns; sooner = c.next-todo.ensures.sooner })
    c.next-todo.ensures.slots c.next-todo.ensures.walked (c.new-parts.ensures.walks c.requires.off.dark.values c.args.parts.now.slots)
    c.push.new.self c.push.ensures

pub returns-clause-after : goal.returns-clause-after
returns-clause-after c = seen-on c.args.parts.now c.start_act.new.parts c.push.new.self c.next-todo.new.self c.next-todo.new.slots c.requires.power c.push.ensures c.start_act.ensures.rest (c.start_act.ensures.first (c.next-todo.ensures.first c.new-parts.ensures.asks))
