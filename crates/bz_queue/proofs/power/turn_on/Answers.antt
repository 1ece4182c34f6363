use Rattle.std.proofs.Common.{subst, arith}
use Rattle.bz_sweep.specs.declared.area.Area.{Area}
use Rattle.bz_swap_recovery.specs.Recovering.{IsNew}
use Rattle.bz_queue.proofs.Tables.{ring-of}
use Rattle.bz_queue.proofs.Waking.{begun-on, seen-on}
use Rattle.bz_queue.proofs.power.turn_on.Goals as goal

pub area_of-requires : goal.area_of-requires
area_of-requires c = ring-of c.args.parts.now.numbers c.requires.off.dark.tabled.numbers

pub start_act-requires-clause-asked : goal.start_act-requires-clause-asked
start_act-requires-clause-asked c =
    begun-on c.args.parts.now c.requires.off c.requires.power c.requires.room c.new-parts.result c.next-ask.new.self
    (subst (λ (r : Area). IsNew r c.new-parts.result) c.area_of.ensures.area
    (record { area = c.new-parts.ensures.area; ready = c.new-parts.ensures.ready; asks = c.new-parts.ensures.asks; knows = c.new-parts.ensures.knows; left = λ m. omega (arith, c.new-parts.ensures.left m, c.new-parts.ensures.few) }))
    (record { area = c.next-ask.ensures.area; ready = c.next-ask.ensures.ready; learns = c.next-ask.ensures.learns; sooner = c.next-ask.ensures.sooner })
    c.push.new.self c.push.ensures

pub returns-clause-after : goal.returns-clause-after
returns-clause-after c = seen-on c.args.parts.now c.start_act.new.parts c.push.new.self c.next-ask.new.self c.requires.off c.push.ensures c.start_act.ensures.rest (c.start_act.ensures.first (c.next-ask.ensures.first c.new-parts.ensures.asks))
