use Rattle.std.proofs.Common.{◌≡◌, List, sym, subst, ◌∙◌}
use Rattle.bz_script.specs.declared.item.Item.{Item}
use Rattle.bz_sched.specs.Enough.{count_wanting}
use Rattle.bz_sched.specs.Sums.{calls_in, sum_of, SufficesFor, HasStockFor}
use Rattle.bz_top.specs.Endings.{items_from}
use Rattle.bz_script.specs.Script.{job_of}
use Rattle.bz_top.specs.Items.{ItemsRan}
use Rattle.bz_top.specs.Parts.{sunk}
use Rattle.bz_top.specs.declared.items.ItemsEnd.TheVariants.{Finished, Limit, Memory}
use Rattle.bz_top.proofs.BaseLemmas.{image_still}
use Rattle.bz_top.proofs.RunLemmas.{ran-finished, ran-limited, ran-held}
use Rattle.bz_top.proofs.threads.run_world.Goals as goal

pub print-requires : goal.print-requires
print-requires g c =
    let ran : ItemsRan c.args.world _ Finished c.run_items-world.result.0 = rw c.in-Finished.is at c.run_items-world.ensures.ends in
    record { image = image_still c.args.world c.run_items-world.result.0 c.requires.image ran.on }

pub print_limit-requires : goal.print_limit-requires
print_limit-requires g c =
    let ran : ItemsRan c.args.world _ (Limit c.in-Limit.which) c.run_items-world.result.0 = rw c.in-Limit.is at c.run_items-world.ensures.ends in
    record { image = image_still c.args.world c.run_items-world.result.0 c.requires.image ran.on }

pub returns-in-Finished : goal.returns-in-Finished
returns-in-Finished g c base made =
    let ran : ItemsRan c.args.world _ Finished c.run_items-world.result.0 = rw c.in-Finished.is at c.run_items-world.ensures.ends in
    ran-finished c.args.line.marks base (job_of c.args.script.now) c.args.world c.run_items-world.result.0 made c.print.ensures.sound c.journal.ensures.numbers c.args.line.command
    (sunk (g.K.Sink.held c.args.sink.now) (g.K.Sink.held c.print.new.sink) (g.K.Sink.faults c.args.sink.now) (g.K.Sink.faults c.print.new.sink))
    c.print.result.status c.print.result.lab (subst (λ items. ItemsRan c.args.world items Finished c.run_items-world.result.0) c.items.ensures ran)
    (λ suffices. subst (λ (items : List Item). HasStockFor c.args.world.config c.args.world.log.start (sum_of calls_in (items_from c.args.world.at_start items)) → count_wanting c.run_items-world.result.0.log.past ≡ 0) c.items.ensures
    ((c.run_items-world.ensures.enough (subst (λ (items : List Item). SufficesFor c.args.world.config c.args.world.log.limits (items_from c.args.world.at_start items)) (sym c.items.ensures) suffices)).1 c.requires.stocked)) c.print.ensures.lab c.print.ensures.wrote

pub returns-in-Limit : goal.returns-in-Limit
returns-in-Limit g c base made =
    let ran : ItemsRan c.args.world _ (Limit c.in-Limit.which) c.run_items-world.result.0 = rw c.in-Limit.is at c.run_items-world.ensures.ends in
    ran-limited c.args.line.marks base (job_of c.args.script.now) c.args.world c.run_items-world.result.0 made c.print_limit.ensures.sound c.journal.ensures.numbers c.args.line.command
    (sunk (g.K.Sink.held c.args.sink.now) (g.K.Sink.held c.print_limit.new.sink) (g.K.Sink.faults c.args.sink.now) (g.K.Sink.faults c.print_limit.new.sink))
    c.print_limit.result.status c.print_limit.result.lab c.in-Limit.which (subst (λ items. ItemsRan c.args.world items (Limit c.in-Limit.which) c.run_items-world.result.0) c.items.ensures ran)
    (λ suffices. let never = sym (c.run_items-world.ensures.enough (subst (λ (items : List Item). SufficesFor c.args.world.config c.args.world.log.limits (items_from c.args.world.at_start items)) (sym c.items.ensures) suffices)).0 ∙ c.in-Limit.is in absurd (cc never))
    c.print_limit.ensures.lab c.print_limit.ensures.wrote

pub returns : goal.returns
returns g c base made =
    let ran : ItemsRan c.args.world _ Memory c.run_items-world.result.0 = rw c.in-Memory.is at c.run_items-world.ensures.ends in
    ran-held c.args.line.marks base (job_of c.args.script.now) c.args.world c.run_items-world.result.0 made c.hold_up.ensures.sound c.journal.ensures.numbers c.args.line.command
    (sunk (g.K.Sink.held c.args.sink.now) (g.K.Sink.held c.hold_up.new.sink) (g.K.Sink.faults c.args.sink.now) (g.K.Sink.faults c.hold_up.new.sink))
    c.hold_up.result.status c.hold_up.result.lab (subst (λ items. ItemsRan c.args.world items Memory c.run_items-world.result.0) c.items.ensures ran) c.hold_up.ensures.lab c.hold_up.ensures.wrote
