use Rattle.std.proofs.Common.{◌≡◌, ℕ, Bool, true, false, List, None, sym, ap, subst, ◌∙◌, arith}
use Rattle.bz_call.specs.declared.calls.Call.{Call}
use Rattle.bz_layout.specs.declared.config.Config.{Config}
use Rattle.bz_sched.specs.Runs.{point_with}
use Rattle.bz_top.specs.Items.{IsTurnedOn, ItemsDone}
use Rattle.bz_top.proofs.FirstLemmas.{steady_at_first, done_behind}
use Rattle.bz_top.proofs.ItemLemmas.{on_steady}
use Rattle.bz_sched.specs.Sums.{calls_in, sum_of, SufficesFor, SuppliesIf, Affords, WantsNothingIf}
use Rattle.bz_top.specs.Endings.{items_from}
use Rattle.bz_top.proofs.SumLemmas.{affords_first, supplies_first}
use Rattle.bz_top.specs.declared.items.ItemsEnd.TheVariants.{Finished}
use Rattle.bz_top.proofs.threads.run_items.Goals as goal

pub turn_on-requires-clause-steady : goal.turn_on-requires-clause-steady
turn_on-requires-clause-steady g c = steady_at_first c.args.world c.requires.first c.requires.new

pub do_items-requires-clause-steady : goal.do_items-requires-clause-steady
do_items-requires-clause-steady g c = λ lives outlive.
    let turned : IsTurnedOn c.args.world c.turn_on.new.world = rw c.in-Finished.is at c.turn_on.ensures.ends in
    on_steady c.turn_on.new.world turned.on

pub do_items-requires-clause-powered : goal.do_items-requires-clause-powered
do_items-requires-clause-powered g c = λ lives outlive.
    let turned : IsTurnedOn c.args.world c.turn_on.new.world = rw c.in-Finished.is at c.turn_on.ensures.ends in
    turned.on

pub do_items-requires-clause-workers : goal.do_items-requires-clause-workers
do_items-requires-clause-workers g c = λ lives outlive.
    let turned : IsTurnedOn c.args.world c.turn_on.new.world = rw c.in-Finished.is at c.turn_on.ensures.ends in
    ap (λ (config : Config). config.workers) turned.stays.config ∙ c.requires.workers

pub do_items-requires-clause-room : goal.do_items-requires-clause-room
do_items-requires-clause-room g c = λ lives outlive. omega (arith, c.requires.room)

pub returns-in-Finished-clause-ends : goal.returns-in-Finished-clause-ends
returns-in-Finished-clause-ends g c =
    done_behind c.args.world c.turn_on.new.world c.do_items.result.0 c.args.items.now c.do_items.result.1 (rw c.in-Finished.is at c.turn_on.ensures.ends)
    (subst (λ (calls : List (ℕ × Call)). ItemsDone (point_with c.turn_on.new.world calls) c.turn_on.new.world c.args.items.now c.do_items.result.1 c.do_items.result.0) c.requires.none_wait c.do_items.ensures.ends)

pub returns-in-Limit-clause-ends : goal.returns-in-Limit-clause-ends
returns-in-Limit-clause-ends g c = (rw c.in-Limit.is at c.turn_on.ensures.ends) c.args.items.now

pub unreachable-requires : goal.unreachable-requires
unreachable-requires g c = rw c.in-Memory.is at c.turn_on.ensures.ends

pub returns-in-Finished-clause-enough : goal.returns-in-Finished-clause-enough
returns-in-Finished-clause-enough g c = λ suffices. ((done false suffices tt).0, λ first stock. (done true suffices (supplies_first c.args.world (sum_of calls_in (items_from c.args.world.at_start c.args.items.now)) c.requires.new first stock)).1)
  where
    done : (supplied : Bool) → SufficesFor c.args.world.config c.args.world.log.limits (items_from c.args.world.at_start c.args.items.now) → SuppliesIf supplied c.args.world (sum_of calls_in (items_from c.args.world.at_start c.args.items.now))
        → (c.do_items.result.1 ≡ Finished) × WantsNothingIf supplied c.do_items.result.0
    done supplied suffices supplies =
        let on = c.turn_on.ensures.enough supplied c.args.items.now (affords_first supplied c.args.world (items_from c.args.world.at_start c.args.items.now) c.requires.new suffices supplies) in
        c.do_items.ensures.enough supplied (subst (λ (calls : List (ℕ × Call)). Affords supplied c.turn_on.new.world calls None c.args.items.now) (sym c.requires.none_wait) on.1)

pub returns-in-Limit-clause-enough : goal.returns-in-Limit-clause-enough
returns-in-Limit-clause-enough g c = λ suffices.
    let on = (c.turn_on.ensures.enough false c.args.items.now (affords_first false c.args.world (items_from c.args.world.at_start c.args.items.now) c.requires.new suffices tt)).0 in
    let never = sym on ∙ c.in-Limit.is in absurd (cc never)
