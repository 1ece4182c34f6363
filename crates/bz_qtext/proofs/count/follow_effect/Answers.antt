use Rattle.std.proofs.Common.{rules, arith}
use Rattle.bz_ring.specs.Calls.{items_after}
use Rattle.bz_ring.specs.Journal.{at_moment}
use Rattle.bz_qtext.proofs.CountLemmas.{no_effect_from, count_stays, count_alone, count_follows}
use Rattle.bz_qtext.proofs.ReadLemmas.{some_open, none_open, begin-found}
use Rattle.bz_qtext.proofs.count.follow_effect.Goals as goal

pub count_effect-requires-clause-begun : goal.count_effect-requires-clause-begun
count_effect-requires-clause-begun c =
    (some_open c.args.queue.now.log.past c.args.moment c.args.begins.now _ c.in-Effect.w c.in-Some.begun (search rules) (omega (arith, c.requires.within)) c.requires.table c.in-Some.is).before

pub returns-in-Some-clause-count : goal.returns-in-Some-clause-count
returns-in-Some-clause-count c first h =
    let past = c.args.queue.now.log.past in
    let moment = c.args.moment in
    let w = c.in-Effect.w in
    let s = some_open past moment c.args.begins.now _ w c.in-Some.begun (search rules) (omega (arith, c.requires.within)) c.requires.table c.in-Some.is in
    let found = begin-found past moment w s.opened (omega (arith, c.requires.within)) s.is in
    count_follows c.args.capacity first past moment _ w c.in-Effect.n s.opened c.requires.within (rw c.in-Effect.is at c.requires.seen) s.is
    (c.count_effect.ensures.count w s.opened.number s.opened.call (items_after c.args.capacity first (at_moment moment past)) (rw s.same at found) h)

pub returns-in-None-clause-count : goal.returns-in-None-clause-count
returns-in-None-clause-count c first h =
    count_alone c.args.capacity first c.args.queue.now.log.past c.args.moment _ c.in-Effect.w c.in-Effect.n c.requires.within (rw c.in-Effect.is at c.requires.seen)
    (none_open c.args.queue.now.log.past c.args.moment c.args.begins.now _ c.in-Effect.w (search rules) c.requires.table c.in-None.is) h

pub returns-in_default-clause-count : goal.returns-in_default-clause-count
returns-in_default-clause-count c first h =
    count_stays c.args.capacity first c.args.queue.now.log.past c.args.moment _ c.args.mark.now c.requires.within c.requires.seen (no_effect_from c.args.mark.now c.in_default.not-Effect) h
