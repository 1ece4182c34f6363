use Rattle.std.proofs.Common.{refl, sym, inl}
use Rattle.bz_sched.specs.Fuses.{with_fuse}
use Rattle.bz_sched.proofs.EnoughLemmas.{is_out, idle_is_closed}
use Rattle.bz_sched.proofs.WordLemmas.{some_none, some_more, one_ends, one_stops}
use Rattle.bz_sched.proofs.alone.end_worker.Goals as goal

pub loop-world-init : goal.loop-world-init
loop-world-init c = (some_none c.args.w c.args.world.now (with_fuse c.args.queue.now c.args.fuse.now) c.requires.ready, λ most between. record { room = between.room; unarmed = between.unarmed; state = inl between.awaits })

pub loop-world-preserved : goal.loop-world-preserved
loop-world-preserved c = (
  some_more c.args.w c.args.world.now (with_fuse c.args.queue.now c.args.fuse.now) c.loop-world.world (with_fuse c.loop-world.queue c.loop-world.fuse) _ _ c.loop-world.invariant.0 c.in-Finished.ensures.ends,
  λ most between. (c.in-Finished.ensures.enough most (c.loop-world.invariant.1 most between)).1,
)

pub returns-in-Stopped-clause-ends : goal.returns-in-Stopped-clause-ends
returns-in-Stopped-clause-ends c = one_stops c.args.w c.args.world.now (with_fuse c.args.queue.now c.args.fuse.now) c.loop-world.world (with_fuse c.loop-world.queue c.loop-world.fuse) c.in-Stopped.why _ _ c.loop-world.invariant.0 c.in-Stopped.ensures.ends

pub returns-in-Stopped-clause-enough : goal.returns-in-Stopped-clause-enough
returns-in-Stopped-clause-enough c = λ most between. let never = (c.in-Stopped.ensures.enough most (c.loop-world.invariant.1 most between)).0 in absurd (cc never)

pub returns-clause-ends : goal.returns-clause-ends
returns-clause-ends c = one_ends c.args.w c.args.world.now (with_fuse c.args.queue.now c.args.fuse.now) c.loop-world.world (with_fuse c.loop-world.queue c.loop-world.fuse) (sym c.loop-world-test.ensures) c.loop-world.invariant.0

pub returns-clause-enough : goal.returns-clause-enough
returns-clause-enough c = λ most between.
    let goes = c.loop-world.invariant.1 most between in
    (refl, record { room = goes.room; unarmed = goes.unarmed; awaits = is_out most c.args.w c.loop-world.world c.loop-world.queue.calls goes.state (idle_is_closed _ _ (sym c.loop-world-test.ensures)) })
