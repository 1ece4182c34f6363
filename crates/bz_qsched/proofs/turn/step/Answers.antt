use Rattle.std.proofs.Common.{inl, inr, refl, sym, ◌∙◌}
use Rattle.bz_qsched.specs.Fuses.{with_fuse}
use Rattle.bz_qsched.proofs.BurnLemmas.{due_is}
use Rattle.bz_qsched.proofs.ReadyLemmas.{is_worker}
use Rattle.bz_qsched.proofs.StepLemmas.{Burnt, stepped, step_answers, step_due, step_limit, step_made}
use Rattle.bz_qsched.proofs.turn.step.Goals as goal

pub flush_next-fence-requires : goal.flush_next-fence-requires
flush_next-fence-requires c = (is_worker c.args.world.now c.args.w c.requires.ready c.requires.worker).in_range

pub returns-then-not-lets-clause-ends : goal.returns-then-not-lets-clause-ends
returns-then-not-lets-clause-ends c = λ queue.
    step_due c.args.world.now (with_fuse queue c.args.fuse.now) c.args.w c.requires.ready
    (rw c.flush_next-fence.ensures at (due_is c.args.fuse.now c.flush_next-fence.result (sym c.if-not-lets.ensures)))

pub burn-requires : goal.burn-requires
burn-requires c = sym c.lets.ensures ∙ c.if-not-lets.false

pub returns-in-Stepped-clause-ends : goal.returns-in-Stepped-clause-ends
returns-in-Stepped-clause-ends c = λ queue.
    let burnt : Burnt c.flush_next-fence.result (with_fuse queue c.args.fuse.now) (with_fuse queue c.burn.new.fuse) = record { calls = refl; room = refl; may = sym c.lets.ensures ∙ c.if-not-lets.false; fuse = c.burn.ensures } in
    elim (stepped c.args.world.now c.args.w c.apply.result c.apply.new.self c.requires.ready (is_worker c.args.world.now c.args.w c.requires.ready c.requires.worker) c.requires.«open» c.apply.ensures) [
      | inl refused ↦ let other = refused.answered in elim c.in-Stepped.is [ inl is ↦ absurd (cc) | inr is ↦ absurd (cc) ]
      | inr goes ↦ step_made c.args.world.now (with_fuse queue c.args.fuse.now) (with_fuse queue c.burn.new.fuse) c.args.w c.apply.result c.apply.new.self c.requires.ready goes (rw c.flush_next-fence.ensures at burnt)
    ]

pub returns-in-Limit-clause-ends : goal.returns-in-Limit-clause-ends
returns-in-Limit-clause-ends c = λ queue.
    step_limit c.args.world.now (with_fuse queue c.args.fuse.now) c.args.w c.apply.new.self c.requires.ready (is_worker c.args.world.now c.args.w c.requires.ready c.requires.worker) c.requires.«open» c.in-Limit.ensures

pub unreachable-requires : goal.unreachable-requires
unreachable-requires c =
    elim (stepped c.args.world.now c.args.w c.apply.result c.apply.new.self c.requires.ready (is_worker c.args.world.now c.args.w c.requires.ready c.requires.worker) c.requires.«open» c.apply.ensures) [
      | inl refused ↦ c.in_default.not-Limit refused.answered
      | inr goes ↦ step_answers c.apply.result _ _ c.args.w goes.steps.ends c.in_default.not-Stepped c.in_default.not-Ended
    ]
