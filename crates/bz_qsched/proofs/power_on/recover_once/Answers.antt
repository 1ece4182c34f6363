use Rattle.std.proofs.Common.{inl, inr, sym, ◌∙◌}
use Rattle.bz_queue.specs.declared.answers.QApplied.TheVariants as applied
use Rattle.bz_qsched.proofs.BurnLemmas.{due_is}
use Rattle.bz_qsched.proofs.RecoveryLemmas.{step_made, once_of, last_of, recovery_due, recovery_limit}
use Rattle.bz_qsched.proofs.power_on.recover_once.Goals as goal

pub returns-then-not-lets-clause-answers : goal.returns-then-not-lets-clause-answers
returns-then-not-lets-clause-answers c = recovery_due c.args.world.now c.args.fuse.now (rw c.flush_next-fence.ensures at (due_is c.args.fuse.now c.flush_next-fence.result (sym c.if-not-lets.ensures)))

pub returns-in-Stepped-clause-answers : goal.returns-in-Stepped-clause-answers
returns-in-Stepped-clause-answers c =
    elim (step_made c.args.world.now applied.Stepped c.apply.new.self c.requires c.in-Stepped.ensures) [
      | inl none ↦ absurd (let other = none.0 in cc)
      | inr made ↦ once_of c.args.world.now c.apply.new.self c.args.fuse.now c.burn.new.fuse c.requires made.1
          (rw c.flush_next-fence.ensures at (sym c.lets.ensures ∙ c.if-not-lets.false)) (rw c.flush_next-fence.ensures at c.burn.ensures)
    ]

pub returns-in-Ready-clause-answers : goal.returns-in-Ready-clause-answers
returns-in-Ready-clause-answers c =
    elim (step_made c.args.world.now applied.Ready c.apply.new.self c.requires c.in-Ready.ensures) [
      | inl none ↦ absurd (let other = none.0 in cc)
      | inr made ↦ last_of c.args.world.now c.apply.new.self c.args.fuse.now c.burn-in-Ready.new.fuse made.1
          (rw c.flush_next-fence.ensures at (sym c.lets.ensures ∙ c.if-not-lets.false)) (rw c.flush_next-fence.ensures at c.burn-in-Ready.ensures)
    ]

pub returns-in-Limit-clause-answers : goal.returns-in-Limit-clause-answers
returns-in-Limit-clause-answers c = elim (step_made c.args.world.now applied.Limit c.apply.new.self c.requires c.in-Limit.ensures) [
  | inl none ↦ recovery_limit c.args.world.now c.apply.new.self c.args.fuse.now none.1
  | inr made ↦ absurd made.1.ends
]
