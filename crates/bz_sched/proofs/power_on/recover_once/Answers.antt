use Rattle.std.proofs.Common.{inl, inr, sym, ◌∙◌}
use Rattle.bz_world.specs.declared.answers.Applied.TheVariants as applied
use Rattle.bz_sched.proofs.BurnLemmas.{due_is}
use Rattle.bz_sched.proofs.RecoveryLemmas.{step_made, recovered_once, recovery_due, recovery_limit, recovery_answers, no_refusal}
use Rattle.bz_sched.proofs.power_on.recover_once.Goals as goal

pub returns-then-not-lets-clause-ends : goal.returns-then-not-lets-clause-ends
returns-then-not-lets-clause-ends c = recovery_due c.args.world.now c.args.fuse.now (rw c.flush_next-fence.ensures.told at (due_is c.args.fuse.now c.flush_next-fence.result (sym c.if-not-lets.ensures)))

pub burn-requires : goal.burn-requires
burn-requires c = sym c.lets.ensures ∙ c.if-not-lets.false

pub returns-in-Stepped-clause-ends : goal.returns-in-Stepped-clause-ends
returns-in-Stepped-clause-ends c =
    elim (step_made c.args.world.now c.apply.result c.apply.new.self c.requires c.apply.ensures) [
      | inl none ↦ absurd (no_refusal c.apply.result c.in-Stepped.is none.0)
      | inr made ↦ recovered_once c.args.world.now c.apply.new.self c.args.fuse.now c.burn.new.fuse c.apply.result c.requires (recovery_answers c.apply.result _ _ made.1.ends) made.1
          (rw c.flush_next-fence.ensures.told at (sym c.lets.ensures ∙ c.if-not-lets.false)) (rw c.flush_next-fence.ensures.told at c.burn.ensures)
    ]

pub returns-in-Limit-clause-ends : goal.returns-in-Limit-clause-ends
returns-in-Limit-clause-ends c = elim (step_made c.args.world.now applied.Limit c.apply.new.self c.requires c.in-Limit.ensures) [
  | inl none ↦ recovery_limit c.args.world.now c.apply.new.self c.args.fuse.now none.1
  | inr made ↦ absurd made.1.ends
]
