-- A merge that is told to begin, and what is heard in its phases.
use Rattle.std.proofs.Common.{◌≡◌, refl, subst}
use Rattle.bz_layout.specs.declared.config.Config.{Config}
use Rattle.bz_task.specs.Requests.{Hears, steps_in}
use Rattle.bz_task.specs.declared.todo.Seen.{Seen}
use Rattle.bz_task.specs.declared.todo.Seen.TheVariants.{Start}
use Rattle.bz_merge.specs.Facts.{merge_asks, merge_steps}
use Rattle.bz_merge.specs.Plans.{Merging}
use Rattle.bz_merge.specs.declared.phase.MergePhase.{MergePhase}
use Rattle.bz_merge.specs.declared.phase.MergePhase.TheVariants.{Fresh}

-- what is heard in a phase is heard in the phase that it is
pub heard-in : (c : Config) (r : Merging) (o p : MergePhase) (seen told : Seen) → o ≡ p → seen ≡ told → Hears (merge_asks c r o) seen → Hears (merge_asks c r p) told
heard-in c r o p seen told e g h = subst (λ z. Hears (merge_asks c r z) told) e (subst (λ z. Hears (merge_asks c r o) z) g h)

-- only one that has asked for nothing is told to begin
pub begins-fresh : (c : Config) (r : Merging) (p : MergePhase) → Hears (merge_asks c r p) Start → p ≡ Fresh
begins-fresh c r Fresh h = refl
begins-fresh c r p h = absurd (h)

-- the steps of what a phase asks for
pub asked-steps : (c : Config) (r : Merging) (p : MergePhase) → steps_in (merge_asks c r p) ≡ merge_steps p
asked-steps c r Fresh = refl
asked-steps c r p = refl
