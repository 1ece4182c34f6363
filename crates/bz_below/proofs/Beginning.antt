-- A split below a parent that is told to begin, and one whose swap took effect.
use Rattle.std.proofs.Common.{◌≡◌, true, refl, subst}
use Rattle.bz_layout.specs.declared.config.Config.{Config}
use Rattle.bz_task.specs.Requests.{Hears, steps_in}
use Rattle.bz_task.specs.declared.todo.Seen.{Seen}
use Rattle.bz_task.specs.declared.todo.Seen.TheVariants.{Start, Swapped}
use Rattle.bz_below.specs.Facts.{Below, below_asks, below_steps, below_swaps}
use Rattle.bz_below.specs.declared.phase.BelowPhase.{BelowPhase}
use Rattle.bz_below.specs.declared.phase.BelowPhase.TheVariants.{Fresh, Swap}

-- what is heard in a phase is heard in the phase that it is
pub heard-in : (c : Config) (r : Below) (o p : BelowPhase) (seen told : Seen) → o ≡ p → seen ≡ told → Hears (below_asks c r o) seen → Hears (below_asks c r p) told
heard-in c r o p seen told e g h = subst (λ z. Hears (below_asks c r z) told) e (subst (λ z. Hears (below_asks c r o) z) g h)

-- only one that has asked for nothing is told to begin
pub begins-fresh : (c : Config) (r : Below) (p : BelowPhase) → Hears (below_asks c r p) Start → p ≡ Fresh
begins-fresh c r Fresh h = refl
begins-fresh c r p h = absurd (h)

-- the steps of what a phase asks for
pub asked-steps : (c : Config) (r : Below) (p : BelowPhase) → steps_in (below_asks c r p) ≡ below_steps p
asked-steps c r Fresh = refl
asked-steps c r p = refl

-- one swap was left where it was told that a swap took effect
pub one-left : (c : Config) (r : Below) (p : BelowPhase) → Hears (below_asks c r p) (Swapped true) → below_swaps p ≡ 1
one-left c r Swap h = refl
one-left c r p h = absurd (h)
