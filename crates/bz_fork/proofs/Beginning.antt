-- The split of an inner node that is told to begin, and one whose swap took effect.
use Rattle.std.proofs.Common.{◌≡◌, true, refl, subst}
use Rattle.bz_layout.specs.declared.config.Config.{Config}
use Rattle.bz_task.specs.Requests.{EndsAtOnce, Hears, steps_in}
use Rattle.bz_task.specs.declared.todo.Seen.{Seen}
use Rattle.bz_task.specs.declared.todo.Seen.TheVariants.{Start, Swapped}
use Rattle.bz_fork.specs.Facts.{Fork, fork_plan, fork_asks, fork_steps, fork_swaps}
use Rattle.bz_fork.specs.declared.phase.ForkPhase.{ForkPhase}
use Rattle.bz_fork.specs.declared.phase.ForkPhase.TheVariants.{Fresh, Writing}
use Rattle.bz_writer.specs.declared.phase.WritePhase.{WritePhase}
use Rattle.bz_writer.specs.declared.phase.WritePhase.TheVariants.{Fresh as Unbegun, Flush, Swap}
use Rattle.bz_writer.specs.Phases.{write_needs}
use Rattle.bz_writer.proofs.Sizes.{begins-fresh as writer-begins}
use Rattle.bz_layout.specs.declared.thresholds.TheConstants.{SPLIT_SLOTS}
use Rattle.bz_task.specs.declared.todo.Outcome.{Outcome}

-- what is heard in a phase is heard in the phase that it is
pub heard-in : (c : Config) (r : Fork) (o p : ForkPhase) (seen told : Seen) → o ≡ p → seen ≡ told → Hears (fork_asks c r o) seen → Hears (fork_asks c r p) told
heard-in c r o p seen told e g h = subst (λ z. Hears (fork_asks c r z) told) e (subst (λ z. Hears (fork_asks c r o) z) g h)

-- the steps of what a phase asks for
pub asked-steps : (c : Config) (r : Fork) (p : ForkPhase) → steps_in (fork_asks c r p) ≡ fork_steps p
asked-steps c r Fresh = refl
asked-steps c r (Writing (Flush j)) = refl
asked-steps c r p = refl

-- one swap was left where it was told that a swap took effect
pub one-left : (c : Config) (r : Fork) (p : ForkPhase) → Hears (fork_asks c r p) (Swapped true) → fork_swaps p ≡ 1
one-left c r (Writing Swap) h = refl
one-left c r p h = absurd (h)

-- nothing that is told to begin ends at once
pub ends-later : (c : Config) (r : Fork) (p : ForkPhase) (w : WritePhase) (seen : Seen) (outcome : Outcome) → p ≡ Writing w → seen ≡ Start → Hears (fork_asks c r p) seen → EndsAtOnce (write_needs SPLIT_SLOTS w) outcome → ⊥
ends-later c r p w seen outcome is start h ends =
    let first : w ≡ Unbegun = writer-begins c (fork_plan r) w (heard-in c r p (Writing w) seen Start is start h) in
    subst (λ z. EndsAtOnce (write_needs SPLIT_SLOTS z) outcome) first ends
