-- The foreign effects of a run of one worker alone.
use Rattle.std.specs.Prelude.{◌≢◌, ℕ, zero, suc, ◌+◌, ◌<◌, ◌≤◌, [], ◌∷◌, Option}
use Rattle.std.proofs.Common.{arith, refl, ap, sym, ◌∙◌}
use Rattle.bz_swap_acts.specs.declared.acted.Act.{Act}
use Rattle.bz_swap_machine.specs.declared.done.Done.{Done}
use Rattle.bz_swap.specs.declared.phase.Phase.{Phase}
use Rattle.bz_swap.specs.declared.phase.Phase.TheVariants.{Opened, Running, Recovering}
use Rattle.bz_swap.specs.Evictions.{IsEviction}
use Rattle.bz_swap.specs.SoloRuns.{Turn, Start, Begin, Step, Evict, HasTurned}
use Rattle.bz_swap.specs.Starts.{phase_of}
use Rattle.bz_swap.specs.Steps.{IsStep, StepsIn}
use Rattle.bz_swap.specs.SwapMemory.{SwapMemory}
use Rattle.bz_rivals.specs.Laws.{SoloEffectsAreFew}
use Rattle.bz_rivals.specs.Rivals.{rivals}
use Rattle.bz_rivals.specs.Runs.{foreign_of, foreign_in}
use Rattle.bz_rivals.proofs.Falls.{rivals-fall}

-- outside a recovery time the step of a run is one of work
works-in : (phase : Phase) (old new : SwapMemory) (w : ℕ) (made : Act) (done : Done) (told : Option ℕ) → phase ≢ Recovering → StepsIn phase old w made done told new → IsStep old w made done told new
works-in Opened old new w made done told not step = step
works-in Running old new w made done told not step = step
works-in Recovering old new w made done told not step = absurd (not refl)

pub working-step : (old new : SwapMemory) (w : ℕ) (made : Act) (done : Done) (told : Option ℕ) → old.phase ≢ Recovering → HasTurned w old (Step made done told) new → IsStep old w made done told new
working-step old new w made done told not step = works-in old.phase old new w made done told not step

-- and none begins
pub starts-working : (w : ℕ) → 0 < w → phase_of w ≢ Recovering
starts-working zero some is = absurd (omega (arith, some))
starts-working (suc w) some is = absurd cc

pub step-works : (old new : SwapMemory) (w : ℕ) (made : Act) (done : Done) (told : Option ℕ) → old.phase ≢ Recovering → IsStep old w made done told new → new.phase ≢ Recovering
step-works old new w made done told not step is = not (sym step.one.others.phase ∙ is)

pub eviction-works : (old new : SwapMemory) (a : ℕ) (told : Option ℕ) → old.phase ≢ Recovering → IsEviction old a told new → new.phase ≢ Recovering
eviction-works old new a told not h is = not (ap (λ (m : SwapMemory). m.phase) (sym h.is) ∙ is)

turn-works : (w : ℕ) (old new : SwapMemory) (turn : Turn) → 0 < w → old.phase ≢ Recovering → HasTurned w old turn new → new.phase ≢ Recovering
turn-works w old new (Start doing) some not turned is = starts-working w some (ap (λ (m : SwapMemory). m.phase) (sym turned) ∙ is)
turn-works w old new (Begin entries) some not turned is = starts-working w some (ap (λ (m : SwapMemory). m.phase) (sym turned) ∙ is)
turn-works w old new (Step made done told) some not turned is = step-works old new w made done told not (working-step old new w made done told not turned) is
turn-works w old new (Evict a told) some not h is = eviction-works old new a told not h is

turn-falls : (w : ℕ) (old new : SwapMemory) (turn : Turn) → old.phase ≢ Recovering → HasTurned w old turn new → rivals new w + foreign_of old w turn ≤ rivals old w
turn-falls w old new (Start doing) not turned = omega (arith, ap (λ (m : SwapMemory). rivals m w) turned, rivals-fall.start old w doing)
turn-falls w old new (Begin entries) not turned = omega (arith, ap (λ (m : SwapMemory). rivals m w) turned, rivals-fall.swap old w entries)
turn-falls w old new (Step made done told) not turned = rivals-fall.step old new w made done told (working-step old new w made done told not turned)
turn-falls w old new (Evict a told) not turned = rivals-fall.eviction old new w a told not turned

further : (f fs before next after : ℕ) → next + f ≤ before → fs + after ≤ next → (f + fs) + after ≤ before
further f fs before next after first rest = omega (arith, first, rest)

pub solo-effects-are-few : SoloEffectsAreFew
solo-effects-are-few w old new [] some not is = omega (arith, ap (λ (m : SwapMemory). rivals m w) is)
solo-effects-are-few w old new (turn ∷ turns) some not (next, (first, rest)) =
    further (foreign_of old w turn) (foreign_in w next new turns rest) (rivals old w) (rivals next w) (rivals new w)
    (turn-falls w old next turn not first)
    (solo-effects-are-few w next new turns some (turn-works w old next turn some not first) rest)
