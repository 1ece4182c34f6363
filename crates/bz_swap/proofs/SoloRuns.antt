-- What is left to a worker over a run of its own.
use Rattle.std.specs.Prelude.{◌≡◌, ◌<◌, ◌≤◌, ◌+◌, ℕ, min, List, [], ◌∷◌, Option}
use Rattle.std.proofs.Common.{arith, refl, ap, inl, inr}
use Rattle.std.proofs.lemmas.Bool.{cases_eq}
use Rattle.bz_word.specs.declared.entry.Entry.{Entry}
use Rattle.bz_swap_acts.specs.declared.acted.Act.{Act}
use Rattle.bz_swap_machine.specs.declared.done.Done.{Done}
use Rattle.bz_swap_machine.specs.Allowed.{for_swap}
use Rattle.bz_swap.specs.declared.phase.Phase.{Phase}
use Rattle.bz_swap.specs.declared.phase.Phase.TheVariants.{Opened, Running, Recovering}
use Rattle.bz_swap.specs.Solo.{allowed_for, allowed_by_kind, allowed_to_all, steps_left, left_to}
use Rattle.bz_swap.specs.Evictions.{IsEviction}
use Rattle.bz_swap.specs.SoloRuns.{Turn, Start, Begin, Step, Evict, HasTurned, IsSoloRun, step_of, steps_in, allowed_of, allowed_in, allowed_by_kind_of, allowed_by_kind_in, SoloStepsAreAllowed, SoloStepsAreAllowedByKind}
use Rattle.bz_swap.specs.Starts.{started, swapping}
use Rattle.bz_swap.specs.Steps.{StepsIn}
use Rattle.bz_swap.specs.SwapMemory.{SwapMemory, Doing, Swapping, Flushing}
use Rattle.bz_swap.proofs.StepsLeft.{left-here, left-there}

no-more : (runner left all w : ℕ) → steps_left runner left all w ≤ all
no-more runner left all w = elim (cases_eq runner w) [
  | inl is ↦ omega (arith, left-here runner left all w is)
  | inr ne ↦ omega (arith, left-there runner left all w ne)
]

left-most : (m : SwapMemory) (w : ℕ) → left_to m w ≤ allowed_to_all m
unfolding left_to
left-most m w = no-more m.runner m.left (allowed_to_all m) w

least : (l a : ℕ) {n : ℕ} → n ≡ min l a → n ≤ l
least l a is = omega (arith, is)

kind-started : (m : SwapMemory) (w : ℕ) (doing : Doing) → left_to (started m w doing) w ≤ left_to m w + allowed_by_kind doing
unfolding left_to
kind-started m w doing = least (left_to m w + allowed_by_kind doing) (allowed_to_all (started m w doing)) (left-here w (left_to m w + allowed_by_kind doing) (allowed_to_all (started m w doing)) w refl)

-- the finer count is never more
kind-less : (doing : Doing) → allowed_by_kind doing ≤ allowed_for doing
kind-less (Swapping s) = omega arith
kind-less (Flushing line) = omega arith
kind-less doing = omega arith

left-started : (m : SwapMemory) (w : ℕ) (doing : Doing) → left_to (started m w doing) w ≤ left_to m w + allowed_for doing
left-started m w doing = omega (arith, kind-started m w doing, kind-less doing)

left-swapping : (m : SwapMemory) (w : ℕ) (entries : List Entry) → left_to (swapping m w entries) w ≤ left_to m w + for_swap
unfolding left_to
left-swapping m w entries = least (left_to m w + for_swap) (allowed_to_all (swapping m w entries)) (left-here w (left_to m w + for_swap) (allowed_to_all (swapping m w entries)) w refl)

left-stepped : (phase : Phase) (old new : SwapMemory) (w : ℕ) (made : Act) (done : Done) (told : Option ℕ) → StepsIn phase old w made done told new → left_to new w < left_to old w
left-stepped Opened old new w made done told step = step.one.spent
left-stepped Running old new w made done told step = step.one.spent
left-stepped Recovering old new w made done told step = step.one.spent

left-evicted : (old new : SwapMemory) (w a : ℕ) (told : Option ℕ) → IsEviction old a told new → left_to new w ≡ left_to old w
unfolding left_to
left-evicted old new w a told e = ap (λ (m : SwapMemory). left_to m w) e.is

turned : (w : ℕ) (old new : SwapMemory) (turn : Turn) → HasTurned w old turn new → left_to new w + step_of turn ≤ left_to old w + allowed_by_kind_of turn
turned w old new (Start doing) is = omega (arith, ap (λ (m : SwapMemory). left_to m w) is, kind-started old w doing)
turned w old new (Begin entries) is = omega (arith, ap (λ (m : SwapMemory). left_to m w) is, left-swapping old w entries)
turned w old new (Step made done told) step = omega (arith, left-stepped old.phase old new w made done told step)
turned w old new (Evict a told) e = omega (arith, left-evicted old new w a told e)

further : (s t l m a b : ℕ) → m + s ≤ l + a → t ≤ m + b → s + t ≤ l + (a + b)
further s t l m a b first rest = omega (arith, first, rest)

run-left : (w : ℕ) (old new : SwapMemory) (turns : List Turn) → IsSoloRun w old turns new → steps_in turns ≤ left_to old w + allowed_by_kind_in turns
run-left w old new [] is = omega arith
run-left w old new (turn ∷ turns) (next, (first, rest)) = further (step_of turn) (steps_in turns) (left_to old w) (left_to next w) (allowed_by_kind_of turn) (allowed_by_kind_in turns) (turned w old next turn first) (run-left w next new turns rest)

run-allowed_by_kind : (w : ℕ) (old new : SwapMemory) (turns : List Turn) → IsSoloRun w old turns new → steps_in turns ≤ allowed_to_all old + allowed_by_kind_in turns
run-allowed_by_kind w old new turns run = omega (arith, run-left w old new turns run, left-most old w)

turn-less : (turn : Turn) → allowed_by_kind_of turn ≤ allowed_of turn
turn-less (Start doing) = kind-less doing
turn-less (Begin entries) = omega arith
turn-less turn = omega arith

turns-less : (turns : List Turn) → allowed_by_kind_in turns ≤ allowed_in turns
turns-less [] = omega arith
turns-less (turn ∷ turns) = omega (arith, turn-less turn, turns-less turns)

run-allowed : (w : ℕ) (old new : SwapMemory) (turns : List Turn) → IsSoloRun w old turns new → steps_in turns ≤ allowed_to_all old + allowed_in turns
run-allowed w old new turns run = omega (arith, run-allowed_by_kind w old new turns run, turns-less turns)

pub solo_steps_are_allowed_by_kind : SoloStepsAreAllowedByKind
solo_steps_are_allowed_by_kind = record { start = kind-started; run = run-allowed_by_kind }

pub solo_steps_are_allowed : SoloStepsAreAllowed
solo_steps_are_allowed = record {
  most = left-most;
  start = left-started;
  swap = left-swapping;
  step = λ old new w made done told step. left-stepped old.phase old new w made done told step;
  eviction = left-evicted;
  run = run-allowed;
}
