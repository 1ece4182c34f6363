-- A worker that steps alone takes no more steps than it is allowed.
use Rattle.std.proofs.Common.{◌≡◌, ℕ, ◌+◌, ◌<◌, ◌≤◌, List, [], ◌∷◌, arith, sym, subst}
use Rattle.bz_swap_machine.specs.declared.place.Place.TheVariants.{Idle}
use Rattle.bz_swap_machine.specs.Allowed.{allowed, allowed_by_kind}
use Rattle.bz_swap_machine.specs.Budget.{budget}
use Rattle.bz_swap_machine.specs.Budgets.{IsBounded, IsAmong}
use Rattle.bz_swap_machine.specs.SoloRuns.{IsSolo, AreSolo, step_of, steps_in, allowed_in, allowed_by_kind_in, SoloStepsAreAllowed, SoloStepsAreAllowedByKind}
use Rattle.bz_swap_machine.specs.State.{State, Event, StartRead, StartStore, StartFlush, StartSwap, Act, Evict, EvictStatus, EvictField, happens, MayHappen}
use Rattle.bz_swap_machine.proofs.ActsSpend.{acts_spend}
use Rattle.bz_swap_machine.proofs.Bounded.{bounded-happens}
use Rattle.bz_swap_machine.proofs.BudgetBounds.{budgets_are_allowed}
use Rattle.bz_swap_machine.proofs.BudgetStarts.{starts_add_by_kind}
use Rattle.bz_swap_machine.proofs.SwapStarts.{swaps_add_allowed}

-- a worker alone is one of n
among-solo : (x : State) (w n : ℕ) (v : Event) → w < n → IsSolo x w v → IsAmong n v
among-solo x w n (StartRead u a) below solo = omega (arith, solo, below)
among-solo x w n (StartStore u a v) below solo = omega (arith, solo, below)
among-solo x w n (StartFlush u line) below solo = omega (arith, solo, below)
among-solo x w n (StartSwap u new targets) below solo = let same : u ≡ w = solo.0 in (omega (arith, same, below), solo.1, solo.2)
among-solo x w n (Act u) below solo = let same : u ≡ w = solo.0 in omega (arith, same, below)
among-solo x w n (Evict a) below solo = tt
among-solo x w n (EvictStatus s) below solo = tt
among-solo x w n (EvictField s k) below solo = tt

plain : {a b : ℕ} → a ≤ b → 0 + a ≤ b
plain f = omega (arith, f)

same : (b : ℕ) → 0 + b ≤ b + 0
same b = omega arith

-- each event spends what is a step, and adds what it allows by its kind
spends-solo : (x : State) (w n : ℕ) (event : Event) → IsSolo x w event → MayHappen x event → IsBounded x n → step_of event + budget (happens x event) w n ≤ budget x w n + allowed_by_kind event
spends-solo x w n (StartRead u a) solo may bounded =
    subst (λ k. 0 + budget (happens x (StartRead k a)) w n ≤ budget x w n + allowed_by_kind (StartRead k a)) (sym solo) (plain ((starts_add_by_kind x w n bounded.owned (subst (λ k. (x.local k).place ≡ Idle) solo may)).read a))
spends-solo x w n (StartStore u a v) solo may bounded =
    subst (λ k. 0 + budget (happens x (StartStore k a v)) w n ≤ budget x w n + allowed_by_kind (StartStore k a v)) (sym solo) (plain ((starts_add_by_kind x w n bounded.owned (subst (λ k. (x.local k).place ≡ Idle) solo may.0)).store a v))
spends-solo x w n (StartFlush u line) solo may bounded =
    subst (λ k. 0 + budget (happens x (StartFlush k line)) w n ≤ budget x w n + allowed_by_kind (StartFlush k line)) (sym solo) (plain ((starts_add_by_kind x w n bounded.owned (subst (λ k. (x.local k).place ≡ Idle) solo may)).flush line))
spends-solo x w n (StartSwap u new targets) solo may bounded =
    subst (λ k. 0 + budget (happens x (StartSwap k new targets)) w n ≤ budget x w n + allowed_by_kind (StartSwap k new targets)) (sym solo.0)
    (plain (swaps_add_allowed x w n new targets bounded (subst (λ k. MayHappen x (StartSwap k new targets)) solo.0 may) solo.2))
spends-solo x w n (Act u) solo may bounded =
    subst (λ k. 1 + budget (happens x (Act k)) w n ≤ budget x w n + 0) (sym solo.0) (one (acts_spend x w n bounded solo.1))
  where
    one : {a b : ℕ} → a < b → 1 + a ≤ b + 0
    one f = omega (arith, f)
spends-solo x w n (Evict a) solo may bounded = same (budget x w n)
spends-solo x w n (EvictStatus s) solo may bounded = same (budget x w n)
spends-solo x w n (EvictField s k) solo may bounded = same (budget x w n)

sums : (s r b b' a t : ℕ) → s + b' ≤ b + a → r ≤ b' + t → s + r ≤ b + (a + t)
sums s r b b' a t f g = omega (arith, f, g)

spends-all : (x : State) (w n : ℕ) (events : List Event) → w < n → IsBounded x n → AreSolo x w events → steps_in events ≤ budget x w n + allowed_by_kind_in events
spends-all x w n [] below bounded solo = omega arith
spends-all x w n (v ∷ vs) below bounded solo =
    sums _ _ _ _ _ _ (spends-solo x w n v solo.0 solo.1 bounded) (spends-all (happens x v) w n vs below (bounded-happens x n v solo.1 (among-solo x w n v below solo.0) bounded) solo.2)

pub solo_steps_are_allowed_by_kind : SoloStepsAreAllowedByKind
solo_steps_are_allowed_by_kind x w n events below bounded solo = omega (arith, spends-all x w n events below bounded solo, budgets_are_allowed x w n below bounded.few bounded.short)

-- the finer count is never more
kind-less : (event : Event) → allowed_by_kind event ≤ allowed event
kind-less (StartRead w a) = omega arith
kind-less (StartStore w a v) = omega arith
kind-less (StartFlush w line) = omega arith
kind-less (StartSwap w new targets) = omega arith
kind-less event = omega arith

kinds-less : (events : List Event) → allowed_by_kind_in events ≤ allowed_in events
kinds-less [] = omega arith
kinds-less (v ∷ vs) = omega (arith, kind-less v, kinds-less vs)

pub solo_steps_are_allowed : SoloStepsAreAllowed
solo_steps_are_allowed x w n events below bounded solo = omega (arith, solo_steps_are_allowed_by_kind x w n events below bounded solo, kinds-less events)
