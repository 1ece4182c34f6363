-- What is left to a worker that steps alone, as callers see it.
use Rattle.std.specs.Prelude.{◌≡◌, ℕ, ◌-◌, ◌<◌, ◌≤◌, ◌*◌, ◌^◌, min}
use Rattle.std.proofs.Common.{arith, refl, ap, sym, subst, ◌∙◌}
use Rattle.std.proofs.lemmas.List.{length-map}
use Rattle.bz_swap_machine.specs.declared.place.Place.{Place}
use Rattle.bz_swap_machine.specs.declared.place.Place.TheVariants as place
use Rattle.bz_swap_machine.specs.declared.worker.Worker.{Worker}
use Rattle.bz_swap_machine.specs.Allowed.{for_worker, sum_below, counted, is_busy}
use Rattle.bz_swap_machine.specs.Sizes.{most_workers}
use Rattle.bz_swap_cells.specs.Store.{Store}
use Rattle.bz_swap.specs.Solo.{allowed_while, allowed_to_all, steps_left, left_to}
use Rattle.bz_swap.specs.SwapMemory.{Doing, Idle, Reading, Swapping, Loading, Storing, Flushing, doing_of}
use Rattle.bz_swap.specs.Inside.Parts.{Parts, worker_at, working, seen}
use Rattle.bz_swap.specs.Inside.Kept.{IsRunning, IsKept, allowed_at}
use Rattle.bz_swap.proofs.Allowing.{counted-busy, allowed-most}
use Rattle.bz_swap.proofs.Doings.{worker-seen, place-idle, idle-place}
use Rattle.bz_swap.proofs.Renewing.{resting-place}
use Rattle.bz_swap.proofs.StepsLeft.{left-here}
use Rattle.bz_swap.proofs.Stepped.{after_step}

-- a worker allows what its place says
allows : (d : Doing) (x : Place) → (d ≡ Idle → x ≡ place.Idle) → (x ≡ place.Idle → d ≡ Idle) → allowed_while d ≡ counted (is_busy x) for_worker
allows Idle x rests idle = rw (rests refl) refl
allows (Reading a) x rests idle = sym (counted-busy x (λ is. (let bad = idle is in absurd cc)))
allows (Swapping s) x rests idle = sym (counted-busy x (λ is. (let bad = idle is in absurd cc)))
allows (Loading a) x rests idle = sym (counted-busy x (λ is. (let bad = idle is in absurd cc)))
allows (Storing a v) x rests idle = sym (counted-busy x (λ is. (let bad = idle is in absurd cc)))
allows (Flushing line) x rests idle = sym (counted-busy x (λ is. (let bad = idle is in absurd cc)))

-- callers see what the workers allow
pub allowed-seen : (p : Parts) → ((v : ℕ) → doing_of (seen p) v ≡ Idle → (worker_at p v).place ≡ place.Idle) → allowed_to_all (seen p) ≡ allowed_at p.workers
allowed-seen p rests = λ i. sum_below (λ v. each v i) (length-map p.workers working i)
  where
    each : (v : ℕ) → allowed_while (doing_of (seen p) v) ≡ counted (is_busy (worker_at p v).place) for_worker
    each v = allows (doing_of (seen p) v) (worker_at p v).place (rests v) (λ is. ap (λ u. u.doing) (worker-seen p v) ∙ place-idle (worker_at p v).place (worker_at p v).operation is)

-- and the steps that are left to each
pub left-seen : (p : Parts) (k : IsKept p) (w : ℕ) → left_to (seen p) w ≡ steps_left p.allowance.runner p.allowance.left p.allowance.all w
unfolding left_to
left-seen p k w = ap (λ all. steps_left p.allowance.runner p.allowance.left all w) (allowed-seen p (resting-place p k) ∙ sym k.allowed)

-- the same, where the parts are the machine's state
pub left-running : (p : Parts) (r : IsRunning p) → p.allowance.all ≡ allowed_at p.workers → (w : ℕ) → left_to (seen p) w ≡ steps_left p.allowance.runner p.allowance.left p.allowance.all w
unfolding left_to
left-running p r allowed w = ap (λ all. steps_left p.allowance.runner p.allowance.left all w) (allowed-seen p rests ∙ sym allowed)
  where
    rests : (v : ℕ) → doing_of (seen p) v ≡ Idle → (worker_at p v).place ≡ place.Idle
    rests v is = idle-place (worker_at p v).place (worker_at p v).operation (r.workers v).rests (sym (ap (λ u. u.doing) (worker-seen p v)) ∙ is)

fits : {a n : ℕ} → a ≤ for_worker * n → n ≤ most_workers → a ≤ 2 ^ 17
fits most few = omega (arith, most, few)

-- what all workers allow is a small number
pub allowed-fits : (p : Parts) → IsKept p → p.allowance.all ≤ 2 ^ 17
allowed-fits p k = rw k.allowed (fits (allowed-most p.workers) k.few)

less : (a : ℕ) {n l : ℕ} → n ≡ min (l - 1) a → 0 < l → n < l
less a is some = omega (arith, is, some)

-- a step spends one of them
pub left-spent : (p : Parts) (w : ℕ) (store : Store) (l : Worker) → left_to (seen p) w ≡ steps_left p.allowance.runner p.allowance.left p.allowance.all w
    → 0 < steps_left p.allowance.runner p.allowance.left p.allowance.all w → left_to (seen (after_step p w store l)) w < left_to (seen p) w
unfolding left_to
left-spent p w store l is some = subst (λ n. left_to (seen (after_step p w store l)) w < n) (sym is) (less (allowed_to_all (seen (after_step p w store l))) (left-here w (steps_left p.allowance.runner p.allowance.left p.allowance.all w - 1) (allowed_to_all (seen (after_step p w store l))) w refl) some)
