-- A worker has asked for the line of one status at most: that of the swap which it is about.
use Rattle.std.specs.Prelude.{◌≡◌, ◌≢◌, ◌/◌, ◌%◌, ◌<◌, ◌==◌, ◌&&◌, nat_lt, get_or, ℕ, Bool, true, false, [], Option, None, Some}
use Rattle.std.proofs.Common.{arith, refl}
use Rattle.std.proofs.lemmas.Grind.{common_steps}
use Rattle.bz_layout.specs.Addresses.{swap_address}
use Rattle.bz_swap_cells.specs.FromPm.State.{ask_for}
use Rattle.bz_swap_cells.specs.Store.{status_of, saved_word, saved_as, word_pending, status_pending}
use Rattle.bz_swap.specs.Held.{HasAskedForStatus}
use Rattle.bz_swap.specs.Inside.Parts.{Parts, seen, worker_at}
use Rattle.bz_swap.specs.Inside.Kept.{IsRunning}

and-false : (b : Bool) → (b && false) ≡ false
and-false true = refl
and-false false = refl

-- what keeps something keeps nothing only of nothing
kept-none : {A : Type 0} {B : Type 0} (g : Option A → Option B) (o : Option A) → ((q : A) → g (Some q) ≢ None) → g o ≡ None → o ≡ None
kept-none g None keeps is = refl
kept-none g (Some q) keeps is = absurd (keeps q is)

-- a status that a worker has asked for is that of its current swap
pub asked-current : (p : Parts) (r : IsRunning p) (w s : ℕ) → s < p.store.swaps → HasAskedForStatus (seen p) w s → s ≡ (worker_at p w).current
asked-current p r w s below asked = by-current (s == (worker_at p w).current) refl
  where
    by-current : (b : Bool) → (s == (worker_at p w).current) ≡ b → s ≡ (worker_at p w).current
    by-current true is = grind (arith, common_steps, is)
    by-current false is =
        let told : nat_lt s p.store.swaps ≡ true = grind (arith, common_steps) in
        let none : (status_pending p.store.swaps (word_pending p.store.past) s).asked w ≡ None = r.state.home w s (rw is (and-false _)) in
        absurd (asked (kept-none (λ o. saved_as status_of (saved_word o (swap_address s % 8))) (ask_for (get_or p.store.past.asks w []) (swap_address s / 8)) (λ q is. absurd cc) (rw told at none)))
