-- A power cut, and workers that are all idle.
use Rattle.std.specs.Prelude.{◌≡◌, ℕ, zero, suc, [], ◌∷◌, length, map, get_or, replicate}
use Rattle.std.proofs.Common.{arith, refl, ap, sym, ◌∙◌}
use Rattle.std.proofs.lemmas.List.{length-replicate, length-map}
use Rattle.bz_swap_machine.specs.declared.place.Place.TheVariants as place
use Rattle.bz_swap_machine.specs.declared.worker.Operation.TheVariants as operation
use Rattle.bz_swap_cells.specs.FromPm.After.{after_power_cut}
use Rattle.bz_swap_cells.specs.Store.{Store, HasRoom, store_state, with_state}
use Rattle.bz_swap.specs.declared.phase.Phase.TheVariants.{Recovering}
use Rattle.bz_swap.specs.Power.{after_cut}
use Rattle.bz_swap.specs.SwapMemory.{idle}
use Rattle.bz_swap.specs.Inside.Parts.{Parts, idle_worker, working, seen}
use Rattle.bz_swap.specs.Inside.Kept.{IsKept, RecoversAt}
use Rattle.bz_swap.proofs.Allowing.{allowed-none}
use Rattle.bz_swap.proofs.Doings.{working-idle}
use Rattle.bz_swap.proofs.Fresh.{all-same}

-- the parts after a cut
abbrev pub cut_parts : Parts → Parts
cut_parts p = record { store = with_state p.store (after_power_cut (store_state p.store)); workers = replicate (length p.workers) idle_worker; phase = Recovering; steps = 0; allowance = record p.allowance { all = 0 } }

each-idle : (n w : ℕ) → get_or (replicate n idle_worker) w idle_worker ≡ idle_worker
each-idle zero w = refl
each-idle (suc n) zero = refl
each-idle (suc n) (suc w) = each-idle n w

idle-place : idle_worker.place ≡ place.Idle
unfolding idle_worker
idle-place = refl

idle-nothing : idle_worker.operation ≡ operation.Nothing
unfolding idle_worker
idle-nothing = refl

recovers-idle : (st : Store) → RecoversAt st idle_worker.place
recovers-idle st = rw idle-place tt

pub seen-idle : (n : ℕ) → map working (replicate n idle_worker) ≡ replicate n idle
seen-idle zero = refl
seen-idle (suc n) = λ i. working-idle i ∷ seen-idle n i

pub cut-kept : (p : Parts) → IsKept p → HasRoom (cut_parts p).store → IsKept (cut_parts p)
cut-kept p k room = record {
  room = room;
  swaps = k.swaps;
  workers = length-replicate (length p.workers) idle_worker ∙ k.workers;
  few = rw (length-replicate (length p.workers) idle_worker) k.few;
  some = rw (length-replicate (length p.workers) idle_worker) k.some;
  allowed = sym (allowed-none (replicate (length p.workers) idle_worker) (λ w. rw (each-idle (length p.workers) w) idle-place));
  counted = omega arith;
  kept = record {
    recoverer = rw (each-idle (length p.workers) 0) (recovers-idle (cut_parts p).store);
    others = λ w some. rw (each-idle (length p.workers) w) idle-place;
    rest = λ w. rw (each-idle (length p.workers) w) idle-nothing;
    enough = rw (each-idle (length p.workers) 0, idle-place) (omega arith);
    asked = λ w. (let none : get_or (cut_parts p).store.past.asks w [] ≡ [] = all-same (length p.store.past.asks) w [] in rw none (omega arith));
  };
}

pub cut-seen : (p : Parts) → seen (cut_parts p) ≡ after_cut (seen p)
cut-seen p = λ i. record (seen (cut_parts p)) { workers = (seen-idle (length p.workers) ∙ ap (λ n. replicate n idle) (sym (length-map p.workers working))) i }
