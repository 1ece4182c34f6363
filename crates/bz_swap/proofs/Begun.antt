-- The swaps that callers see begun are those of the machine's state.
use Rattle.std.specs.Prelude.{◌≡◌, ◌⊎◌, ℕ, zero, suc, ◌<◌, Bool, true, false, List, [], ◌∷◌, length, get_or, slice_index}
use Rattle.std.proofs.Common.{arith, refl, sym, subst, ◌∙◌, inl, inr}
use Rattle.std.proofs.lemmas.Bool.{true≢false}
use Rattle.std.proofs.lemmas.Grind.{common_steps}
use Rattle.bz_swap_machine.specs.declared.worker.Worker.{Worker}
use Rattle.bz_swap_machine.specs.declared.place.Place.{Place}
use Rattle.bz_swap_machine.specs.declared.place.Place.TheVariants as place
use Rattle.bz_swap_machine.specs.Knows.{Spell, AtPlace}
use Rattle.bz_swap_machine.specs.Workers.{local_of}
use Rattle.bz_swap_cells.specs.Store.{Store, typed, descriptor_word_at}
use Rattle.bz_swap.specs.Inside.Parts.{Parts, idle_worker, worker_at, listed, entry_list, prepares, prepares_at, words_in, begun_in}
use Rattle.bz_swap.specs.Inside.Kept.{IsRunning}
use Rattle.bz_swap.proofs.Spellings.{listed-same, entry_list-spelled}

-- the worker that prepares a swap, if one does, and the words that are the swap's then
pub record Preparing (st : Store) (s : ℕ) (workers : List Worker) : Type 0 where
  pub worker : ℕ
  pub within : worker < length workers
  pub prepares : prepares (get_or workers worker idle_worker) s ≡ true
  pub words : words_in st s workers ≡ slice_index (get_or workers worker idle_worker).list.words

pub record NonePrepares (st : Store) (s : ℕ) (workers : List Worker) : Type 0 where
  pub none : (w : ℕ) → prepares (get_or workers w idle_worker) s ≡ false
  pub words : words_in st s workers ≡ descriptor_word_at st.swaps st.cached s

-- a worker that was never asked for anything prepares no swap
idle-prepares : (s : ℕ) → prepares idle_worker s ≡ false
unfolding idle_worker
idle-prepares s = refl

first_prepares : (st : Store) (s : ℕ) (l : Worker) (workers : List Worker) (b : Bool) → prepares l s ≡ b
    → Preparing st s workers ⊎ NonePrepares st s workers → Preparing st s (l ∷ workers) ⊎ NonePrepares st s (l ∷ workers)
first_prepares st s l workers true is rest = inl (record { worker = 0; within = omega arith; prepares = is; words = rw is refl })
first_prepares st s l workers false is (inl p) = inl (record { worker = suc p.worker; within = omega (arith, p.within); prepares = p.prepares; words = rw is p.words })
first_prepares st s l workers false is (inr n) = inr (record { none = each; words = rw is n.words })
  where
    each : (w : ℕ) → prepares (get_or (l ∷ workers) w idle_worker) s ≡ false
    each zero = is
    each (suc w) = n.none w

pub prepares_or_none : (st : Store) (s : ℕ) (workers : List Worker) → Preparing st s workers ⊎ NonePrepares st s workers
prepares_or_none st s [] = inr (record { none = λ w. idle-prepares s; words = refl })
prepares_or_none st s (l ∷ workers) = first_prepares st s l workers (prepares l s) refl (prepares_or_none st s workers)

-- a worker that prepares a swap has the swap's words
spell-prepared : (p : Parts) (r : IsRunning p) (w s : ℕ) (at : Place) → AtPlace r.entries (typed p.store r.beside) w (local_of (worker_at p w)) at
    → prepares_at at (worker_at p w).current s ≡ true → Spell (r.entries s) (slice_index (worker_at p w).list.words)
spell-prepared p r w s (place.Prepare step) known is =
    let same : (worker_at p w).current ≡ s = grind (arith, common_steps, is) in
    subst (λ t. Spell (r.entries t) (slice_index (worker_at p w).list.words)) same known.2
spell-prepared p r w s other known is = absurd cc

-- a swap that no worker prepares is published
published-unprepared : (p : Parts) (r : IsRunning p) (s : ℕ) → s < p.store.taken → ((w : ℕ) → prepares (worker_at p w) s ≡ false)
    → (b : Bool) → r.beside.published s ≡ b → b ≡ true
published-unprepared p r s begun none true is = refl
published-unprepared p r s begun none false is =
    let own = r.prepared s begun is in
    let prepares_it : prepares (worker_at p (r.beside.owner s)) s ≡ true = rw (own.place, own.current) (grind (arith, common_steps)) in
    absurd (true≢false (sym prepares_it ∙ none (r.beside.owner s)))

-- a swap's words spell its entries
spell-at : (p : Parts) (r : IsRunning p) (s : ℕ) → s < p.store.taken → Preparing p.store s p.workers ⊎ NonePrepares p.store s p.workers → Spell (r.entries s) (words_in p.store s p.workers)
spell-at p r s begun (inl h) = rw h.words (spell-prepared p r h.worker s (worker_at p h.worker).place (r.state.knows h.worker).place h.prepares)
spell-at p r s begun (inr h) = rw h.words (λ j le. r.state.sound.words s j (published-unprepared p r s begun h.none _ refl) le)

pub begun_is : (p : Parts) (r : IsRunning p) → begun_in p.store p.workers ≡ listed (λ s. entry_list (r.entries s)) 0 p.store.taken
begun_is p r = listed-same _ _ 0 p.store.taken (λ s from below. entry_list-spelled (r.entries s) _ (spell-at p r s (omega (arith, below)) (prepares_or_none p.store s p.workers)))
