-- A queue over fresh memory.
use Rattle.std.proofs.Common.{◌≡◌, ◌<◌, ◌≤◌, inl, inr, ◌+◌, ◌-◌, ◌^◌, ℕ, zero, suc, Bool, false, List, [], ◌∷◌, length, replicate, get_or, slice_index, refl, sym, ap, subst, ◌∙◌, arith, length-append, Option, None}
use Rattle.std.specs.Prelude.{nat_lt}
use Rattle.std.proofs.lemmas.Bool.{cases_lt, cases_Bool}
use Rattle.std.proofs.lemmas.List.{length-replicate, get_or-replicate}
use Rattle.std.proofs.Math.ListN.{get_or-eq_default}
use Rattle.std.proofs.Math.Seq.{get_or-append_right}
use Rattle.bz_swap_cells.specs.Store.{status_of}
use Rattle.bz_layout.specs.Addresses.{swap_address}
use Rattle.bz_layout.specs.declared.sizes.TheConstants.{SUPERBLOCK_USED}
use Rattle.bz_rivals.proofs.Proved.{notes_are_of_begun}
use Rattle.bz_swap.specs.declared.phase.Phase.{Phase}
use Rattle.bz_swap.specs.declared.phase.Phase.TheVariants.{Opened}
use Rattle.bz_swap.specs.Held.{IsHeld, Holds}
use Rattle.bz_swap.specs.Power.{AreRecovered, IsOpened, opened}
use Rattle.bz_swap.specs.SwapMemory.{SwapMemory, Working, idle, has_effect}
use Rattle.bz_swap.proofs.Proved.{begun_stay_taken, owned_stay, settled_words_stay}
use Rattle.bz_swap_marks.proofs.Pasts.{fresh-past}
use Rattle.bz_mark.specs.declared.power.Power.TheVariants as power
use Rattle.bz_ring.specs.declared.ring.Ring.{Ring}
use Rattle.bz_ring.specs.declared.ring.TheConstants.{TAIL_AT}
use Rattle.bz_ring.specs.Content.{size_of}
use Rattle.bz_ring.specs.Fresh.{fresh_words}
use Rattle.bz_ring.specs.Journal.{QLog}
use Rattle.bz_ring.proofs.Proved.{fresh_journals_are_sound, fresh_memory_is_empty}
use Rattle.bz_queue.specs.Inside.Kept.{IsTabled, IsMemory, IsAwake, view_of}
use Rattle.bz_queue.specs.Inside.Left.{lefts_of}
use Rattle.bz_queue.specs.Inside.Serving.{IsSlot}
use Rattle.bz_queue.specs.Inside.Sparing.{IsSparingSlot}
use Rattle.bz_queue.specs.QueueView.{QueueView, AreNumbers, new_view}
use Rattle.bz_queue.specs.declared.open.Numbers.{Numbers}
use Rattle.bz_queue.specs.declared.parts.Parts.{Parts}
use Rattle.bz_queue.specs.declared.serving.OpenCall.{OpenCall}
use Rattle.bz_queue.proofs.Sweepable.{sweepable-opening}
use Rattle.bz_queue.proofs.Resting.{lefts-none, map-replicate}
use Rattle.bz_queue.proofs.Tables.{ring-of}

-- a list of one thing has it everywhere, and past its end
everywhere : {A : Type 0} (n i : ℕ) (x : A) → get_or (replicate n x) i x ≡ x
everywhere {A} n i x = elim (cases_lt i n) [
  | inl inside ↦ get_or-replicate n i x x inside
  | inr past ↦ get_or-eq_default (replicate n x) x (omega (arith, length-replicate {A = A} n x))
]

fresh-rest : (r : Ring) (a : ℕ) → 5 ≤ a → slice_index (fresh_words r) a ≡ 0
fresh-rest r a past = get_or-append_right (3 ∷ 0 ∷ 0 ∷ r.capacity ∷ r.swaps ∷ []) (replicate (size_of r - SUPERBLOCK_USED) 0) a 0 past ∙ everywhere (size_of r - SUPERBLOCK_USED) (a - 5) 0

module _ (n : Numbers) (are : AreNumbers n) where
  abbrev r : Ring
  r = n.ring

  plain : (a : ℕ) → slice_index (fresh_words r) a < 2 ^ 61
  plain zero = omega arith
  plain (suc zero) = omega arith
  plain (suc (suc zero)) = omega arith
  plain (suc (suc (suc zero))) = omega (arith, are.capacity.at_most)
  plain (suc (suc (suc (suc zero)))) = omega (arith, are.swaps.at_most)
  plain (suc (suc (suc (suc (suc a))))) = omega (arith, fresh-rest r (suc (suc (suc (suc (suc a))))) (omega arith))

  free : (s : ℕ) → slice_index (fresh_words r) (swap_address s) ≡ 0
  free s = fresh-rest r (swap_address s) (omega arith)

  recovered : AreRecovered r.swaps (fresh_words r)
  recovered = record { plain = λ a outside. plain a; free = λ s within. free s }

  abbrev m0 : SwapMemory
  m0 = opened Opened (fresh_words r) r.swaps n.workers

  pub memory-is : (m : SwapMemory) → IsOpened m (fresh_words r) r.swaps n.workers → m ≡ m0
  memory-is m o = o.is ∙ ap (λ (phase : Phase). opened phase (fresh_words r) r.swaps n.workers) (o.needs_none.1 recovered)

  no-effect : (s : ℕ) → has_effect m0 s ≡ false
  unfolding status_of
  no-effect s = elim (cases_Bool (nat_lt s r.swaps)) [
    | inl within ↦ rw (within, free s) refl
    | inr past ↦ rw past refl
  ]

  size : length (fresh_words r) ≡ size_of r
  size = length-append (3 ∷ 0 ∷ 0 ∷ r.capacity ∷ r.swaps ∷ []) (replicate (size_of r - SUPERBLOCK_USED) 0) ∙ omega (arith, length-replicate {A = ℕ} (size_of r - SUPERBLOCK_USED) 0)

  pub fresh-memory : (most : ℕ) → IsHeld m0 → IsMemory m0 (record { start = fresh_words r; past = []; most = most })
  fresh-memory most held = record {
    words = refl;
    past = fresh-past Opened (fresh_words r) r.swaps n.workers (omega (arith, are.workers.at_most));
    calm = record { phase = λ is. cc; held = held; settled = λ a outside none. settled_words_stay.opening Opened (fresh_words r) r.swaps n.workers a };
    owned = owned_stay.opening Opened (fresh_words r) r.swaps n.workers;
    noted = notes_are_of_begun.opening Opened (fresh_words r) r.swaps n.workers;
    shown = record { begun = begun_stay_taken.opening Opened (fresh_words r) r.swaps n.workers; shown = λ s within taken. absurd (taken (free s)); only = λ s within is. absurd (cc is) };
    unused = λ s from. no-effect s;
    sweepable = sweepable-opening Opened (fresh_words r) r.swaps n.workers plain;
    low = omega (arith, (held.private TAIL_AT (inl (omega arith)) refl).1);
  }

  slot : (w : ℕ) → IsSlot r m0 [] (replicate r.swaps 0) n.workers w (get_or (replicate 65 None) w None)
  slot w = subst (IsSlot r m0 [] (replicate r.swaps 0) n.workers w) (sym (everywhere 65 w None)) (record { none = refl; idle = ap (λ (it : Working). it.doing) (everywhere (n.workers + 1) w idle) })

  module _ (p : Parts) (log : p.journal ≡ record { start = fresh_words r; past = []; most = n.marks }) (numbers : p.numbers ≡ n) (o : IsOpened p.access (fresh_words r) r.swaps n.workers) (holds : Holds p.access)
      (workers : p.workers.items ≡ replicate 65 None) (owners : p.owners.items ≡ replicate r.swaps 0) (last : p.last.items ≡ replicate 65 0) (begun : p.begun ≡ 0)
      (on : p.power ≡ power.On) where
    abbrev q : Parts
    q = record p { numbers = n; access = m0; journal = record { start = fresh_words r; past = []; most = n.marks }; begun = 0 }

    is : p ≡ q
    is =
        ap (λ (z : Numbers). let it : Parts = record p { numbers = z } in it) numbers
        ∙ ap (λ (z : SwapMemory). let it : Parts = record p { numbers = n; access = z } in it) (memory-is p.access o)
        ∙ ap (λ (z : QLog). let it : Parts = record p { numbers = n; access = m0; journal = z } in it) log
        ∙ ap (λ (z : ℕ). let it : Parts = record p { numbers = n; access = m0; journal = record { start = fresh_words r; past = []; most = n.marks }; begun = z } in it) begun

    held : IsHeld m0
    held = subst Holds (memory-is p.access o) holds

    tabled : IsTabled q
    tabled = record {
      numbers = are;
      start = refl;
      most = refl;
      marks = omega arith;
      places = ap length workers ∙ length-replicate {A = Option OpenCall} 65 None;
      number_places = ap length last ∙ length-replicate {A = ℕ} 65 0;
      owner_places = ap length owners ∙ length-replicate {A = ℕ} r.swaps 0;
      crew = length-replicate (n.workers + 1) idle;
      swaps = refl;
      size = size;
      counted = λ w within. ap (λ (all : List ℕ). slice_index all w) last ∙ everywhere 65 w 0;
      begins = refl;
      few = omega arith;
      steps = omega arith;
      powered = sym on;
    }

    pub fresh-kept : IsAwake p
    fresh-kept = subst IsAwake (sym is) (record {
      on = on;
      tabled = tabled;
      memory = fresh-memory n.marks held;
      sound = fresh_journals_are_sound r (fresh_words r) [] (fresh_memory_is_empty r (ring-of n are));
      slots = λ w. subst (λ (all : List (Option OpenCall)). IsSlot r m0 [] p.owners.items n.workers w (get_or all w None)) (sym workers) (subst (λ (all : List ℕ). IsSlot r m0 [] all n.workers w (get_or (replicate 65 None) w None)) (sym owners) (slot w));
      sparing = tt;
      alone = λ w. subst (λ (all : List (Option OpenCall)). IsSparingSlot r m0 [] w (get_or all w None)) (sym workers) (subst (IsSparingSlot r m0 [] w) (sym (everywhere 65 w None)) tt);
    })

    fresh-left : lefts_of p ≡ replicate (n.workers + 1) 0
    fresh-left =
        lefts-none p (λ w. ap (λ (all : List (Option OpenCall)). get_or all w None) workers ∙ everywhere 65 w None)
        ∙ ap (λ (k : ℕ). replicate k 0) (ap (λ (q : Parts). length q.access.workers) is ∙ length-replicate (n.workers + 1) idle)

    pub fresh-view : view_of p ≡ new_view n
    fresh-view =
        ap (λ (z : Parts). let it : QueueView = record (view_of z) { left = lefts_of p } in it) is
        ∙ ap (λ (flushes : List Bool). let it : QueueView = record (new_view n) { flushes = flushes; left = lefts_of p } in it) (map-replicate (λ (it : Working). it.flush_next) (n.workers + 1) idle)
        ∙ ap (λ (left : List ℕ). let it : QueueView = record (new_view n) { left = left } in it) fresh-left
