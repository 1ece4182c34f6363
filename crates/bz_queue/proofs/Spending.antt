-- No descriptor is left: those that the journal does not show are held by other workers with open calls.
use Rattle.std.proofs.Common.{◌≡◌, ◌≢◌, ◌<◌, ◌≤◌, inl, inr, ◌==◌, ◌&&◌, ℕ, Bool, true, false, not, List, length, get_or, slice_index, refl, sym, ap, subst, ◌∙◌, arith, Option, Some, None}
use Rattle.std.specs.Prelude.{is_some}
use Rattle.std.proofs.lemmas.Bool.{ne_eqb}
use Rattle.bz_layout.specs.declared.limits.TheConstants.{MAX_WORKERS}
use Rattle.bz_mark.specs.Counts.{is_taken}
use Rattle.bz_mark.specs.Times.{since_on}
use Rattle.bz_swap.specs.SwapMemory.{SwapMemory, Idle, Swapping, doing_of}
use Rattle.bz_ring.specs.declared.calls.QReply.TheVariants.{Spent}
use Rattle.bz_ring.specs.declared.ring.Ring.{Ring}
use Rattle.bz_ring.specs.declared.marks.QMark.{QMark}
use Rattle.bz_ring.specs.declared.calls.QCall.{QCall}
use Rattle.bz_ring.specs.Calls.{Open, open_call, begun_calls}
use Rattle.bz_ring.specs.Journal.{memory_of}
use Rattle.bz_ring.specs.Replies.{AreSpent, IsRightBy}
use Rattle.bz_ring.specs.Solitary.{one_with}
use Rattle.bz_ring.specs.Sound.{first_items}
use Rattle.bz_queue.specs.Inside.Going.{IsBetween, MustEnd}
use Rattle.bz_queue.specs.Inside.Serving.{IsAt, IsSlot}
use Rattle.bz_queue.specs.Inside.Sparing.{swaps_at}
use Rattle.bz_queue.specs.declared.parts.Parts.{Parts}
use Rattle.bz_queue.specs.declared.serving.OpenCall.{OpenCall}
use Rattle.bz_queue.specs.declared.serving.Place.{Place}
use Rattle.bz_queue.specs.declared.serving.Place.TheVariants.{Counter, Cell, Again, Swap}
use Rattle.bz_queue.proofs.Counts.{passing-count, all-passing, Lands, IsApartInto, no-fewer}

-- a worker that does this swap is its owner, and its call is open
record IsHolder (p : Parts) (v s : ℕ) : Type 0 where
  worker : 1 ≤ v
  within : v ≤ MAX_WORKERS
  owner : slice_index p.owners.items s ≡ v
  opened : Open
  is_open : open_call v p.journal.past ≡ Some opened

owner-at : (r : Ring) (m : SwapMemory) (past : List QMark) (owners : List ℕ) (v s : ℕ) (called : QCall) (begun : ℕ) (effect : Option ℕ) (place : Place) → doing_of m v ≡ Swapping s → IsAt r m past owners v called begun effect place → slice_index owners s ≡ v
owner-at r m past owners v s called begun effect Counter doing h = absurd (cc (doing, h.doing))
owner-at r m past owners v s called begun effect (Cell counter) doing h = absurd (cc (doing, h.0.doing))
owner-at r m past owners v s called begun effect (Again counter at) doing h = absurd (cc (doing, h.0.doing))
owner-at r m past owners v s called begun effect (Swap counter word) doing h =
    let same : h.s ≡ s = cc (doing, h.doing) in
    ap (slice_index owners) (sym same) ∙ h.owner

holder-by : (p : Parts) (w v s : ℕ) (x : OpenCall) (b : IsBetween p w x) (slot : Option OpenCall) → doing_of p.access v ≡ Swapping s → IsSlot p.numbers.ring p.access p.journal.past p.owners.items p.numbers.workers v slot → IsHolder p v s
holder-by p w v s x b None doing h = absurd (cc (doing, h.idle))
holder-by p w v s x b (Some y) doing h = record {
  worker = omega (arith, h.opened.worker);
  within = omega (arith, h.opened.within, b.tabled.numbers.workers.at_most);
  owner = owner-at p.numbers.ring p.access p.journal.past p.owners.items v s y.call h.opened.begun y.effect y.place doing h.place;
  opened = _;
  is_open = h.opened.is_open;
}

not-self : (p : Parts) (w v s : ℕ) (x : OpenCall) → IsBetween p w x → doing_of p.access v ≡ Swapping s → v ≢ w
not-self p w v s x b doing same = let both : Swapping s ≡ Idle = sym doing ∙ ap (doing_of p.access) same ∙ b.idle in cc

turned : (t : Bool) → not t ≡ true → t ≡ false
turned true is = absurd (cc)
turned false is = refl

passes-both : (a b : Bool) → a ≡ false → b ≡ true → (not a && b) ≡ true
passes-both false true is also = refl
passes-both true b is also = absurd (cc)
passes-both a false is also = absurd (cc)

module _ (p : Parts) (w : ℕ) (x : OpenCall) (b : IsBetween p w x) (none : p.access.taken ≡ p.access.swaps) where
  abbrev taken : ℕ → Bool
  taken s = is_taken s (since_on (memory_of p.journal.past))

  abbrev others : ℕ → Bool
  others v = not (v == w) && is_some (open_call v p.journal.past)

  -- who does a swap that the journal does not show
  doer : (s : ℕ) → s < p.numbers.ring.swaps → taken s ≡ false → (v : ℕ) × (doing_of p.access v ≡ Swapping s)
  doer s within unshown =
      let inside : s < p.access.swaps = omega (arith, b.tabled.swaps) in
      elim (b.memory.shown.begun s (omega arith)) [
        | inl does ↦ does
        | inr stored ↦ (let both : true ≡ false = sym (b.memory.shown.shown s inside stored) ∙ unshown in absurd (cc))
      ]

  holds : (s : ℕ) (within : s < p.numbers.ring.swaps) (unshown : taken s ≡ false) → IsHolder p (doer s within unshown).0 s
  holds s within unshown =
      let d = doer s within unshown in
      holder-by p w d.0 s x b (get_or p.workers.items d.0 None) d.1 (b.others d.0 (not-self p w d.0 s x b d.1))

  lands : (s : ℕ) → s < p.numbers.ring.swaps → taken s ≡ false → Lands others 1 MAX_WORKERS (slice_index p.owners.items s)
  lands s within unshown =
      let d = doer s within unshown in
      let h = holds s within unshown in
      let apart : d.0 ≢ w = not-self p w d.0 s x b d.1 in
      subst (Lands others 1 MAX_WORKERS) (sym h.owner)
      (record { low = h.worker; high = omega (arith, h.within); passes = passes-both (d.0 == w) (is_some (open_call d.0 p.journal.past)) (ne_eqb d.0 w apart) (ap is_some h.is_open) })

  apart : (s t : ℕ) (ws : s < p.numbers.ring.swaps) (wt : t < p.numbers.ring.swaps) (us : taken s ≡ false) (ut : taken t ≡ false) → slice_index p.owners.items s ≡ slice_index p.owners.items t → s ≡ t
  apart s t ws wt us ut same =
      let one = doer s ws us in
      let two = doer t wt ut in
      let workers : one.0 ≡ two.0 = sym (holds s ws us).owner ∙ same ∙ (holds t wt ut).owner in
      let doings : Swapping s ≡ Swapping t = sym one.1 ∙ ap (doing_of p.access) workers ∙ two.1 in
      cc

  into : IsApartInto (λ s. not (taken s)) others (slice_index p.owners.items) 0 p.numbers.ring.swaps 1 MAX_WORKERS
  into = record {
    lands = λ s low high is. lands s (omega arith) (turned (taken s) is);
    apart = λ s t ls hs lt ht is also same. apart s t (omega arith) (omega arith) (turned (taken s) is) (turned (taken t) also) same;
  }

  are-spent : AreSpent p.numbers.ring p.journal.past w
  are-spent = omega (
    arith,
    all-passing taken 0 p.numbers.ring.swaps,
    passing-count taken 0 p.numbers.ring.swaps,
    passing-count others 1 MAX_WORKERS,
    no-fewer (λ s. not (taken s)) others (slice_index p.owners.items) 0 p.numbers.ring.swaps 1 MAX_WORKERS into,
  )

  pub spent-end : x.effect ≡ None → swaps_at x.place ≡ 0 → MustEnd p w x Spent (length p.journal.past)
  spent-end no_effect no_swap = record {
    between = b;
    exact = no_swap ∙ ap one_with (sym no_effect);
    right = record {
      after_begin = b.opened.before;
      before_end = omega arith;
      right = subst (λ (effect : Option ℕ). IsRightBy p.numbers.ring (first_items p.numbers.ring p.journal.start) p.journal.past (record { worker = w; opened = record { number = begun_calls w p.journal.past; call = x.call; begun = b.opened.begun; effect = x.effect }; reply = Spent; at = length p.journal.past }) effect)
          (sym no_effect) (refl, are-spent);
    };
  }
