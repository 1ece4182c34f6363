-- What the end of a search says: that no record has the key, or which one.
use Rattle.std.proofs.Common.{◌≡◌, ◌≢◌, ℕ, ◌+◌, ◌-◌, ◌<◌, ◌≤◌, Bool, true, false, List, Option, arith, refl, sym, ap, subst, ◌∙◌, inl, inr}
use Rattle.std.specs.Prelude.{not, Some, None}
use Rattle.std.specs.Bool.{Decides}
use Rattle.std.proofs.lemmas.Bool.{true≢false, cases_lt}
use Rattle.bz_layout.specs.declared.sizes.TheConstants.{SHARED_WORDS}
use Rattle.bz_slotted.specs.Page.{visible, page}
use Rattle.bz_slotted.specs.Readers.{found_of}
use Rattle.bz_slotted.specs.Records.{payload_in, key_at, found}
use Rattle.bz_slotted.specs.Tests.{every}
use Rattle.bz_slotted.specs.Whole.{Whole}
use Rattle.bz_slotted.proofs.Deciding.{Decides-every, Decides-self}
use Rattle.bz_slotted.proofs.KeyFacts.{same-key, other-key}
use Rattle.bz_slotted.proofs.Searches.{search-none, search-one}
use Rattle.bz_search.specs.Probes.{probe_in}
use Rattle.bz_search.specs.Searches.{dead_met as sorted_met, Searches}
use Rattle.bz_search.specs.declared.probe.Probe.{Probe}
use Rattle.bz_search.proofs.Halving.{begins, ends-none}
use Rattle.bz_task.specs.Outcomes.{IsRecordOf, payload_of}
use Rattle.bz_find.specs.Knowing.{has_key, dead_met, IsOther, HasCounts, HasFound, KnowsAt, KnowsRecord}
use Rattle.bz_find.specs.Steps.{step_at, found_as}
use Rattle.bz_find.specs.Words.{lies}
use Rattle.bz_find.specs.declared.search.Search.{Search}

has-other : (n : ℕ → ℕ) (key : List ℕ) (i : ℕ) → IsOther n key i → not (has_key (page n) key i) ≡ true
has-other n key i h = go (visible ((page n).meta i)) refl
  where
    go : (b : Bool) → visible ((page n).meta i) ≡ b → not (has_key (page n) key i) ≡ true
    go true v = rw (v, other-key (key_at (page n) i) key (h v)) refl
    go false v = rw v refl

module _ (n : ℕ → ℕ) (key : List ℕ) where
  tail-decides : Decides (every ((page n).count - (page n).sorted) (λ i. not (has_key (page n) key ((page n).sorted + i)))) ((k : ℕ) → k < (page n).count - (page n).sorted → not (has_key (page n) key ((page n).sorted + k)) ≡ true)
  tail-decides = Decides-every (λ i. not (has_key (page n) key ((page n).sorted + i))) (λ i. not (has_key (page n) key ((page n).sorted + i)) ≡ true) (λ i. Decides-self _) ((page n).count - (page n).sorted)

  -- no record after the sorted ones has the key
  pub met-behind : ((i : ℕ) → (page n).sorted ≤ i → i < (page n).count → IsOther n key i) → dead_met n key ≡ sorted_met n key
  unfolding dead_met
  met-behind h =
      let e : every ((page n).count - (page n).sorted) (λ i. not (has_key (page n) key ((page n).sorted + i))) ≡ true = tail-decides.1 (λ k l. has-other n key ((page n).sorted + k) (h ((page n).sorted + k) (omega arith) (omega (arith, l)))) in
      rw e refl

  -- one has it
  pub met-none : (j : ℕ) → (page n).sorted ≤ j → j < (page n).count → visible ((page n).meta j) ≡ true → key_at (page n) j ≡ key → dead_met n key ≡ 0
  unfolding dead_met
  met-none j from to v same = go (every ((page n).count - (page n).sorted) (λ i. not (has_key (page n) key ((page n).sorted + i)))) refl
    where
      has : has_key (page n) key j ≡ true
      has = rw (v, same-key (key_at (page n) j) key same) refl

      place : (page n).sorted + (j - (page n).sorted) ≡ j
      place = omega (arith, from)

      go : (b : Bool) → every ((page n).count - (page n).sorted) (λ i. not (has_key (page n) key ((page n).sorted + i))) ≡ b → dead_met n key ≡ 0
      go true e = absurd (true≢false (sym (tail-decides.0 e (j - (page n).sorted) (omega (arith, from, to))) ∙ (ap (λ z. not (has_key (page n) key z)) place ∙ ap not has)))
      go false e = rw e refl

-- the search of the sorted records is at a probe, or has ended
pub at-probe : (n : ℕ → ℕ) (u : Search) (o : Option Probe) → HasCounts n u → u.found ≡ None → ((i : ℕ) → (page n).sorted ≤ i → i < (page n).count → IsOther n u.key i) → Searches n u.key u.dead o → KnowsAt n u (step_at o)
unfolding found_of
at-probe n u None c f t s = record {
  counts = c;
  met = ends-none n u.key u.dead s ∙ sym (met-behind n u.key t);
  says = search-none n (page n).meta u.key (page n).count none ∙ ap payload_of (sym f);
  shows = λ found e. absurd (let q : None ≡ Some found = sym f ∙ e in cc);
}
  where
    none : (i : ℕ) → i < (page n).count → visible ((page n).meta i) ≡ true → key_at (page n) i ≢ u.key
    none i l v = elim (cases_lt i (page n).sorted) [ inl before ↦ s.at i before v | inr after ↦ t i after l v ]
at-probe n u (Some r) c f t s = record { counts = c; none = f; passed = t; searches = s }

-- the first probe
pub at-first : (n : ℕ → ℕ) (u : Search) → (page n).sorted ≤ SHARED_WORDS → HasCounts n u → u.found ≡ None → u.dead ≡ 0 → ((i : ℕ) → (page n).sorted ≤ i → i < (page n).count → IsOther n u.key i) → KnowsAt n u (step_at (probe_in 0 u.sorted))
at-first n u few c f d t =
    let s : Searches n u.key u.dead (probe_in 0 u.sorted) = rw (c.sorted, d) (begins n u.key few) in
    at-probe n u (probe_in 0 u.sorted) c f t s

-- the record that was found
module _ (raw n : ℕ → ℕ) (lo hi : Option (List ℕ)) (h : Whole raw (page n) lo hi) where
  pub has-found : (u : Search) (j w : ℕ) → KnowsRecord n u j w → u.found ≡ found_as j w (Some (payload_in n (lies w))) → HasFound n u
  unfolding found_of
  has-found u j w k f = record {
    counts = k.counts;
    met = k.met;
    says = one ∙ ap payload_of (sym f);
    shows = λ found e.
        let q : Some (record { index = j; meta = w; payload = payload_in n (lies w) }) ≡ Some found = sym f ∙ e in
        let r : record { index = j; meta = w; payload = payload_in n (lies w) } ≡ found = cc in
        subst (λ z. IsRecordOf u.key n z) r (record { counted = k.counted; word = k.meta; visible = k.visible; same = k.same; payload = refl });
  }
    where
      vis : visible ((page n).meta j) ≡ true
      vis = rw k.meta k.visible

      at-j : key_at (page n) j ≡ u.key
      at-j = rw k.meta k.same

      one : found (page n) u.key ≡ Some (payload_in n (lies w))
      one =
          subst (λ z. found (page n) u.key ≡ Some (payload_in n (lies z))) k.meta
          (search-one n (page n).meta u.key (page n).count j k.counted vis at-j (λ i l ne v e. h.distinct i j l k.counted ne v vis (e ∙ sym at-j)))
