-- What a search learns of a whole leaf by each word of it.
use Rattle.std.proofs.Common.{◌≡◌, ◌≢◌, ℕ, ◌+◌, ◌<◌, ◌≤◌, true, false, List, Option, length, arith, refl, sym, ap, subst, ◌∙◌, inl, inr}
use Rattle.std.specs.Prelude.{Some, None, nat_lt, slice_set, take}
use Rattle.std.specs.Cmp.Lexicographic.{slice_cmp}
use Rattle.std.specs.Ordering.{nat_cmp}
use Rattle.std.specs.declared.cmp.Ordering.{Ordering}
use Rattle.std.specs.declared.cmp.Ordering.TheVariants.{Less, Equal, Greater}
use Rattle.std.proofs.lemmas.Bool.{true≢false, cases_lt, cases_eq, cases_Bool}
use Rattle.std.proofs.lemmas.Bool.Decides.{nat_tests}
use Rattle.std.proofs.lemmas.Cmp.{nat_list_cmp_total, tied_itself}
use Rattle.std.proofs.lemmas.Map.Lookups.{exact_bytes}
use Rattle.bz_key.specs.Packing.{packed_len, unpacked_key}
use Rattle.bz_layout.specs.declared.sizes.TheConstants.{META_AT, SHARED_WORDS}
use Rattle.bz_node.specs.Reading.{payload_at, payload_len}
use Rattle.bz_tree.specs.Order.{is_before}
use Rattle.bz_slotted.specs.Page.{visible, page}
use Rattle.bz_slotted.specs.Records.{key_in, payload_in, key_at}
use Rattle.bz_slotted.specs.Whole.{Whole}
use Rattle.bz_search.specs.Probes.{lower_of, upper_of, down_of}
use Rattle.bz_search.specs.declared.probe.Probe.{Probe}
use Rattle.bz_search.proofs.Halving.{to-lower, to-upper, to-down, ends-here}
use Rattle.bz_find.specs.Bounds.{IsLeafRecord, IsSized, IsTail, IsSorted, IsSpot, IsStepOf, IsStep}
use Rattle.bz_find.specs.Knowing.{IsOther, HasCounts, KnowsTail, KnowsSorted, KnowsSpot, HasRead, KnowsRecord, KnowsAt, Knows}
use Rattle.bz_find.specs.Steps.{index_of, place_of, step_at, step_below, passed, payload_read, found_as, finished, matched, compared_with, key_order, ordered, key_word, payload_word, heard_at, heard}
use Rattle.bz_find.specs.Words.{lies, is_record}
use Rattle.bz_find.specs.declared.search.Search.{Search}
use Rattle.bz_find.specs.declared.search.Spot.{Spot}
use Rattle.bz_find.specs.declared.search.Spot.TheVariants.{Tail, Sorted}
use Rattle.bz_find.specs.declared.search.Step.{Step}
use Rattle.bz_find.specs.declared.search.Step.TheVariants.{Meta, Word, Payload, Done}
use Rattle.bz_find.proofs.Advancing.{sized-set, spot-set}
use Rattle.bz_find.proofs.Endings.{met-behind, met-none, at-probe, at-first, has-found}
use Rattle.bz_find.proofs.Metas.{is-hidden, read-more, key-read, payload-read}
use Rattle.bz_find.proofs.Orders.{less-before, greater-after, equal-not-before, equal-not-after}

module _ (n : ℕ → ℕ) where
  -- what is known of a record is known in each search with the same counts, key and end
  spot-in : (t u : Search) (at : Spot) → u.key ≡ t.key → u.count ≡ t.count → u.sorted ≡ t.sorted → u.dead ≡ t.dead → u.found ≡ t.found → KnowsSpot n t at → KnowsSpot n u at
  spot-in t u (Tail j) key count sorted dead found k = record { counts = record { count = count ∙ k.counts.count; sorted = sorted ∙ k.counts.sorted }; none = found ∙ k.none; passed = rw key k.passed }
  spot-in t u (Sorted r) key count sorted dead found k = record {
    counts = record { count = count ∙ k.counts.count; sorted = sorted ∙ k.counts.sorted };
    none = found ∙ k.none;
    passed = rw key k.passed;
    searches = rw (key, dead) k.searches;
  }

  pub counted : (t : Search) (at : Spot) → IsSized t → IsSpot t at → KnowsSpot n t at → index_of at < (page n).count
  counted t (Tail j) s h k = omega (arith, h.counted, k.counts.count)
  counted t (Sorted r) s h k = omega (arith, h.probe.index, h.probe.some, h.high, s.sorted, k.counts.count)

module _ (raw n : ℕ → ℕ) (lo hi : Option (List ℕ)) (h : Whole raw (page n) lo hi) where
  few : (page n).sorted ≤ SHARED_WORDS
  few = omega (arith, h.filled.sorted, h.filled.room)

  -- the records from one on are others
  below : (u : Search) (j : ℕ) → HasCounts n u → u.found ≡ None → u.dead ≡ 0 → u.sorted ≤ j → ((i : ℕ) → j ≤ i → i < (page n).count → IsOther n u.key i) → KnowsAt n u (step_below u.sorted j)
  below u j c f d from p = elim (cases_lt u.sorted j) [
    | inl l ↦ (let b : nat_lt u.sorted j ≡ true = grind (arith, nat_tests) in rw b (record { counts = c; none = f; passed = λ i a. p i (omega (arith, a, l)) }))
    | inr l ↦ (
        let b : nat_lt u.sorted j ≡ false = grind (arith, nat_tests) in
        rw b (at-first n u few c f d (λ i a. p i (omega (arith, a, l, c.sorted)))))
  ]

  below-tail : (t : Search) (j : ℕ) → IsTail t j → KnowsTail n t j → IsOther n t.key j → Knows n (record t { step = step_below t.sorted j })
  below-tail t j s k o =
      below (record t { step = step_below t.sorted j }) j (record { count = k.counts.count; sorted = k.counts.sorted }) k.none s.none s.from
      (λ i a l. elim (cases_eq i j) [ inl e ↦ subst (IsOther n t.key) (sym e) o | inr ne ↦ k.passed i (omega (arith, a, ne)) l ])

  -- a record that is not visible
  learns-hidden : (t : Search) (at : Spot) → IsSpot t at → KnowsSpot n t at → visible ((page n).meta (index_of at)) ≡ false → Knows n (passed t at)
  learns-hidden t (Tail j) s k v = below-tail t j s k (λ w. absurd (true≢false (sym w ∙ v)))
  learns-hidden t (Sorted r) s k v =
      at-probe n (record t { step = step_at (down_of r); dead = t.dead + 1 }) (down_of r) (record { count = k.counts.count; sorted = k.counts.sorted }) k.none k.passed
      (to-down n t.key t.dead h.order r k.searches v)

  -- the payload has been read
  learns-finished : (t : Search) (j w : ℕ) → IsSized t → IsLeafRecord w → KnowsRecord n t j w → HasRead n t (payload_at (lies w)) (packed_len (payload_len (lies w))) → Knows n (finished t j w)
  learns-finished t j w s f k r =
      has-found raw n lo hi h (finished t j w) j w (record { counts = record { count = k.counts.count; sorted = k.counts.sorted }; counted = k.counted; meta = k.meta; visible = k.visible; same = k.same; met = k.met })
      (ap (found_as j w) (read w k.meta r (omega (arith, f.payload, s.words))))
    where
      vis : visible ((page n).meta j) ≡ true
      vis = rw k.meta k.visible

      read : (x : ℕ) → n (META_AT + j) ≡ x → HasRead n t (payload_at (lies x)) (packed_len (payload_len (lies x))) → packed_len (payload_len (lies x)) ≤ length t.words → payload_read t.words x ≡ Some (payload_in n (lies x))
      read x e =
          subst (λ z. HasRead n t (payload_at (lies z)) (packed_len (payload_len (lies z))) → packed_len (payload_len (lies z)) ≤ length t.words → payload_read t.words z ≡ Some (payload_in n (lies z))) e
          (λ q l. payload-read raw n lo hi h j t.words k.counted vis l q)

  learns-match : (t : Search) (j w : ℕ) → IsSized t → IsLeafRecord w → KnowsRecord n t j w → Knows n (matched t j w)
  learns-match t j w s f k = elim (cases_lt 0 (packed_len (payload_len (lies w)))) [
    | inl l ↦ (
        let q : nat_lt 0 (packed_len (payload_len (lies w))) ≡ true = grind (arith, nat_tests) in
        rw q (record {
          of = record { counts = record { count = k.counts.count; sorted = k.counts.sorted }; counted = k.counted; meta = k.meta; visible = k.visible; same = k.same; met = k.met };
          read = λ i z. absurd (omega (arith, z));
        }))
    | inr l ↦ (
        let q : nat_lt 0 (packed_len (payload_len (lies w))) ≡ false = grind (arith, nat_tests) in
        rw q (learns-finished t j w s f k (λ i z. absurd (omega (arith, z, l)))))
  ]

  module _ (t : Search) (w : ℕ) (o : Ordering) (s : IsSized t) (f : IsLeafRecord w) (is : o ≡ slice_cmp nat_cmp t.key (key_in n (lies w))) where
    is-before : (j : ℕ) → n (META_AT + j) ≡ w → o ≡ Less → is_before t.key (key_at (page n) j) ≡ true
    is-before j m e = rw m (less-before t.key (key_in n (lies w)) (sym is ∙ e))

    is-after : (j : ℕ) → n (META_AT + j) ≡ w → o ≡ Greater → is_before (key_at (page n) j) t.key ≡ true
    is-after j m e = rw m (greater-after t.key (key_in n (lies w)) (sym is ∙ e))

    is-same : o ≡ Equal → key_in n (lies w) ≡ t.key
    is-same e = sym (exact_bytes t.key (key_in n (lies w)) (sym is ∙ e))

    vis : (j : ℕ) → n (META_AT + j) ≡ w → visible ((page n).meta j) ≡ true
    vis j m = rw m f.visible

    learns-tail : (j : ℕ) → n (META_AT + j) ≡ w → IsTail t j → KnowsTail n t j → (o ≡ Equal → ⊥) → Knows n (record t { step = step_below t.sorted j })
    learns-tail j m i k ne = below-tail t j i k (λ v e. ne (same e))
      where
        same : key_at (page n) j ≡ t.key → o ≡ Equal
        same e = is ∙ (ap (slice_cmp nat_cmp t.key) (rw m at e) ∙ tied)
          where
            tied : slice_cmp nat_cmp t.key t.key ≡ Equal
            tied = tied_itself nat_list_cmp_total t.key

    -- the record is the key's
    known-tail : (j : ℕ) → n (META_AT + j) ≡ w → IsTail t j → KnowsTail n t j → o ≡ Equal → KnowsRecord n t j w
    known-tail j m i k e =
        let c : j < (page n).count = omega (arith, i.counted, k.counts.count) in
        let at-j : key_at (page n) j ≡ t.key = rw m (is-same e) in
        record { counts = k.counts; counted = c; meta = m; visible = f.visible; same = is-same e; met = i.none ∙ sym (met-none n t.key j (omega (arith, i.from, k.counts.sorted)) c (vis j m) at-j) }

    known-sorted : (r : Probe) → n (META_AT + r.index) ≡ w → IsSorted t r → KnowsSorted n t r → o ≡ Equal → KnowsRecord n t r.index w
    known-sorted r m i k e =
        let here : slice_cmp nat_cmp t.key (key_at (page n) r.index) ≡ Equal = rw m (sym is ∙ e) in
        record {
          counts = k.counts;
          counted = omega (arith, i.probe.index, i.probe.some, i.high, s.sorted, k.counts.count);
          meta = m;
          visible = f.visible;
          same = is-same e;
          met = ends-here n t.key t.dead h.order r k.searches (vis r.index m) (equal-not-before t.key (key_at (page n) r.index) here) (equal-not-after t.key (key_at (page n) r.index) here) ∙ sym (met-behind n t.key k.passed);
        }

    learns-order : (at : Spot) → n (META_AT + index_of at) ≡ w → IsSpot t at → KnowsSpot n t at → (x : Ordering) → o ≡ x → Knows n (ordered t at w x)
    learns-order (Tail j) m i k Less e = learns-tail j m i k (λ q. let z : Less ≡ Equal = sym e ∙ q in cc)
    learns-order (Tail j) m i k Equal e = learns-match t j w s f (known-tail j m i k e)
    learns-order (Tail j) m i k Greater e = learns-tail j m i k (λ q. let z : Greater ≡ Equal = sym e ∙ q in cc)
    learns-order (Sorted r) m i k Less e =
        at-probe n (record t { step = step_at (lower_of r) }) (lower_of r) (record { count = k.counts.count; sorted = k.counts.sorted }) k.none k.passed
        (to-lower n t.key t.dead h.order r k.searches (vis r.index m) (is-before r.index m e))
    learns-order (Sorted r) m i k Equal e = learns-match t r.index w s f (known-sorted r m i k e)
    learns-order (Sorted r) m i k Greater e =
        at-probe n (record t { step = step_at (upper_of r) }) (upper_of r) (record { count = k.counts.count; sorted = k.counts.sorted }) k.none k.passed
        (to-upper n t.key t.dead h.order r k.searches (vis r.index m) (is-after r.index m e))

  -- the words of a key have been read
  order-read : (t : Search) (at : Spot) (w : ℕ) → index_of at < (page n).count → IsSized t → IsLeafRecord w → n (META_AT + index_of at) ≡ w → HasRead n t (lies w).offset (packed_len (lies w).key) → key_order t w ≡ slice_cmp nat_cmp t.key (key_in n (lies w))
  order-read t at w c s f m r = ap (compared_with t.key) (read w m r (omega (arith, f.short, s.words)))
    where
      vis : visible ((page n).meta (index_of at)) ≡ true
      vis = rw m f.visible

      read : (x : ℕ) → n (META_AT + index_of at) ≡ x → HasRead n t (lies x).offset (packed_len (lies x).key) → packed_len (lies x).key ≤ length t.words → unpacked_key (lies x).key (take (packed_len (lies x).key) t.words) ≡ Some (key_in n (lies x))
      read x e =
          subst (λ z. HasRead n t (lies z).offset (packed_len (lies z).key) → packed_len (lies z).key ≤ length t.words → unpacked_key (lies z).key (take (packed_len (lies z).key) t.words) ≡ Some (key_in n (lies z))) e
          (λ q l. key-read raw n lo hi h (index_of at) t.words c vis l q)

  learns-key : (t : Search) (at : Spot) (w i : ℕ) → IsSized t → IsSpot t at → IsLeafRecord w → KnowsSpot n t at → n (META_AT + index_of at) ≡ w → i < packed_len (lies w).key → HasRead n t (lies w).offset (i + 1) → Knows n (key_word t at w i)
  learns-key t at w i s p f k m l r = elim (cases_lt (i + 1) (packed_len (lies w).key)) [
    | inl more ↦ (
        let q : nat_lt (i + 1) (packed_len (lies w).key) ≡ true = grind (arith, nat_tests) in
        rw q (record { spot = spot-in n t (record t { step = Word at w (i + 1) }) at refl refl refl refl refl k; meta = m; read = r }))
    | inr all ↦ (
        let q : nat_lt (i + 1) (packed_len (lies w).key) ≡ false = grind (arith, nat_tests) in
        rw q (learns-order t w (key_order t w) s f (order-read t at w (counted n t at s p k) s f m (λ z d. r z (omega (arith, d, all)))) at m p k (key_order t w) refl))
  ]

  learns-payload : (t : Search) (j w i : ℕ) → IsSized t → IsLeafRecord w → KnowsRecord n t j w → HasRead n t (payload_at (lies w)) (i + 1) → Knows n (payload_word t j w i)
  learns-payload t j w i s f k r = elim (cases_lt (i + 1) (packed_len (payload_len (lies w)))) [
    | inl more ↦ (
        let q : nat_lt (i + 1) (packed_len (payload_len (lies w))) ≡ true = grind (arith, nat_tests) in
        rw q (record {
          of = record { counts = record { count = k.counts.count; sorted = k.counts.sorted }; counted = k.counted; meta = k.meta; visible = k.visible; same = k.same; met = k.met };
          read = r;
        }))
    | inr all ↦ (
        let q : nat_lt (i + 1) (packed_len (payload_len (lies w))) ≡ false = grind (arith, nat_tests) in
        rw q (learns-finished t j w s f k (λ z d. r z (omega (arith, d, all)))))
  ]

  learns-meta : (t : Search) (at : Spot) (v : ℕ) → IsSized t → IsSpot t at → KnowsSpot n t at → v ≡ n (META_AT + index_of at) → Knows n (heard_at t (Meta at) v)
  learns-meta t at v s p k e = elim (cases_Bool (is_record v)) [
    | inl q ↦ rw q (record { spot = spot-in n t (record t { step = Word at v 0 }) at refl refl refl refl refl k; meta = sym e; read = λ z d. absurd (omega (arith, d)) })
    | inr q ↦ rw q (learns-hidden t at p k (is-hidden raw n lo hi h (index_of at) (counted n t at s p k) (ap is_record (sym e) ∙ q)))
  ]

  learns-at : (t : Search) (step : Step) (v : ℕ) → IsSized t → IsStepOf t step → KnowsAt n t step → step ≢ Done → v ≡ n (place_of step) → Knows n (heard_at t step v)
  learns-at t (Meta at) v s p k d e = learns-meta t at v s p k e
  learns-at t (Word at w i) v s p k d e =
      let u : Search = record t { words = slice_set t.words i v } in
      let l : i < length t.words = omega (arith, p.2, p.1.short, s.words) in
      learns-key u at w i (sized-set t i v s) (spot-set t i v at p.0) p.1 (spot-in n t u at refl refl refl refl refl k.spot) k.meta p.2 (read-more n t.words (lies w).offset i v l e k.read)
  learns-at t (Payload j w i) v s p k d e =
      let u : Search = record t { words = slice_set t.words i v } in
      let l : i < length t.words = omega (arith, p.1, p.0.payload, s.words) in
      learns-payload u j w i (sized-set t i v s) p.0
      (record { counts = record { count = k.of.counts.count; sorted = k.of.counts.sorted }; counted = k.of.counted; meta = k.of.meta; visible = k.of.visible; same = k.of.same; met = k.of.met })
      (read-more n t.words (payload_at (lies w)) i v l e k.read)
  learns-at t Done v s p k d e = absurd (d refl)

  -- by each word of a whole leaf
  pub learns : (t : Search) (v : ℕ) → IsStep t → t.step ≢ Done → Knows n t → v ≡ n (place_of t.step) → Knows n (heard t v)
  learns t v s d k e = learns-at t t.step v s.sized s.of k d e

  -- at its begin it knows nothing
  pub begins-knowing : (u : Search) → HasCounts n u → u.found ≡ None → u.dead ≡ 0 → u.step ≡ step_below u.sorted u.count → Knows n u
  begins-knowing u c f d e =
      subst (λ z. KnowsAt n u z) (sym e) (below u u.count c f d (omega (arith, c.count, c.sorted, h.filled.sorted)) (λ i a l. absurd (omega (arith, a, l, c.count))))
