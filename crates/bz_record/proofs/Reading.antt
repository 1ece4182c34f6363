-- A record whose words stand in a leaf is read as its key and its payload.
use Rattle.std.proofs.Common.{◌≡◌, ◌≢◌, ℕ, zero, suc, ◌+◌, ◌-◌, ◌^◌, ◌<◌, ◌&&◌, if◌then◌else◌, Bool, true, false, List, length, arith, refl, sym, ap, subst, ◌∙◌, inl, inr}
use Rattle.std.specs.Prelude.{bytes_eq, get_or, Some, None, IsSome, slice_index}
use Rattle.std.proofs.lemmas.Bool.{cases_eq, cases_lt, true≢false}
use Rattle.std.proofs.lemmas.List.{ext_get_or, get_or_append_left, get_or-append-add}
use Rattle.std.proofs.lemmas.List.FromFn.{length-map-range_with_len, get_or-map-range_with_len}
use Rattle.std.proofs.lemmas.Slice.Eq.{bytes_eq-Decides}
use Rattle.bz_key.specs.Packing.{packed, packed_len, unpacked, unpacked_key, unpacked_payload}
use Rattle.bz_key.proofs.PackingLaws.{unpacked-packed}
use Rattle.bz_key.proofs.UnpackingLaws.{unpacked_key-complete, unpacked_payload-complete}
use Rattle.bz_key.proofs.Proved.{packing_is_small}
use Rattle.bz_slotted.specs.FromNode.Reading.{payload_at, payload_len}
use Rattle.bz_slotted.specs.Page.{words_at, visible, extent_of}
use Rattle.bz_slotted.specs.Records.{key_words, payload_words, key_in, payload_in, search_to}
use Rattle.bz_slotted.specs.Whole.{IsPlainKey, IsPlainPayload}
use Rattle.bz_word.specs.declared.meta.Meta.{Meta}
use Rattle.bz_record.specs.Records.{words_in, size_of, offset_of, place_of, Fits}
use Rattle.bz_record.specs.declared.new_record.NewRecord.{NewRecord}

-- words that stand one after the other
words-are : (n : ℕ → ℕ) (from count : ℕ) (ws : List ℕ) → length ws ≡ count → ((i : ℕ) → i < length ws → n (from + i) ≡ slice_index ws i) → words_at n from count ≡ ws
unfolding words_at
words-are n from count ws e h =
    ext_get_or 0 _ _ (length-map-range_with_len n from count ∙ sym e) (λ i l.
    let within : i < count = omega (arith, l, length-map-range_with_len n from count) in
    get_or-map-range_with_len n from count i (from + i) 0 within refl ∙ h i (omega (arith, within, e)))

-- the record's words stand in n
abbrev pub Stands : (ℕ → ℕ) → NewRecord → Type 0
Stands n r = (i : ℕ) → i < size_of r → n (offset_of r + i) ≡ slice_index (words_in r) i

module _ (r : NewRecord) (f : Fits r) where
  key-count : length (packed r.key) ≡ packed_len (length r.key)
  key-count = (packing_is_small r.key f.key.each).0

  payload-count : length (packed r.payload) ≡ packed_len (length r.payload)
  payload-count = (packing_is_small r.payload f.payload.each).0

  -- its words are plain values
  pub word-plain : (i : ℕ) → i < size_of r → slice_index (words_in r) i < 2 ^ 61
  word-plain i l = elim (cases_lt i (length (packed r.key))) [
    | inl k ↦ (let p : get_or (packed r.key) i 0 < 2 ^ 56 = (packing_is_small r.key f.key.each).1 i 0 k in omega (arith, p, get_or_append_left (packed r.key) (packed r.payload) 0 i k))
    | inr k ↦ (
        let j : i ≡ length (packed r.key) + (i - length (packed r.key)) = omega (arith, k) in
        let p : get_or (packed r.payload) (i - length (packed r.key)) 0 < 2 ^ 56 = (packing_is_small r.payload f.payload.each).1 (i - length (packed r.key)) 0 (omega (arith, l, k)) in
        omega (arith, p, ap (slice_index (words_in r)) j, get_or-append-add (packed r.key) (packed r.payload) (i - length (packed r.key)) 0))
  ]

  rest : payload_len (place_of r) ≡ length r.payload
  rest = omega arith

  module _ (n : ℕ → ℕ) (h : Stands n r) where
    pub keys : key_words n (place_of r) ≡ packed r.key
    keys = words-are n (offset_of r) (packed_len (length r.key)) (packed r.key) key-count (λ i l. h i (omega (arith, l)) ∙ get_or_append_left (packed r.key) (packed r.payload) 0 i l)

    pub payloads : payload_words n (place_of r) ≡ packed r.payload
    payloads =
        words-are n (payload_at (place_of r)) (packed_len (payload_len (place_of r))) (packed r.payload) (payload-count ∙ ap packed_len (sym rest)) (λ i l.
        let e : payload_at (place_of r) + i ≡ offset_of r + (length (packed r.key) + i) = omega (arith, key-count) in
        ap n e ∙ (h (length (packed r.key) + i) (omega (arith, l)) ∙ get_or-append-add (packed r.key) (packed r.payload) i 0))

    pub reads-key : key_in n (place_of r) ≡ r.key
    reads-key = ap (unpacked (length r.key)) keys ∙ unpacked-packed r.key f.key.each

    pub reads-payload : payload_in n (place_of r) ≡ r.payload
    reads-payload = ap (λ z. unpacked z (payload_words n (place_of r))) rest ∙ (ap (unpacked (length r.payload)) payloads ∙ unpacked-packed r.payload f.payload.each)

  module _ (raw n : ℕ → ℕ) (g : Stands raw r) (h : Stands n r) where
    pub plain-key : IsPlainKey raw n (place_of r)
    plain-key = record {
      stands = keys raw g ∙ sym (keys n h);
      packs = subst IsSome (sym (ap (unpacked_key (length r.key)) (keys n h) ∙ unpacked_key-complete r.key f.key)) refl;
    }

    pub plain-payload : IsPlainPayload raw n (place_of r)
    plain-payload = record {
      stands = payloads raw g ∙ sym (payloads n h);
      packs = subst IsSome (sym (ap (λ z. unpacked_payload z (payload_words n (place_of r))) rest ∙ (ap (unpacked_payload (length r.payload)) (payloads n h) ∙ unpacked_payload-complete r.payload f.payload))) refl;
    }

-- where a search finds none, no visible record has the key
pub not-found : (n : ℕ → ℕ) (meta : ℕ → Meta) (key : List ℕ) (k : ℕ) → search_to n meta key k ≡ None → (i : ℕ) → i < k → visible (meta i) ≡ true → key_in n (extent_of (meta i)) ≢ key
unfolding search_to
not-found n meta key zero e i l v q = omega (arith, l)
not-found n meta key (suc k) e i l v q = elim (cases_eq i k) [
  | inl is ↦ (
      let seen : visible (meta k) ≡ true = subst (λ z. visible (meta z) ≡ true) is v in
      let same : bytes_eq (key_in n (extent_of (meta k))) key ≡ true = (bytes_eq-Decides (key_in n (extent_of (meta k))) key).1 (subst (λ z. key_in n (extent_of (meta z)) ≡ key) is q) in
      true≢false (sym (both seen same) ∙ (go (visible (meta k) && bytes_eq (key_in n (extent_of (meta k))) key) refl e).0))
  | inr ne ↦ not-found n meta key k (go (visible (meta k) && bytes_eq (key_in n (extent_of (meta k))) key) refl e).1 i (omega (arith, l, ne)) v q
]
  where
    both : visible (meta k) ≡ true → bytes_eq (key_in n (extent_of (meta k))) key ≡ true → (visible (meta k) && bytes_eq (key_in n (extent_of (meta k))) key) ≡ true
    both a b = rw (a, b) refl

    go : (t : Bool) → (visible (meta k) && bytes_eq (key_in n (extent_of (meta k))) key) ≡ t → (if t then Some (payload_in n (extent_of (meta k))) else search_to n meta key k) ≡ None → (t ≡ false) × (search_to n meta key k ≡ None)
    go true p h = absurd (cc)
    go false p h = (refl, h)
