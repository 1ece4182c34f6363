-- The records of a whole leaf lie in it.
use Rattle.std.proofs.Common.{◌≡◌, ℕ, ◌+◌, ◌<◌, ◌≤◌, Bool, true, false, List, Option, arith, refl, sym, ap, ◌∙◌, inl, inr}
use Rattle.std.specs.Prelude.{nat_lt, nat_le, length, slice_index, slice_set, take, Some}
use Rattle.std.proofs.lemmas.Bool.{true≢false, cases_eq}
use Rattle.std.proofs.lemmas.Bool.Decides.{nat_tests}
use Rattle.std.proofs.lemmas.List.{get_or-set_same, get_or-set_other, get_or-take, length-take-le, ext_get_or}
use Rattle.bz_key.specs.Packing.{packed_len, unpacked_key, unpacked_payload}
use Rattle.bz_key.specs.declared.limits.TheConstants.{KEY_BYTES, PAYLOAD_BYTES}
use Rattle.bz_layout.specs.declared.sizes.TheConstants.{META_AT, NODE_WORDS}
use Rattle.bz_node.specs.Reading.{payload_at, payload_len, extent_words}
use Rattle.bz_node.proofs.Unpacked.{unpacked_key-some, unpacked_payload-some}
use Rattle.bz_word.specs.declared.meta.Meta.{Meta}
use Rattle.bz_word.specs.declared.meta.Meta.TheVariants.{Unused, Reserved, Visible, Deleted}
use Rattle.bz_slotted.specs.Page.{words_at, visible, held, page}
use Rattle.bz_slotted.specs.Records.{key_words, payload_words, key_in, payload_in}
use Rattle.bz_slotted.specs.Whole.{Whole, IsLeafRecord, IsInBlock}
use Rattle.bz_slotted.proofs.Words.{length-words_at, get_or-words_at}
use Rattle.bz_find.specs.Words.{lies, is_record}

pub held-visible : (m : Meta) → visible m ≡ true → held m ≡ true
unfolding visible held
held-visible (Visible e) h = refl
held-visible (Reserved e) h = refl
held-visible (Deleted k t) h = absurd (cc)
held-visible Unused h = absurd (cc)

module _ (raw n : ℕ → ℕ) (lo hi : Option (List ℕ)) (h : Whole raw (page n) lo hi) (j : ℕ) (c : j < (page n).count) where
  pub is-record : visible ((page n).meta j) ≡ true → is_record (n (META_AT + j)) ≡ true
  is-record v =
      let l : IsLeafRecord ((page n).meta j) = h.lengths j c in
      let b : IsInBlock (page n) ((page n).meta j) = h.inside j c (held-visible ((page n).meta j) v) in
      let some : nat_lt 0 (lies (n (META_AT + j))).key ≡ true = grind (arith, nat_tests, l.some) in
      let short : nat_le (lies (n (META_AT + j))).key KEY_BYTES ≡ true = grind (arith, nat_tests, l.short) in
      let few : payload_len (lies (n (META_AT + j))) ≤ PAYLOAD_BYTES = omega (arith, l.payload) in
      let payload : nat_le (payload_len (lies (n (META_AT + j)))) PAYLOAD_BYTES ≡ true = grind (arith, nat_tests, few) in
      let ends : nat_le ((lies (n (META_AT + j))).offset + extent_words (lies (n (META_AT + j)))) NODE_WORDS ≡ true = grind (arith, nat_tests, b.ends) in
      rw (v, some, short, payload, ends) refl

  pub is-hidden : is_record (n (META_AT + j)) ≡ false → visible ((page n).meta j) ≡ false
  is-hidden e = go (visible ((page n).meta j)) refl
    where
      go : (b : Bool) → visible ((page n).meta j) ≡ b → visible ((page n).meta j) ≡ false
      go true v = absurd (true≢false (sym (is-record v) ∙ e))
      go false v = v

-- words that were read are those of a part of the node
pub read-part : (n : ℕ → ℕ) (words : List ℕ) (from count : ℕ) → count ≤ length words → ((k : ℕ) → k < count → slice_index words k ≡ n (from + k)) → take count words ≡ words_at n from count
read-part n words from count l h =
    let m : length (take count words) ≡ count = length-take-le count words l in
    ext_get_or 0 (take count words) (words_at n from count) (m ∙ sym (length-words_at n from count))
    (λ k d. let s : k < count = omega (arith, d, m) in get_or-take count words k 0 s ∙ (h k s ∙ sym (get_or-words_at n from count k s)))

-- one word more
pub read-more : (n : ℕ → ℕ) (words : List ℕ) (from i v : ℕ) → i < length words → v ≡ n (from + i) → ((k : ℕ) → k < i → slice_index words k ≡ n (from + k)) → (k : ℕ) → k < i + 1 → slice_index (slice_set words i v) k ≡ n (from + k)
read-more n words from i v l e h k d = elim (cases_eq k i) [
  | inl q ↦ rw q (get_or-set_same words i v 0 l ∙ e)
  | inr ne ↦ get_or-set_other words i k v 0 ne ∙ h k (omega (arith, d, ne))
]

-- so they are a key, and a payload
pub key-read : (raw n : ℕ → ℕ) (lo hi : Option (List ℕ)) → Whole raw (page n) lo hi → (j : ℕ) (words : List ℕ) → j < (page n).count → visible ((page n).meta j) ≡ true
    → packed_len (lies (n (META_AT + j))).key ≤ length words → ((k : ℕ) → k < packed_len (lies (n (META_AT + j))).key → slice_index words k ≡ n ((lies (n (META_AT + j))).offset + k))
    → unpacked_key (lies (n (META_AT + j))).key (take (packed_len (lies (n (META_AT + j))).key) words) ≡ Some (key_in n (lies (n (META_AT + j))))
key-read raw n lo hi h j words c v l r =
    let e = lies (n (META_AT + j)) in
    ap (unpacked_key e.key) (read-part n words e.offset (packed_len e.key) l r) ∙ unpacked_key-some e.key (key_words n e) (h.key j c v).packs

pub payload-read : (raw n : ℕ → ℕ) (lo hi : Option (List ℕ)) → Whole raw (page n) lo hi → (j : ℕ) (words : List ℕ) → j < (page n).count → visible ((page n).meta j) ≡ true
    → packed_len (payload_len (lies (n (META_AT + j)))) ≤ length words → ((k : ℕ) → k < packed_len (payload_len (lies (n (META_AT + j)))) → slice_index words k ≡ n (payload_at (lies (n (META_AT + j))) + k))
    → unpacked_payload (payload_len (lies (n (META_AT + j)))) (take (packed_len (payload_len (lies (n (META_AT + j))))) words) ≡ Some (payload_in n (lies (n (META_AT + j))))
payload-read raw n lo hi h j words c v l r =
    let e = lies (n (META_AT + j)) in
    ap (unpacked_payload (payload_len e)) (read-part n words (payload_at e) (packed_len (payload_len e)) l r) ∙ unpacked_payload-some (payload_len e) (payload_words n e) (h.payload j c v).packs
