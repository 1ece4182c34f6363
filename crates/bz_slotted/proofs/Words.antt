-- A record, and a fence, is told by the words that it holds.
use Rattle.std.proofs.Common.{◌≡◌, ℕ, zero, suc, ◌+◌, ◌<◌, ◌≤◌, List, arith, refl, sym, ap, ◌∙◌, Option}
use Rattle.std.specs.Prelude.{Some, None}
use Rattle.std.specs.Prelude.{length, get_or}
use Rattle.std.proofs.lemmas.List.FromFn.{length-map-range_with_len, get_or-map-range_with_len}
use Rattle.bz_key.specs.Packing.{packed_len, unpacked}
use Rattle.bz_key.proofs.UnpackingLaws.{unpacked_key-sound}
use Rattle.bz_layout.specs.declared.sizes.TheConstants.{FENCE_WORDS}
use Rattle.bz_node.specs.Reading.{payload_at, payload_len, extent_words}
use Rattle.bz_word.specs.declared.meta.Extent.{Extent}
use Rattle.bz_slotted.specs.Page.{words_at}
use Rattle.bz_slotted.specs.Records.{key_words, payload_words, key_in, payload_in}
use Rattle.bz_slotted.specs.Whole.{IsFence, IsPlainKey, IsPlainPayload}

pub words_at-same : (f g : ℕ → ℕ) (at count : ℕ) → ((k : ℕ) → at ≤ k → k < at + count → f k ≡ g k) → words_at f at count ≡ words_at g at count
unfolding words_at
words_at-same f g at zero h = refl
words_at-same f g at (suc count) h = rw (h at (omega arith) (omega arith), words_at-same f g (at + 1) count (λ k a b. h k (omega arith) (omega arith))) refl

-- two nodes agree on the words of a record
abbrev pub Agree : (f g : ℕ → ℕ) → Extent → Type 0
Agree f g e = (k : ℕ) → e.offset ≤ k → k < e.offset + extent_words e → f k ≡ g k

pub key_words-same : (f g : ℕ → ℕ) (e : Extent) → Agree f g e → key_words f e ≡ key_words g e
key_words-same f g e h = words_at-same f g e.offset (packed_len e.key) (λ k a b. h k a (omega arith))

pub payload_words-same : (f g : ℕ → ℕ) (e : Extent) → Agree f g e → payload_words f e ≡ payload_words g e
payload_words-same f g e h = words_at-same f g (payload_at e) (packed_len (payload_len e)) (λ k a b. h k (omega arith) (omega arith))

pub key-same : (f g : ℕ → ℕ) (e : Extent) → Agree f g e → key_in f e ≡ key_in g e
key-same f g e h = ap (unpacked e.key) (key_words-same f g e h)

pub payload-same : (f g : ℕ → ℕ) (e : Extent) → Agree f g e → payload_in f e ≡ payload_in g e
payload-same f g e h = ap (unpacked (payload_len e)) (payload_words-same f g e h)

pub plain_key-same : (r s n m : ℕ → ℕ) (e : Extent) → Agree s r e → Agree m n e → IsPlainKey r n e → IsPlainKey s m e
plain_key-same r s n m e sr mn h = record {
  stands = key_words-same s r e sr ∙ h.stands ∙ sym (key_words-same m n e mn);
  packs = rw (key_words-same m n e mn) h.packs;
}

pub plain_payload-same : (r s n m : ℕ → ℕ) (e : Extent) → Agree s r e → Agree m n e → IsPlainPayload r n e → IsPlainPayload s m e
plain_payload-same r s n m e sr mn h = record {
  stands = payload_words-same s r e sr ∙ h.stands ∙ sym (payload_words-same m n e mn);
  packs = rw (payload_words-same m n e mn) h.packs;
}

pub fence-same : (n m : ℕ → ℕ) (at len : ℕ) (bound : Option (List ℕ)) → ((k : ℕ) → at ≤ k → k < at + FENCE_WORDS → m k ≡ n k) → IsFence n at len bound → IsFence m at len bound
fence-same n m at len None same h = (h.0, λ i l. same (at + i) (omega arith) (omega arith) ∙ h.1 i l)
fence-same n m at len (Some key) same h =
    let k = unpacked_key-sound len (words_at n at (packed_len len)) key h in
    rw (words_at-same m n at (packed_len len) (λ i a b. same i a (omega (arith, k.0.fits, k.1)))) h

pub length-words_at : (n : ℕ → ℕ) (at count : ℕ) → length (words_at n at count) ≡ count
unfolding words_at
length-words_at n at count = length-map-range_with_len n at count

pub get_or-words_at : (n : ℕ → ℕ) (at count i : ℕ) → i < count → get_or (words_at n at count) i 0 ≡ n (at + i)
unfolding words_at
get_or-words_at n at count i l = get_or-map-range_with_len n at count i (at + i) 0 l refl
