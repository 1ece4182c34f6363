-- What is read as the low fence of a leaf that breaks no rule is its low bound.
use Rattle.std.proofs.Common.{◌≡◌, ℕ, ◌+◌, ◌-◌, ◌<◌, ◌≤◌, List, length, map, take, drop, arith, refl, sym, ap, ◌∙◌, Option}
use Rattle.std.specs.Prelude.{Some, None, slice_index}
use Rattle.std.specs.List.{range_with_len}
use Rattle.std.proofs.lemmas.List.{ext_get_or, get_or-take, get_or-drop, length-take, length-drop}
use Rattle.std.proofs.lemmas.List.FromFn.{length-map-range_with_len, get_or-map-range_with_len}
use Rattle.bz_key.specs.Packing.{packed_len, unpacked_key}
use Rattle.bz_key.proofs.UnpackingLaws.{unpacked_key-sound}
use Rattle.bz_layout.specs.declared.sizes.TheConstants.{NODE_WORDS, HEADER_AT, LOW_FENCE_AT, FENCE_WORDS}
use Rattle.bz_node.specs.Reading.{part}
use Rattle.bz_slotted.specs.Laws.{LeafRulesAreFacts}
use Rattle.bz_slotted.specs.Page.{words_at, page}
use Rattle.bz_slotted.specs.ReadingLaws.{node_of}
use Rattle.bz_slotted.specs.Rules.{node_fault}
use Rattle.bz_slotted.specs.Whole.{IsFence, Whole}
use Rattle.bz_word.specs.Headers.{header, header_word, IsHeader, IsHeaderWord}
use Rattle.bz_word.specs.Statements.{IsCodec}
use Rattle.bz_word.specs.declared.header.Header.{Header}

-- a part of a list
part-at : (words : List ℕ) (at count : ℕ) → at + count ≤ length words → words_at (node_of words) at count ≡ part words at count
unfolding words_at
part-at words at count within =
    let width : at + count - at ≡ count = omega arith in
    rw width (ext_get_or 0 (map (node_of words) (range_with_len at count)) (take count (drop at words))
    (omega (arith, length-map-range_with_len (node_of words) at count, length-take count (drop at words), length-drop at words))
    (λ i l. let short : i < count = omega (arith, length-map-range_with_len (node_of words) at count) in
    get_or-map-range_with_len (node_of words) at count i (at + i) 0 short refl ∙ sym (get_or-take count (drop at words) i 0 short ∙ get_or-drop at words i 0)))

no-bytes : (words : List ℕ) → unpacked_key 0 words ≡ None
unfolding unpacked_key
no-bytes words = refl

-- what stands at a fence's place
fence-read : (words : List ℕ) (at len : ℕ) (bound : Option (List ℕ)) → at + FENCE_WORDS ≤ length words → IsFence (node_of words) at len bound → unpacked_key len (part words at (packed_len len)) ≡ bound
fence-read words at len None within f = (λ t. unpacked_key (f.0 t) (part words at (packed_len (f.0 t)))) ∙ no-bytes (part words at (packed_len 0))
fence-read words at len (Some key) within f =
    let u = unpacked_key-sound len (words_at (node_of words) at (packed_len len)) key f in
    ap (unpacked_key len) (sym (part-at words at (packed_len len) (omega (arith, within, u.0.fits, u.1)))) ∙ f

pub low-read : LeafRulesAreFacts → IsCodec Header IsHeader IsHeaderWord header_word header → (words : List ℕ) (h : Header) (read : Option (List ℕ)) → length words ≡ NODE_WORDS → IsHeader h → header_word h ≡ slice_index words HEADER_AT
    → read ≡ unpacked_key h.low (part words LOW_FENCE_AT (packed_len h.low)) → (nodes : ℕ) (low high : Option (List ℕ)) → node_fault nodes (node_of words) (node_of words) 0 low high ≡ None → read ≡ low
low-read rules codec words h read size fits word is nodes low high none =
    let w : Whole (node_of words) (page (node_of words)) low high = (rules nodes (node_of words) (node_of words) low high).0 none in
    let len : h.low ≡ (page (node_of words)).low = ap (λ z. z.low) (sym (codec.value h fits)) ∙ ap (λ z. (header z).low) word in
    is ∙ (ap (λ z. unpacked_key z (part words LOW_FENCE_AT (packed_len z))) len ∙ fence-read words LOW_FENCE_AT (page (node_of words)).low low (omega (arith, size)) w.fences.low)
