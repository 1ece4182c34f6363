-- One record of a leaf made whole, read back.
use Rattle.std.specs.Prelude.{◌≡◌, ℕ, ◌+◌, ◌-◌, List, ◌++◌, length}
use Rattle.std.proofs.Common.{arith, refl, ap, sym, ◌∙◌}
use Rattle.std.proofs.lemmas.List.{length-append, append_assoc}
use Rattle.bz_key.specs.Packing.{packed, packed_len, unpacked}
use Rattle.bz_key.proofs.PackingLaws.{length-packed, unpacked-packed}
use Rattle.bz_key.proofs.UnpackingLaws.{unpacked_key-exact, unpacked_payload-exact}
use Rattle.bz_layout.specs.declared.sizes.TheConstants.{NODE_WORDS}
use Rattle.bz_word.specs.declared.meta.Extent.{Extent}
use Rattle.bz_node.specs.Reading.{key_part, payload_part, payload_len, pair_in, HasPair}
use Rattle.bz_node.specs.Records.{IsPair}
use Rattle.bz_node.proofs.Made.{part_at}

-- the extent of a pair that begins at a place
abbrev pub extent_at : ℕ → (List ℕ × List ℕ) → Extent
extent_at start r = record { offset = start; key = length r.0; total = length r.0 + length r.1 }

key_there : (W P R : List ℕ) (r : List ℕ × List ℕ) (start : ℕ) → W ≡ P ++ ((packed r.0 ++ packed r.1) ++ R) → length P ≡ start → key_part W (extent_at start r) ≡ packed r.0
key_there W P R r start is at =
    rw (is, append_assoc (packed r.0) (packed r.1) R) (part_at P (packed r.0) (packed r.1 ++ R) start (packed_len (length r.0)) at (length-packed r.0))

payload_there : (W P R : List ℕ) (r : List ℕ × List ℕ) (start : ℕ) → W ≡ P ++ ((packed r.0 ++ packed r.1) ++ R) → length P ≡ start → payload_part W (extent_at start r) ≡ packed r.1
payload_there W P R r start is at =
    let len : length r.0 + length r.1 - length r.0 ≡ length r.1 = omega arith in
    let front : length (P ++ packed r.0) ≡ start + packed_len (length r.0) = omega (arith, length-append P (packed r.0), length-packed r.0) in
    let parted : W ≡ (P ++ packed r.0) ++ (packed r.1 ++ R) = rw (is, append_assoc (packed r.0) (packed r.1) R) (sym (append_assoc P (packed r.0) (packed r.1 ++ R))) in
    rw (len, parted) (part_at (P ++ packed r.0) (packed r.1) R (start + packed_len (length r.0)) (packed_len (length r.1)) front (length-packed r.1))

pub pair_there : (W P R : List ℕ) (r : List ℕ × List ℕ) (start : ℕ) → W ≡ P ++ ((packed r.0 ++ packed r.1) ++ R) → length P ≡ start → IsPair r → pair_in W (extent_at start r) ≡ r
pair_there W P R r start is at ok =
    let len : length r.0 + length r.1 - length r.0 ≡ length r.1 = omega arith in
    let key : unpacked (length r.0) (key_part W (extent_at start r)) ≡ r.0 = ap (unpacked (length r.0)) (key_there W P R r start is at) ∙ unpacked-packed r.0 ok.key.each in
    let payload : unpacked (payload_len (extent_at start r)) (payload_part W (extent_at start r)) ≡ r.1 =
    ap (λ n. unpacked n (payload_part W (extent_at start r))) len ∙ ap (unpacked (length r.1)) (payload_there W P R r start is at) ∙ unpacked-packed r.1 ok.payload.each in
    λ i. (key i, payload i)

pub has_there : (W P R : List ℕ) (r : List ℕ × List ℕ) (start : ℕ) → length W ≡ NODE_WORDS → W ≡ P ++ ((packed r.0 ++ packed r.1) ++ R) → length P ≡ start → IsPair r → HasPair W (extent_at start r)
has_there W P R r start whole is at ok =
    let len : length r.0 + length r.1 - length r.0 ≡ length r.1 = omega arith in
    let all : length W ≡ length P + (length (packed r.0) + length (packed r.1) + length R) =
    rw is (omega (arith, length-append P ((packed r.0 ++ packed r.1) ++ R), length-append (packed r.0 ++ packed r.1) R, length-append (packed r.0) (packed r.1))) in
    let key = (unpacked_key-exact (length r.0) (packed r.0) r.0).1 (ok.key, refl, refl) in
    let payload = (unpacked_payload-exact (length r.1) (packed r.1) r.1).1 (ok.payload, refl, refl) in
    record {
      inside = omega (arith, all, length-packed r.0, length-packed r.1);
      key = rw (key_there W P R r start is at, key) refl;
      payload = rw (payload_there W P R r start is at, len, payload) refl;
    }
