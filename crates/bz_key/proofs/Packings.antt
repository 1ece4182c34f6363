-- Words compared with a packing one by one, and bytes read from words one by one.
use Rattle.std.specs.Prelude.{◌≡◌, ◌≢◌, ◌≤◌, ◌<◌, ℕ, ◌+◌, ◌*◌, ◌/◌, ◌%◌, ◌-◌, ◌^◌, List, length, set, get_or, take, bytes_eq, true, false, Some, None}
use Rattle.std.proofs.Common.{arith, sym, ◌∙◌, ap, inl, inr}
use Rattle.std.proofs.lemmas.Bool.{cases_eq}
use Rattle.std.proofs.lemmas.Bool.Decides.{nat_tests}
use Rattle.std.proofs.lemmas.List.{ext_get_or, get_or-take, length-take-le, get_or-set_same, get_or-set_other}
use Rattle.std.proofs.lemmas.List.FromFn.{fill_by_all}
use Rattle.std.proofs.lemmas.Slice.Eq.{bytes_eq-Decides}
use Rattle.bz_key.specs.Packing.{packed_len, packed_word, packed, packed_byte, unpacked, unpacked_payload}
use Rattle.bz_key.proofs.PackingLaws.{length-packed, get_or-packed, length-unpacked}
use Rattle.bz_key.proofs.UnpackingLaws.{unpacked_payload-sound}
use Rattle.bz_key.specs.Bytes.{IsKey, IsPayload}
use Rattle.bz_key.specs.declared.limits.TheConstants.{KEY_BYTES}

-- the words before an index are those of the packing
abbrev pub SameWords : List ℕ → List ℕ → ℕ → Type 0
SameWords bytes words i = (k : ℕ) → k < i → get_or words k 0 ≡ packed_word bytes (7 * k)

differs : (xs ys : List ℕ) → xs ≢ ys → false ≡ bytes_eq xs ys
differs xs ys h = grind (arith, nat_tests, (bytes_eq-Decides xs ys).0)

pub other_length : (bytes words : List ℕ) → length words ≢ packed_len (length bytes) → false ≡ bytes_eq (packed bytes) words
other_length bytes words h = differs (packed bytes) words (λ e. h (ap length (sym e) ∙ length-packed bytes))

pub other_word : (bytes words : List ℕ) (i : ℕ) → i < packed_len (length bytes) → get_or words i 0 ≢ packed_word bytes (7 * i) → false ≡ bytes_eq (packed bytes) words
other_word bytes words i within h =
    differs (packed bytes) words (λ e. h (ap (λ xs. get_or xs i 0) (sym e) ∙ get_or-packed bytes i within))

pub same_words : (bytes words : List ℕ) → length words ≡ packed_len (length bytes) → SameWords bytes words (length words) → true ≡ bytes_eq (packed bytes) words
same_words bytes words counted same =
    sym ((bytes_eq-Decides (packed bytes) words).1 (ext_get_or 0 (packed bytes) words (length-packed bytes ∙ sym counted) (λ i within.
    let inside : i < packed_len (length bytes) = omega (arith, length-packed bytes) in
    get_or-packed bytes i inside ∙ sym (same i (omega (arith, length-packed bytes))))))

-- the places before an index hold the bytes of the words
abbrev pub HoldsBytes : List ℕ → List ℕ → ℕ → Type 0
HoldsBytes words array place = (k : ℕ) → k < place → get_or array k 0 ≡ packed_byte words k

pub holds_more : (words array : List ℕ) (place value : ℕ) → place < length array → HoldsBytes words array place → value ≡ get_or words (place / 7) 0 / 2 ^ (8 * (6 - place % 7)) % 256 → HoldsBytes words (set array place value) (place + 1)
unfolding packed_byte
holds_more words array place value within holds is k h =
    elim (cases_eq k place) [
      | inl same ↦ rw (same, get_or-set_same array place value 0 within) is
      | inr other ↦ rw (get_or-set_other array place k value 0 other) (holds k (grind arith))
    ]

pub holds_all : (words array : List ℕ) (len : ℕ) → len ≤ length array → HoldsBytes words array len → take len array ≡ unpacked len words
unfolding unpacked
holds_all words array len fits holds =
    fill_by_all (packed_byte words) (take len array) len 0 (length-take-le len array fits) (λ k within. get_or-take len array k 0 within ∙ holds k within)

-- words of another number are no packing
pub other_count : (len : ℕ) (words : List ℕ) → length words ≢ packed_len len → None ≡ unpacked_payload len words
unfolding unpacked_payload
other_count len words h =
    let fails = other_length (unpacked len words) words (rw (length-unpacked len words) h) in
    grind (arith, nat_tests, fails)

-- what is read from words is the bytes of a key, or of a payload
pub reads_key : (len : ℕ) (words bytes : List ℕ) → 0 < len → len ≤ KEY_BYTES → Some bytes ≡ unpacked_payload len words → IsKey bytes
reads_key len words bytes some fits e =
    let read = unpacked_payload-sound len words bytes (sym e) in
    record { some = omega (arith, read.1); fits = omega (arith, read.1); each = read.0.each }

pub reads_payload : (len : ℕ) (words bytes : List ℕ) → Some bytes ≡ unpacked_payload len words → IsPayload bytes
reads_payload len words bytes e = (unpacked_payload-sound len words bytes (sym e)).0
