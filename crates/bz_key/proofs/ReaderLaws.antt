-- The readers of words answer exactly for spellings of keys and payloads.
use Rattle.std.specs.Prelude.{◌≡◌, ◌↔◌, ◌≢◌, ◌≤◌, ◌<◌, ℕ, ◌+◌, ◌*◌, ◌%◌, List, [], ◌∷◌, ◌++◌, length, Some}
use Rattle.std.proofs.Common.{arith, sym, refl, inl, inr}
use Rattle.std.proofs.lemmas.Bool.{cases_eq, cases_Bool}
use Rattle.std.proofs.lemmas.Bool.Decides.{nat_tests}
use Rattle.std.proofs.lemmas.Slice.Eq.{bytes_eq-Decides}
use Rattle.bz_key.specs.Bytes.{AreBytes, IsKey, IsPayload}
use Rattle.bz_key.specs.Spelling.{is_plain, hex_value, spelled_byte, spelled_bytes, spelled, decoded, key_of_word, payload_of_word}
use Rattle.bz_key.proofs.SpellingLaws.{decoded-plain, decoded-spelled, AreBytes-cons, AreBytes-nil}
use Rattle.bz_key.specs.declared.limits.TheConstants.{KEY_BYTES, PAYLOAD_BYTES}

-- a spelling that begins with no percent sign begins with a byte that stands for itself
plain_front : (c : ℕ) (rest word : List ℕ) → c ≢ 37 → spelled_byte c ++ rest ≡ c ∷ word → (c < 256) × (rest ≡ word)
unfolding spelled_byte
plain_front c rest word other e =
    elim (cases_Bool (is_plain c)) [
      | inl is_so ↦ (let f = rw is_so at e in (grind (arith, nat_tests, is_so), cc))
      | inr is_not ↦ (let f = rw is_not at e in absurd (other cc))
    ]

-- a spelling that begins with a percent sign begins with an escape
escape_front : (b high low : ℕ) (rest word : List ℕ) → spelled_byte b ++ rest ≡ 37 ∷ high ∷ low ∷ word → rest ≡ word
unfolding spelled_byte
escape_front b high low rest word e =
    elim (cases_Bool (is_plain b)) [
      | inl is_so ↦ (let f = rw is_so at e in let g : b ≡ 37 = cc in absurd (grind (arith, nat_tests, is_so, g)))
      | inr is_not ↦ (let f = rw is_not at e in cc)
    ]

-- a word that is the spelling of what it is read as is read as bytes
reads_bytes : (word : List ℕ) → spelled_bytes (decoded word) ≡ word → AreBytes (decoded word)
unfolding spelled_bytes decoded
reads_bytes [] e = AreBytes-nil
reads_bytes (c ∷ []) e =
    elim (cases_eq c 37) [
      | inl same ↦ rw same AreBytes-nil
      | inr other ↦ (let f = rw (decoded-plain c [] other) at e in rw (decoded-plain c [] other) (AreBytes-cons c [] (plain_front c [] [] other f).0 AreBytes-nil))
    ]
reads_bytes (c ∷ x ∷ []) e =
    elim (cases_eq c 37) [
      | inl same ↦ rw same AreBytes-nil
      | inr other ↦ (
          let f = rw (decoded-plain c (x ∷ []) other) at e in
          let g = plain_front c (spelled_bytes (decoded (x ∷ []))) (x ∷ []) other f in
          rw (decoded-plain c (x ∷ []) other) (AreBytes-cons c (decoded (x ∷ [])) g.0 (reads_bytes (x ∷ []) g.1)))
    ]
reads_bytes (c ∷ x ∷ y ∷ word) e =
    elim (cases_eq c 37) [
      | inl same ↦ (
          let f = rw same at e in
          rw same (AreBytes-cons ((hex_value x * 16 + hex_value y) % 256) (decoded word) (omega arith)
          (reads_bytes word (escape_front ((hex_value x * 16 + hex_value y) % 256) x y (spelled_bytes (decoded word)) word f))))
      | inr other ↦ (
          let f = rw (decoded-plain c (x ∷ y ∷ word) other) at e in
          let g = plain_front c (spelled_bytes (decoded (x ∷ y ∷ word))) (x ∷ y ∷ word) other f in
          rw (decoded-plain c (x ∷ y ∷ word) other) (AreBytes-cons c (decoded (x ∷ y ∷ word)) g.0 (reads_bytes (x ∷ y ∷ word) g.1)))
    ]

bytes_of_spelling : (bytes word : List ℕ) → decoded word ≡ bytes → spelled bytes ≡ word → AreBytes bytes
unfolding spelled
bytes_of_spelling [] word is e = AreBytes-nil
bytes_of_spelling (b ∷ bytes) word is e = rw is at (reads_bytes word (rw is e))

-- a word that is read as a key is its spelling
pub key_of_word-sound : (word bytes : List ℕ) → key_of_word word ≡ Some bytes → IsKey bytes × (word ≡ spelled bytes)
unfolding key_of_word
key_of_word-sound word bytes e =
    let d = bytes_eq-Decides (spelled (decoded word)) word in
    let t : (1 ≤ length (decoded word)) × (length (decoded word) ≤ KEY_BYTES) × (spelled (decoded word) ≡ word) × (decoded word ≡ bytes) = grind (arith, nat_tests, d.0) in
    let is : spelled bytes ≡ word = rw t.3 at t.2 in
    (record { some = rw (← t.3) (omega (arith, t.0)); fits = rw (← t.3) t.1; each = bytes_of_spelling bytes word t.3 is }, sym is)

-- the spelling of a key is read as that key
pub key_of_word-spelled : (bytes : List ℕ) → IsKey bytes → key_of_word (spelled bytes) ≡ Some bytes
unfolding key_of_word
key_of_word-spelled bytes key =
    rw (decoded-spelled bytes key.each) (grind (arith, nat_tests, (bytes_eq-Decides (spelled bytes) (spelled bytes)).1 refl, key.some, key.fits))

pub payload_of_word-sound : (word bytes : List ℕ) → payload_of_word word ≡ Some bytes → IsPayload bytes × (word ≡ spelled bytes)
unfolding payload_of_word
payload_of_word-sound word bytes e =
    let d = bytes_eq-Decides (spelled (decoded word)) word in
    let t : (length (decoded word) ≤ PAYLOAD_BYTES) × (spelled (decoded word) ≡ word) × (decoded word ≡ bytes) = grind (arith, nat_tests, d.0) in
    let is : spelled bytes ≡ word = rw t.2 at t.1 in
    (record { fits = rw (← t.2) t.0; each = bytes_of_spelling bytes word t.2 is }, sym is)

pub payload_of_word-spelled : (bytes : List ℕ) → IsPayload bytes → payload_of_word (spelled bytes) ≡ Some bytes
unfolding payload_of_word
payload_of_word-spelled bytes payload =
    rw (decoded-spelled bytes payload.each) (grind (arith, nat_tests, (bytes_eq-Decides (spelled bytes) (spelled bytes)).1 refl, payload.fits))

-- a word is read as a key exactly where it is its spelling
pub key_of_word-exact : (word bytes : List ℕ) → (key_of_word word ≡ Some bytes) ↔ (IsKey bytes × (word ≡ spelled bytes))
key_of_word-exact word bytes = (key_of_word-sound word bytes, λ is. rw is.1 (key_of_word-spelled bytes is.0))

pub payload_of_word-exact : (word bytes : List ℕ) → (payload_of_word word ≡ Some bytes) ↔ (IsPayload bytes × (word ≡ spelled bytes))
payload_of_word-exact word bytes = (payload_of_word-sound word bytes, λ is. rw is.1 (payload_of_word-spelled bytes is.0))
