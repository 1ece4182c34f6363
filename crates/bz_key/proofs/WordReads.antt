-- What a word is read as, by the tests that the reader makes.
use Rattle.std.specs.Prelude.{◌≡◌, ◌≤◌, ◌<◌, ℕ, List, length, take, bytes_eq, true, false, Some, None}
use Rattle.std.proofs.Common.{arith, sym, ◌∙◌, ap, inl, inr}
use Rattle.std.proofs.lemmas.Bool.{cases_lt}
use Rattle.std.proofs.lemmas.Bool.Decides.{nat_tests}
use Rattle.std.proofs.lemmas.List.{length-take-le}
use Rattle.std.proofs.lemmas.Slice.Eq.{bytes_eq-Decides}
use Rattle.bz_key.specs.Spelling.{spelled, decoded, key_of_word, payload_of_word}
use Rattle.bz_key.proofs.SpellingLaws.{length-spelled}
use Rattle.bz_key.specs.declared.limits.TheConstants.{PAYLOAD_BYTES, LONGEST, SPELLED_BYTES}

pub long_word : (word : List ℕ) → SPELLED_BYTES < length word → None ≡ payload_of_word word
unfolding payload_of_word
long_word word long =
    elim (cases_lt PAYLOAD_BYTES (length (decoded word))) [
      | inl many ↦ grind (arith, nat_tests, many)
      | inr few ↦ (
          let all = length-spelled (decoded word) PAYLOAD_BYTES few (omega arith) in
          let is = (bytes_eq-Decides (spelled (decoded word)) word).0 in
          let other : bytes_eq (spelled (decoded word)) word ≡ false = grind (arith, nat_tests, is, all, long) in
          grind (arith, nat_tests, other))
    ]

pub many_bytes : (word out : List ℕ) (count : ℕ) → count ≤ length out → take count out ≡ decoded word → LONGEST < count → None ≡ payload_of_word word
unfolding payload_of_word
many_bytes word out count fits is many =
    let counted : length (decoded word) ≡ count = ap length (sym is) ∙ length-take-le count out fits in
    grind (arith, nat_tests, counted, many)

pub payload_read : (word bytes : List ℕ) → bytes ≡ decoded word → length bytes ≤ LONGEST → true ≡ bytes_eq (spelled bytes) word → Some bytes ≡ payload_of_word word
unfolding payload_of_word
payload_read word bytes is fits same =
    let same_word : bytes_eq (spelled (decoded word)) word ≡ true = sym (rw is at same) in
    let fitting : length (decoded word) ≤ LONGEST = rw is at fits in
    rw is (grind (arith, nat_tests, same_word, fitting))

pub payload_refused : (word bytes : List ℕ) → bytes ≡ decoded word → false ≡ bytes_eq (spelled bytes) word → None ≡ payload_of_word word
unfolding payload_of_word
payload_refused word bytes is other =
    let other_word : bytes_eq (spelled (decoded word)) word ≡ false = sym (rw is at other) in
    grind (arith, nat_tests, other_word)

pub key_refused : (word : List ℕ) → None ≡ payload_of_word word → None ≡ key_of_word word
unfolding payload_of_word key_of_word
key_refused word none = grind (arith, nat_tests, none)

pub key_read : (word bytes : List ℕ) → Some bytes ≡ payload_of_word word → 0 < length bytes → Some bytes ≡ key_of_word word
unfolding payload_of_word key_of_word
key_read word bytes is some = grind (arith, nat_tests, is, some)

pub key_empty : (word bytes : List ℕ) → Some bytes ≡ payload_of_word word → length bytes ≡ 0 → None ≡ key_of_word word
unfolding payload_of_word key_of_word
key_empty word bytes is none = grind (arith, nat_tests, is, none)
