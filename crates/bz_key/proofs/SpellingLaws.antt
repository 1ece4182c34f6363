-- What follows from the definition of spelling: it and its reader are inverse to each other.
use Rattle.std.specs.Prelude.{◌≡◌, ◌≢◌, ◌≤◌, ◌<◌, ℕ, ◌+◌, ◌*◌, ◌/◌, ◌%◌, List, [], ◌∷◌, ◌++◌, length, All}
use Rattle.std.proofs.Common.{arith, sym, ◌∙◌, ap, refl, inl, inr, zero, suc}
use Rattle.std.proofs.lemmas.Bool.{cases_Bool}
use Rattle.std.proofs.lemmas.Bool.Decides.{nat_tests}
use Rattle.std.proofs.lemmas.List.{length-append}
use Rattle.std.proofs.lemmas.List.Elements.{All-nil, All-cons, All-append}
use Rattle.bz_key.specs.Bytes.{AreBytes}
use Rattle.bz_key.specs.Spelling.{is_plain, IsSpellingByte, hex_digit, hex_value, spelled_byte, spelled_bytes, spelled, decoded}

-- a byte that stands for itself is read as it is
pub decoded-plain : (c : ℕ) (word : List ℕ) → c ≢ 37 → decoded (c ∷ word) ≡ c ∷ decoded word
unfolding decoded
decoded-plain c [] h = grind (arith, nat_tests)
decoded-plain c (x ∷ []) h = grind (arith, nat_tests)
decoded-plain c (x ∷ y ∷ word) h = grind (arith, nat_tests)

-- an escape is read as its byte
pub decoded-escape : (high low : ℕ) (word : List ℕ) → decoded (37 ∷ high ∷ low ∷ word) ≡ (hex_value high * 16 + hex_value low) % 256 ∷ decoded word
unfolding decoded
decoded-escape high low word = refl

-- the digits of a byte give it back
digits_again : (b : ℕ) → b < 256 → (hex_value (hex_digit (b / 16)) * 16 + hex_value (hex_digit (b % 16))) % 256 ≡ b
digits_again b small = grind (arith, nat_tests)

decoded-spelled_byte : (b : ℕ) (word : List ℕ) → b < 256 → decoded (spelled_byte b ++ word) ≡ b ∷ decoded word
unfolding spelled_byte
decoded-spelled_byte b word small =
    elim (cases_Bool (is_plain b)) [
      | inl is_so ↦ rw is_so (decoded-plain b word (grind (arith, nat_tests)))
      | inr is_not ↦ rw (is_not, decoded-escape (hex_digit (b / 16)) (hex_digit (b % 16)) word, digits_again b small) refl
    ]

pub AreBytes-head : (b : ℕ) (bytes : List ℕ) → AreBytes (b ∷ bytes) → b < 256
AreBytes-head b bytes each = each 0 0 (omega arith)

pub AreBytes-tail : (b : ℕ) (bytes : List ℕ) → AreBytes (b ∷ bytes) → AreBytes bytes
AreBytes-tail b bytes each k d within = each (suc k) d (omega arith)

pub AreBytes-cons : (b : ℕ) (bytes : List ℕ) → b < 256 → AreBytes bytes → AreBytes (b ∷ bytes)
AreBytes-cons b bytes small each zero d within = small
AreBytes-cons b bytes small each (suc k) d within = each k d (omega arith)

pub AreBytes-nil : AreBytes []
AreBytes-nil k d within = absurd (omega arith)

decoded-spelled_bytes : (bytes : List ℕ) → AreBytes bytes → decoded (spelled_bytes bytes) ≡ bytes
unfolding spelled_bytes decoded
decoded-spelled_bytes [] each = refl
decoded-spelled_bytes (b ∷ bytes) each =
    decoded-spelled_byte b (spelled_bytes bytes) (AreBytes-head b bytes each) ∙ ap (λ xs. b ∷ xs) (decoded-spelled_bytes bytes (AreBytes-tail b bytes each))

-- what was spelled is read back
pub decoded-spelled : (bytes : List ℕ) → AreBytes bytes → decoded (spelled bytes) ≡ bytes
unfolding spelled decoded
decoded-spelled [] each = refl
decoded-spelled (b ∷ bytes) each = decoded-spelled_bytes (b ∷ bytes) each

-- different bytes have different spellings
pub spelled-injective : (a b : List ℕ) → AreBytes a → AreBytes b → spelled a ≡ spelled b → a ≡ b
spelled-injective a b each_a each_b same = sym (decoded-spelled a each_a) ∙ rw same (decoded-spelled b each_b)

-- a byte is spelled by one to three
pub length-spelled_byte : (b : ℕ) → (0 < length (spelled_byte b)) × (length (spelled_byte b) ≤ 3)
unfolding spelled_byte
length-spelled_byte b =
    elim (cases_Bool (is_plain b)) [ inl is_so ↦ rw is_so (omega arith, omega arith) | inr is_not ↦ rw is_not (omega arith, omega arith) ]

pub length-spelled_bytes : (bytes : List ℕ) → (length bytes ≤ length (spelled_bytes bytes)) × (length (spelled_bytes bytes) ≤ 3 * length bytes)
unfolding spelled_bytes
length-spelled_bytes [] = (omega arith, omega arith)
length-spelled_bytes (b ∷ bytes) =
    let first = length-spelled_byte b in
    let rest = length-spelled_bytes bytes in
    let all = length-append (spelled_byte b) (spelled_bytes bytes) in
    (omega (arith, first, rest, all), omega (arith, first, rest, all))

-- a spelling has one byte at least, and three for a byte at most
pub length-spelled : (bytes : List ℕ) (most : ℕ) → length bytes ≤ most → 0 < most → (0 < length (spelled bytes)) × (length (spelled bytes) ≤ 3 * most)
unfolding spelled
length-spelled [] most fits some = (omega arith, omega arith)
length-spelled (b ∷ bytes) most fits some =
    let all = length-spelled_bytes (b ∷ bytes) in
    (omega (arith, all), omega (arith, all))

digit-plain : (n : ℕ) → n < 16 → IsSpellingByte (hex_digit n)
digit-plain n small = grind (arith, nat_tests)

spelled_byte-plain : (b : ℕ) → b < 256 → All IsSpellingByte (spelled_byte b)
unfolding spelled_byte
spelled_byte-plain b small =
    elim (cases_Bool (is_plain b)) [
      | inl is_so ↦ rw is_so (All-cons IsSpellingByte b [] (grind (arith, nat_tests, is_so)) (All-nil IsSpellingByte))
      | inr is_not ↦ rw is_not
          (All-cons IsSpellingByte 37 (hex_digit (b / 16) ∷ hex_digit (b % 16) ∷ []) refl
          (All-cons IsSpellingByte (hex_digit (b / 16)) (hex_digit (b % 16) ∷ []) (digit-plain (b / 16) (omega arith))
          (All-cons IsSpellingByte (hex_digit (b % 16)) [] (digit-plain (b % 16) (omega arith)) (All-nil IsSpellingByte))))
    ]

spelled_bytes-plain : (bytes : List ℕ) → AreBytes bytes → All IsSpellingByte (spelled_bytes bytes)
unfolding spelled_bytes
spelled_bytes-plain [] each = All-nil IsSpellingByte
spelled_bytes-plain (b ∷ bytes) each =
    All-append IsSpellingByte (spelled_byte b) (spelled_bytes bytes) (spelled_byte-plain b (AreBytes-head b bytes each))
    (spelled_bytes-plain bytes (AreBytes-tail b bytes each))

-- a spelling has no other bytes than those that stand for themselves and percent signs
pub spelled-plain : (bytes : List ℕ) → AreBytes bytes → All IsSpellingByte (spelled bytes)
unfolding spelled
spelled-plain [] each = All-cons IsSpellingByte 37 [] refl (All-nil IsSpellingByte)
spelled-plain (b ∷ bytes) each = spelled_bytes-plain (b ∷ bytes) each
