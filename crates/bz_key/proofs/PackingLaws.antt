-- What follows from the definition of packing, for the crates above.
use Rattle.std.specs.Prelude.{◌≡◌, ◌<◌, ℕ, ◌+◌, ◌-◌, ◌*◌, ◌/◌, ◌%◌, ◌^◌, List, length, get_or, All}
use Rattle.std.proofs.Common.{arith, sym, ◌∙◌, refl, inl, inr, add-zero, zero, suc}
use Rattle.std.proofs.lemmas.Bool.{cases_lt}
use Rattle.std.proofs.lemmas.List.{ext_get_or, get_or_default, get_or_past}
use Rattle.std.proofs.lemmas.List.FromFn.{length-map-range_with_len, get_or-map-range_with_len}
use Rattle.bz_key.specs.Bytes.{AreBytes}
use Rattle.bz_key.specs.Packing.{packed_len, packed_word, packed, packed_byte, unpacked}

-- the number of words
pub length-packed : (bytes : List ℕ) → length (packed bytes) ≡ packed_len (length bytes)
unfolding packed
length-packed bytes = length-map-range_with_len (λ i. packed_word bytes (7 * i)) 0 (packed_len (length bytes))

-- one of the words
pub get_or-packed : (bytes : List ℕ) (i : ℕ) → i < packed_len (length bytes) → get_or (packed bytes) i 0 ≡ packed_word bytes (7 * i)
unfolding packed
get_or-packed bytes i within = get_or-map-range_with_len (λ n. packed_word bytes (7 * n)) 0 (packed_len (length bytes)) i i 0 within (omega arith)

-- a place within or past the end holds a byte, where 0 stands past the end
pub get_or-byte : (bytes : List ℕ) → AreBytes bytes → (i : ℕ) → get_or bytes i 0 < 256
get_or-byte bytes each i = elim (cases_lt i (length bytes)) [ inl within ↦ each i 0 within | inr past ↦ rw (get_or_past bytes i 0 past) (omega arith) ]

-- a word of a packing has no bit of 56 to 63
pub packed_word-small : (bytes : List ℕ) → AreBytes bytes → (place : ℕ) → packed_word bytes place < 2 ^ 56
unfolding packed_word
packed_word-small bytes each place =
    let b = get_or-byte bytes each in
    omega (arith, b place, b (place + 1), b (place + 2), b (place + 3), b (place + 4), b (place + 5), b (place + 6))

pub packed-small : (bytes : List ℕ) → AreBytes bytes → All (λ w. w < 2 ^ 56) (packed bytes)
packed-small bytes each i d within =
    let counted = length-packed bytes in
    rw (get_or_default (packed bytes) i d 0 within, get_or-packed bytes i (omega arith)) (packed_word-small bytes each (7 * i))

-- each of seven bytes can be read back from their word
digit_0 : (a b c d e f g : ℕ) → a < 256 → b < 256 → c < 256 → d < 256 → e < 256 → f < 256 → g < 256 → (a * 2 ^ 48 + b * 2 ^ 40 + c * 2 ^ 32 + d * 2 ^ 24 + e * 2 ^ 16 + f * 2 ^ 8 + g) / 2 ^ 48 % 256 ≡ a
digit_0 a b c d e f g la lb lc ld le lf lg = omega arith

digit_1 : (a b c d e f g : ℕ) → a < 256 → b < 256 → c < 256 → d < 256 → e < 256 → f < 256 → g < 256 → (a * 2 ^ 48 + b * 2 ^ 40 + c * 2 ^ 32 + d * 2 ^ 24 + e * 2 ^ 16 + f * 2 ^ 8 + g) / 2 ^ 40 % 256 ≡ b
digit_1 a b c d e f g la lb lc ld le lf lg = omega arith

digit_2 : (a b c d e f g : ℕ) → a < 256 → b < 256 → c < 256 → d < 256 → e < 256 → f < 256 → g < 256 → (a * 2 ^ 48 + b * 2 ^ 40 + c * 2 ^ 32 + d * 2 ^ 24 + e * 2 ^ 16 + f * 2 ^ 8 + g) / 2 ^ 32 % 256 ≡ c
digit_2 a b c d e f g la lb lc ld le lf lg = omega arith

digit_3 : (a b c d e f g : ℕ) → a < 256 → b < 256 → c < 256 → d < 256 → e < 256 → f < 256 → g < 256 → (a * 2 ^ 48 + b * 2 ^ 40 + c * 2 ^ 32 + d * 2 ^ 24 + e * 2 ^ 16 + f * 2 ^ 8 + g) / 2 ^ 24 % 256 ≡ d
digit_3 a b c d e f g la lb lc ld le lf lg = omega arith

digit_4 : (a b c d e f g : ℕ) → a < 256 → b < 256 → c < 256 → d < 256 → e < 256 → f < 256 → g < 256 → (a * 2 ^ 48 + b * 2 ^ 40 + c * 2 ^ 32 + d * 2 ^ 24 + e * 2 ^ 16 + f * 2 ^ 8 + g) / 2 ^ 16 % 256 ≡ e
digit_4 a b c d e f g la lb lc ld le lf lg = omega arith

digit_5 : (a b c d e f g : ℕ) → a < 256 → b < 256 → c < 256 → d < 256 → e < 256 → f < 256 → g < 256 → (a * 2 ^ 48 + b * 2 ^ 40 + c * 2 ^ 32 + d * 2 ^ 24 + e * 2 ^ 16 + f * 2 ^ 8 + g) / 2 ^ 8 % 256 ≡ f
digit_5 a b c d e f g la lb lc ld le lf lg = omega arith

digit_6 : (a b c d e f g : ℕ) → a < 256 → b < 256 → c < 256 → d < 256 → e < 256 → f < 256 → g < 256 → (a * 2 ^ 48 + b * 2 ^ 40 + c * 2 ^ 32 + d * 2 ^ 24 + e * 2 ^ 16 + f * 2 ^ 8 + g) / 2 ^ 0 % 256 ≡ g
digit_6 a b c d e f g la lb lc ld le lf lg = omega arith

digit : (bytes : List ℕ) → AreBytes bytes → (place r : ℕ) → r < 7 → packed_word bytes place / 2 ^ (8 * (6 - r)) % 256 ≡ get_or bytes (place + r) 0
unfolding packed_word
digit bytes each place zero h =
    rw (add-zero place) (digit_0 (get_or bytes place 0) (get_or bytes (place + 1) 0) (get_or bytes (place + 2) 0) (get_or bytes (place + 3) 0) (get_or bytes (place + 4) 0) (get_or bytes (place + 5) 0) (get_or bytes (place + 6) 0) (get_or-byte bytes each place) (get_or-byte bytes each (place + 1)) (get_or-byte bytes each (place + 2)) (get_or-byte bytes each (place + 3)) (get_or-byte bytes each (place + 4)) (get_or-byte bytes each (place + 5)) (get_or-byte bytes each (place + 6)))
digit bytes each place (suc zero) h =
    digit_1 (get_or bytes place 0) (get_or bytes (place + 1) 0) (get_or bytes (place + 2) 0) (get_or bytes (place + 3) 0) (get_or bytes (place + 4) 0) (get_or bytes (place + 5) 0) (get_or bytes (place + 6) 0) (get_or-byte bytes each place) (get_or-byte bytes each (place + 1)) (get_or-byte bytes each (place + 2)) (get_or-byte bytes each (place + 3)) (get_or-byte bytes each (place + 4)) (get_or-byte bytes each (place + 5)) (get_or-byte bytes each (place + 6))
digit bytes each place (suc (suc zero)) h =
    digit_2 (get_or bytes place 0) (get_or bytes (place + 1) 0) (get_or bytes (place + 2) 0) (get_or bytes (place + 3) 0) (get_or bytes (place + 4) 0) (get_or bytes (place + 5) 0) (get_or bytes (place + 6) 0) (get_or-byte bytes each place) (get_or-byte bytes each (place + 1)) (get_or-byte bytes each (place + 2)) (get_or-byte bytes each (place + 3)) (get_or-byte bytes each (place + 4)) (get_or-byte bytes each (place + 5)) (get_or-byte bytes each (place + 6))
digit bytes each place (suc (suc (suc zero))) h =
    digit_3 (get_or bytes place 0) (get_or bytes (place + 1) 0) (get_or bytes (place + 2) 0) (get_or bytes (place + 3) 0) (get_or bytes (place + 4) 0) (get_or bytes (place + 5) 0) (get_or bytes (place + 6) 0) (get_or-byte bytes each place) (get_or-byte bytes each (place + 1)) (get_or-byte bytes each (place + 2)) (get_or-byte bytes each (place + 3)) (get_or-byte bytes each (place + 4)) (get_or-byte bytes each (place + 5)) (get_or-byte bytes each (place + 6))
digit bytes each place (suc (suc (suc (suc zero)))) h =
    digit_4 (get_or bytes place 0) (get_or bytes (place + 1) 0) (get_or bytes (place + 2) 0) (get_or bytes (place + 3) 0) (get_or bytes (place + 4) 0) (get_or bytes (place + 5) 0) (get_or bytes (place + 6) 0) (get_or-byte bytes each place) (get_or-byte bytes each (place + 1)) (get_or-byte bytes each (place + 2)) (get_or-byte bytes each (place + 3)) (get_or-byte bytes each (place + 4)) (get_or-byte bytes each (place + 5)) (get_or-byte bytes each (place + 6))
digit bytes each place (suc (suc (suc (suc (suc zero))))) h =
    digit_5 (get_or bytes place 0) (get_or bytes (place + 1) 0) (get_or bytes (place + 2) 0) (get_or bytes (place + 3) 0) (get_or bytes (place + 4) 0) (get_or bytes (place + 5) 0) (get_or bytes (place + 6) 0) (get_or-byte bytes each place) (get_or-byte bytes each (place + 1)) (get_or-byte bytes each (place + 2)) (get_or-byte bytes each (place + 3)) (get_or-byte bytes each (place + 4)) (get_or-byte bytes each (place + 5)) (get_or-byte bytes each (place + 6))
digit bytes each place (suc (suc (suc (suc (suc (suc zero)))))) h =
    digit_6 (get_or bytes place 0) (get_or bytes (place + 1) 0) (get_or bytes (place + 2) 0) (get_or bytes (place + 3) 0) (get_or bytes (place + 4) 0) (get_or bytes (place + 5) 0) (get_or bytes (place + 6) 0) (get_or-byte bytes each place) (get_or-byte bytes each (place + 1)) (get_or-byte bytes each (place + 2)) (get_or-byte bytes each (place + 3)) (get_or-byte bytes each (place + 4)) (get_or-byte bytes each (place + 5)) (get_or-byte bytes each (place + 6))
digit bytes each place (suc (suc (suc (suc (suc (suc (suc r))))))) h = absurd (omega arith)

-- each byte that was packed can be read back
packed_byte-packed : (bytes : List ℕ) → AreBytes bytes → (place : ℕ) → place < length bytes → packed_byte (packed bytes) place ≡ get_or bytes place 0
unfolding packed_byte
packed_byte-packed bytes each place within =
    let whole : 7 * (place / 7) + place % 7 ≡ place = omega arith in
    rw (get_or-packed bytes (place / 7) (omega arith), digit bytes each (7 * (place / 7)) (place % 7) (omega arith), whole) refl

-- so many bytes
pub length-unpacked : (len : ℕ) (words : List ℕ) → length (unpacked len words) ≡ len
unfolding unpacked
length-unpacked len words = length-map-range_with_len (packed_byte words) 0 len

pub get_or-unpacked : (len : ℕ) (words : List ℕ) (i d : ℕ) → i < len → get_or (unpacked len words) i d ≡ packed_byte words i
unfolding unpacked
get_or-unpacked len words i d within = get_or-map-range_with_len (packed_byte words) 0 len i i d within (omega arith)

-- what is read from words is bytes
pub unpacked-bytes : (len : ℕ) (words : List ℕ) → AreBytes (unpacked len words)
unfolding packed_byte
unpacked-bytes len words i d within = rw (get_or-unpacked len words i d (omega (arith, length-unpacked len words))) (omega arith)

-- what was packed is read back
pub unpacked-packed : (bytes : List ℕ) → AreBytes bytes → unpacked (length bytes) (packed bytes) ≡ bytes
unpacked-packed bytes each =
    ext_get_or 0 _ _ (length-unpacked (length bytes) (packed bytes)) (λ i within.
    let inside : i < length bytes = omega (arith, length-unpacked (length bytes) (packed bytes)) in
    get_or-unpacked (length bytes) (packed bytes) i 0 inside ∙ packed_byte-packed bytes each i inside)

-- bytes of one length have different words
pub packed-injective : (a b : List ℕ) → AreBytes a → AreBytes b → length a ≡ length b → packed a ≡ packed b → a ≡ b
packed-injective a b each_a each_b same words =
    sym (unpacked-packed a each_a) ∙ rw (same, words) (unpacked-packed b each_b)
