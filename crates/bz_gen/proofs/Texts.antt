-- The bytes that a key and a payload are made of.
use Rattle.std.proofs.Common.{◌≡◌, ◌≤◌, ℕ, ◌+◌, ◌-◌, List, [], ◌∷◌, length, get_or, take, drop, set, refl, ap, ◌∙◌, add-one, arith, Result, Ok}
use Rattle.std.specs.Fmt.{decimal}
use Rattle.std.proofs.lemmas.List.{take_all, drop-set, length-drop, length-take}
use Rattle.std.proofs.Math.ListN.{length-set}
use Rattle.bz_key.specs.declared.limits.TheConstants.{PAYLOAD_BYTES}
use Rattle.bz_gen.specs.Names.{five_digits, key_named, payload_named}

-- a byte, and then five digits
abbrev pub after_byte : ℕ → List ℕ → List ℕ
after_byte byte digits = byte ∷ get_or digits 0 0 ∷ get_or digits 1 0 ∷ get_or digits 2 0 ∷ get_or digits 3 0 ∷ get_or digits 4 0 ∷ []

byte_first : (byte n : ℕ) (digits : List ℕ) → digits ≡ five_digits n → after_byte byte digits ≡ byte ∷ five_digits n
byte_first byte n digits e = ap (after_byte byte) e

pub key_text : {E : Type 0} (made : Result (List ℕ) E) (key digits : List ℕ) (n : ℕ) → made ≡ Ok key → made ≡ Ok (after_byte 107 digits) → digits ≡ five_digits n → key ≡ key_named n
unfolding key_named
key_text made key digits n is made_of e = let text = byte_first 107 n digits e in cc

-- the first byte put over the last of the leading zeros, and what is before it left out
abbrev pub from_zeros : List ℕ → ℕ → List ℕ
from_zeros digits skipped = take (6 - skipped) (drop skipped (set (after_byte 118 digits) skipped 118))

drop_later : (n skipped : ℕ) → drop (skipped + 1) (118 ∷ five_digits n) ≡ drop skipped (five_digits n)
drop_later n skipped = rw (add-one skipped) refl

from_zeros-decimal : (n skipped : ℕ) (digits : List ℕ) → digits ≡ five_digits n → skipped ≤ 4 → drop skipped (five_digits n) ≡ decimal n → from_zeros digits skipped ≡ 118 ∷ decimal n
from_zeros-decimal n skipped digits e some rest =
    let whole = set (after_byte 118 digits) skipped 118 in
    let all : take (6 - skipped) (drop skipped whole) ≡ drop skipped whole =
    take_all (6 - skipped) (drop skipped whole) (omega (arith, length-drop skipped whole, length-set (after_byte 118 digits) skipped 118)) in
    let put : drop skipped whole ≡ 118 ∷ drop (skipped + 1) (after_byte 118 digits) = drop-set (after_byte 118 digits) skipped 118 (omega arith) in
    let text = ap (drop (skipped + 1)) (byte_first 118 n digits e) ∙ drop_later n skipped ∙ rest in
    all ∙ put ∙ ap (λ digits. 118 ∷ digits) text

fits : (digits : List ℕ) (skipped : ℕ) → length (from_zeros digits skipped) ≤ PAYLOAD_BYTES
fits digits skipped =
    simp (length-take, length-drop, length-set) (omega arith)

pub payload_text : {E : Type 0} (made : Result (List ℕ) E) (payload digits : List ℕ) (n skipped : ℕ) → made ≡ Ok payload
    → (length (from_zeros digits skipped) ≤ PAYLOAD_BYTES → made ≡ Ok (from_zeros digits skipped))
    → digits ≡ five_digits n → skipped ≤ 4 → drop skipped (five_digits n) ≡ decimal n → payload ≡ payload_named n
unfolding payload_named
payload_text made payload digits n skipped is made_of e some rest =
    let text = from_zeros-decimal n skipped digits e some rest in
    let of_bytes = made_of (fits digits skipped) in
    cc
