-- The one spelling of keys and payloads in scripts and reports.
use Rattle.std.specs.Prelude.{◌≡◌, true, ℕ, ◌+◌, ◌-◌, ◌*◌, ◌/◌, ◌%◌, Bool, ◌&&◌, ◌||◌, ◌==◌, nat_le, nat_lt, bytes_eq, if◌then◌else◌, List, [], ◌∷◌, ◌++◌, length, Option, Some, None}
use Rattle.bz_key.specs.declared.limits.TheConstants.{KEY_BYTES, PAYLOAD_BYTES}

-- letters, digits and . _ : / - stand for themselves
abbrev pub is_plain : ℕ → Bool
is_plain b =
    (nat_le 97 b && nat_le b 122) || (nat_le 65 b && nat_le b 90) || (nat_le 48 b && nat_le b 57)
    || (b == 46) || (b == 95) || (b == 58) || (b == 47) || (b == 45)

-- a byte that a spelling may have
abbrev pub IsSpellingByte : ℕ → Type 0
IsSpellingByte c = (is_plain c || (c == 37)) ≡ true

-- the hexadecimal digit of a number below 16, with capitals
abbrev pub hex_digit : ℕ → ℕ
hex_digit n = if nat_lt n 10 then n + 48 else n + 55

-- a percent sign and two digits stand for every other byte
unfoldable pub spelled_byte : ℕ → List ℕ
spelled_byte b = if is_plain b then b ∷ [] else 37 ∷ hex_digit (b / 16) ∷ hex_digit (b % 16) ∷ []

unfoldable pub spelled_bytes : List ℕ → List ℕ
spelled_bytes [] = []
spelled_bytes (b ∷ bytes) = spelled_byte b ++ spelled_bytes bytes

-- the one spelling; no bytes are spelled as one percent sign
unfoldable pub spelled : List ℕ → List ℕ
spelled [] = 37 ∷ []
spelled (b ∷ bytes) = spelled_bytes (b ∷ bytes)

-- the number of a hexadecimal digit, and some number for any other byte
abbrev pub hex_value : ℕ → ℕ
hex_value d = if nat_lt d 58 then d - 48 else d - 55

-- the bytes that a word spells, if it spells any; otherwise some bytes, whose spelling is another word
unfoldable pub decoded : List ℕ → List ℕ
decoded [] = []
decoded (c ∷ []) = if c == 37 then [] else c ∷ []
decoded (c ∷ high ∷ []) = if c == 37 then [] else c ∷ decoded (high ∷ [])
decoded (c ∷ high ∷ low ∷ word) =
    if c == 37 then (hex_value high * 16 + hex_value low) % 256 ∷ decoded word else c ∷ decoded (high ∷ low ∷ word)

-- the key that a word spells, if there is one
unfoldable pub key_of_word : List ℕ → Option (List ℕ)
key_of_word word =
    if nat_le 1 (length (decoded word)) && (nat_le (length (decoded word)) KEY_BYTES && bytes_eq (spelled (decoded word)) word)
    then Some (decoded word)
    else None

-- the payload that a word spells, if there is one
unfoldable pub payload_of_word : List ℕ → Option (List ℕ)
payload_of_word word =
    if nat_le (length (decoded word)) PAYLOAD_BYTES && bytes_eq (spelled (decoded word)) word
    then Some (decoded word)
    else None
