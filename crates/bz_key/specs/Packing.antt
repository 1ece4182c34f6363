-- Packing: seven bytes to a word, the first one in bits 48 to 55, the seventh in bits 0 to 7.
use Rattle.std.specs.Prelude.{ℕ, ◌+◌, ◌-◌, ◌*◌, ◌/◌, ◌%◌, ◌^◌, List, map, length, get_or, ◌&&◌, nat_le, bytes_eq, if◌then◌else◌, Option, Some, None}
use Rattle.std.specs.List.{range_with_len}
use Rattle.bz_key.specs.declared.limits.TheConstants.{KEY_BYTES, PAYLOAD_BYTES}

-- how many words so many bytes take: a seventh, rounded up
abbrev pub packed_len : ℕ → ℕ
packed_len len = (len + 6) / 7

-- the word of the seven bytes from a place on; a byte that is missing is 0
unfoldable pub packed_word : List ℕ → ℕ → ℕ
packed_word bytes place =
    get_or bytes place 0 * 2 ^ 48
    + get_or bytes (place + 1) 0 * 2 ^ 40
    + get_or bytes (place + 2) 0 * 2 ^ 32
    + get_or bytes (place + 3) 0 * 2 ^ 24
    + get_or bytes (place + 4) 0 * 2 ^ 16
    + get_or bytes (place + 5) 0 * 2 ^ 8
    + get_or bytes (place + 6) 0

-- the words that bytes are packed into
unfoldable pub packed : List ℕ → List ℕ
packed bytes = map (λ i. packed_word bytes (7 * i)) (range_with_len 0 (packed_len (length bytes)))

-- the byte at a place of packed words
unfoldable pub packed_byte : List ℕ → ℕ → ℕ
packed_byte words place = get_or words (place / 7) 0 / 2 ^ (8 * (6 - place % 7)) % 256

-- the first bytes that stand in words, so many
unfoldable pub unpacked : ℕ → List ℕ → List ℕ
unpacked len words = map (packed_byte words) (range_with_len 0 len)

-- the key of a length whose packing the words are, if there is one
unfoldable pub unpacked_key : ℕ → List ℕ → Option (List ℕ)
unpacked_key len words =
    if nat_le 1 len && (nat_le len KEY_BYTES && bytes_eq (packed (unpacked len words)) words)
    then Some (unpacked len words)
    else None

-- the payload of a length whose packing the words are, if there is one
unfoldable pub unpacked_payload : ℕ → List ℕ → Option (List ℕ)
unpacked_payload len words =
    if nat_le len PAYLOAD_BYTES && bytes_eq (packed (unpacked len words)) words
    then Some (unpacked len words)
    else None
