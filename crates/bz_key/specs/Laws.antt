-- The laws of packing, spelling and order, as the calls of the module of laws promise them.
use Rattle.std.specs.Prelude.{◌≡◌, ◌<◌, ◌^◌, ◌↔◌, ℕ, List, length, All, Some}
use Rattle.bz_key.specs.Bytes.{AreBytes, IsKey, IsPayload}
use Rattle.bz_key.specs.Packing.{packed_len, packed, unpacked_key, unpacked_payload}
use Rattle.bz_key.specs.Spelling.{IsSpellingByte, spelled, key_of_word, payload_of_word}

-- the words of a packing are a seventh of the bytes, rounded up, and leave the highest eight bits free
abbrev pub PackingIsSmall : Type 0
PackingIsSmall = (bytes : List ℕ) → AreBytes bytes → (length (packed bytes) ≡ packed_len (length bytes)) × All (λ w. w < 2 ^ 56) (packed bytes)

-- bytes of one length have different words
abbrev pub PackingIsInjective : Type 0
PackingIsInjective = (a b : List ℕ) → AreBytes a → AreBytes b → length a ≡ length b → packed a ≡ packed b → a ≡ b

-- words are read as a key exactly where they are its packing
abbrev pub KeysAreUnpacked : Type 0
KeysAreUnpacked = (len : ℕ) (words bytes : List ℕ) → (unpacked_key len words ≡ Some bytes) ↔ (IsKey bytes × (length bytes ≡ len) × (packed bytes ≡ words))

-- words are read as a payload exactly where they are its packing
abbrev pub PayloadsAreUnpacked : Type 0
PayloadsAreUnpacked = (len : ℕ) (words bytes : List ℕ) → (unpacked_payload len words ≡ Some bytes) ↔ (IsPayload bytes × (length bytes ≡ len) × (packed bytes ≡ words))

-- a word is read as a key exactly where it is its spelling
abbrev pub KeysAreRead : Type 0
KeysAreRead = (word bytes : List ℕ) → (key_of_word word ≡ Some bytes) ↔ (IsKey bytes × (word ≡ spelled bytes))

-- a word is read as a payload exactly where it is its spelling
abbrev pub PayloadsAreRead : Type 0
PayloadsAreRead = (word bytes : List ℕ) → (payload_of_word word ≡ Some bytes) ↔ (IsPayload bytes × (word ≡ spelled bytes))

-- different bytes have different spellings
abbrev pub SpellingIsInjective : Type 0
SpellingIsInjective = (a b : List ℕ) → AreBytes a → AreBytes b → spelled a ≡ spelled b → a ≡ b

-- a spelling has no other bytes than those that stand for themselves and percent signs
abbrev pub SpellingIsPlain : Type 0
SpellingIsPlain = (bytes : List ℕ) → AreBytes bytes → All IsSpellingByte (spelled bytes)
