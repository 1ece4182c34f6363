-- Words are read as a key or a payload exactly where they are its packing.
use Rattle.std.specs.Prelude.{◌≡◌, ◌↔◌, ◌≤◌, ℕ, List, length, Some}
use Rattle.std.proofs.Common.{arith, refl}
use Rattle.std.proofs.lemmas.Bool.Decides.{nat_tests}
use Rattle.std.proofs.lemmas.Slice.Eq.{bytes_eq-Decides}
use Rattle.bz_key.specs.Bytes.{IsKey, IsPayload}
use Rattle.bz_key.specs.Packing.{packed, unpacked, unpacked_key, unpacked_payload}
use Rattle.bz_key.proofs.PackingLaws.{length-unpacked, unpacked-bytes, unpacked-packed}
use Rattle.bz_key.specs.declared.limits.TheConstants.{KEY_BYTES, PAYLOAD_BYTES}

-- what words are read as a key are its packing
pub unpacked_key-sound : (len : ℕ) (words bytes : List ℕ) → unpacked_key len words ≡ Some bytes → IsKey bytes × (length bytes ≡ len) × (packed bytes ≡ words)
unfolding unpacked_key
unpacked_key-sound len words bytes e =
    let counted = length-unpacked len words in
    let d = bytes_eq-Decides (packed (unpacked len words)) words in
    let t : (1 ≤ len) × (len ≤ KEY_BYTES) × (packed (unpacked len words) ≡ words) × (unpacked len words ≡ bytes) = grind (arith, nat_tests, d.0) in
    rw (← t.3) (record { some = omega arith; fits = omega arith; each = unpacked-bytes len words }, counted, t.2)

-- the packing of a key is read as that key
pub unpacked_key-complete : (bytes : List ℕ) → IsKey bytes → unpacked_key (length bytes) (packed bytes) ≡ Some bytes
unfolding unpacked_key
unpacked_key-complete bytes key =
    rw (unpacked-packed bytes key.each) (grind (arith, nat_tests, (bytes_eq-Decides (packed bytes) (packed bytes)).1 refl, key.some, key.fits))

pub unpacked_payload-sound : (len : ℕ) (words bytes : List ℕ) → unpacked_payload len words ≡ Some bytes → IsPayload bytes × (length bytes ≡ len) × (packed bytes ≡ words)
unfolding unpacked_payload
unpacked_payload-sound len words bytes e =
    let counted = length-unpacked len words in
    let d = bytes_eq-Decides (packed (unpacked len words)) words in
    let t : (len ≤ PAYLOAD_BYTES) × (packed (unpacked len words) ≡ words) × (unpacked len words ≡ bytes) = grind (arith, nat_tests, d.0) in
    rw (← t.2) (record { fits = omega arith; each = unpacked-bytes len words }, counted, t.1)

pub unpacked_payload-complete : (bytes : List ℕ) → IsPayload bytes → unpacked_payload (length bytes) (packed bytes) ≡ Some bytes
unfolding unpacked_payload
unpacked_payload-complete bytes payload =
    rw (unpacked-packed bytes payload.each) (grind (arith, nat_tests, (bytes_eq-Decides (packed bytes) (packed bytes)).1 refl, payload.fits))

-- words are read as a key exactly where they are its packing
pub unpacked_key-exact : (len : ℕ) (words bytes : List ℕ) → (unpacked_key len words ≡ Some bytes) ↔ (IsKey bytes × (length bytes ≡ len) × (packed bytes ≡ words))
unpacked_key-exact len words bytes = (unpacked_key-sound len words bytes, λ is. rw (← is.1, ← is.2) (unpacked_key-complete bytes is.0))

pub unpacked_payload-exact : (len : ℕ) (words bytes : List ℕ) → (unpacked_payload len words ≡ Some bytes) ↔ (IsPayload bytes × (length bytes ≡ len) × (packed bytes ≡ words))
unpacked_payload-exact len words bytes = (unpacked_payload-sound len words bytes, λ is. rw (← is.1, ← is.2) (unpacked_payload-complete bytes is.0))
