-- Words that are read as a key or a payload are read as the bytes that stand in them.
use Rattle.std.specs.Prelude.{◌≡◌, ◌≢◌, ℕ, ◌≤◌, List, Some, None, IsSome, ◌&&◌, nat_le, bytes_eq}
use Rattle.std.proofs.Common.{arith, refl, sym, ◌∙◌, inl, inr}
use Rattle.std.proofs.lemmas.Bool.{cases_Bool}
use Rattle.std.proofs.lemmas.Bool.Decides.{nat_tests}
use Rattle.bz_key.specs.Packing.{packed, unpacked, unpacked_key, unpacked_payload}
use Rattle.bz_key.specs.declared.limits.TheConstants.{KEY_BYTES, PAYLOAD_BYTES}
use Rattle.bz_word.specs.declared.meta.Extent.{Extent}
use Rattle.bz_node.specs.Reading.{low_in, key_part, high_len, high_part, high_in, HasHighFence}

pub unpacked_key-some : (len : ℕ) (words : List ℕ) → IsSome (unpacked_key len words) → unpacked_key len words ≡ Some (unpacked len words)
unfolding unpacked_key
unpacked_key-some len words some =
    elim (cases_Bool (nat_le 1 len && (nat_le len KEY_BYTES && bytes_eq (packed (unpacked len words)) words))) [
      | inl is ↦ rw is refl
      | inr is ↦ (let none = rw is at some in cc)
    ]

pub unpacked_payload-some : (len : ℕ) (words : List ℕ) → IsSome (unpacked_payload len words) → unpacked_payload len words ≡ Some (unpacked len words)
unfolding unpacked_payload
unpacked_payload-some len words some =
    elim (cases_Bool (nat_le len PAYLOAD_BYTES && bytes_eq (packed (unpacked len words)) words)) [
      | inl is ↦ rw is refl
      | inr is ↦ (let none = rw is at some in cc)
    ]

pub low_in-some : (words : List ℕ) (e : Extent) → e.key ≢ 0 → low_in words e ≡ Some (unpacked e.key (key_part words e))
low_in-some words e other = grind (arith, nat_tests)

pub unpacked_key-long : (len : ℕ) (words : List ℕ) → IsSome (unpacked_key len words) → 1 ≤ len
unfolding unpacked_key
unpacked_key-long len words some = grind (arith, nat_tests)

unpacked_key-short : (len : ℕ) (words : List ℕ) → IsSome (unpacked_key len words) → len ≤ KEY_BYTES
unfolding unpacked_key
unpacked_key-short len words some = grind (arith, nat_tests)

-- the high fence, which has so many bytes: none of no bytes, and otherwise the key that stands there
pub high_none : (words : List ℕ) (len : ℕ) → len ≡ high_len words → len ≡ 0 → None ≡ high_in words
high_none words len is none = grind (arith, nat_tests)

high_some : (words : List ℕ) → high_len words ≢ 0 → high_in words ≡ Some (unpacked (high_len words) (high_part words))
high_some words some = grind (arith, nat_tests)

pub high_read : (words : List ℕ) (len : ℕ) → HasHighFence words → len ≡ high_len words → len ≢ 0 → unpacked_key (high_len words) (high_part words) ≡ high_in words
high_read words len fence is some =
    let there : high_len words ≢ 0 = omega (arith, is, some) in
    unpacked_key-some (high_len words) (high_part words) (fence.key there) ∙ sym (high_some words there)

pub high_short : (words : List ℕ) (len : ℕ) → HasHighFence words → len ≡ high_len words → len ≢ 0 → len ≤ KEY_BYTES
high_short words len fence is some =
    let there : high_len words ≢ 0 = omega (arith, is, some) in
    omega (arith, is, unpacked_key-short (high_len words) (high_part words) (fence.key there))
