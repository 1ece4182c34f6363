-- What the program finds while it reads a node, in terms of the tests.
use Rattle.std.proofs.Common.{◌≡◌, ◌≢◌, ℕ, ◌+◌, ◌^◌, ◌<◌, ◌≤◌, ◌==◌, ◌&&◌, if◌then◌else◌, Bool, true, false, List, length, arith, refl, inl, inr, Option}
use Rattle.std.specs.Prelude.{nat_lt, nat_le, bytes_eq, Some, None, IsSome}
use Rattle.std.proofs.lemmas.Bool.{cases_Bool}
use Rattle.std.proofs.lemmas.Bool.Decides.{nat_tests}
use Rattle.bz_key.specs.Packing.{packed, packed_len, unpacked, unpacked_key}
use Rattle.bz_key.specs.declared.limits.TheConstants.{KEY_BYTES}
use Rattle.bz_layout.specs.declared.sizes.TheConstants.{FENCE_WORDS, HEADER_AT}
use Rattle.bz_layout.specs.declared.thresholds.TheConstants.{MAX_LEVELS}
use Rattle.bz_node.specs.Reading.{part}
use Rattle.bz_word.specs.Headers.{header, header_word, IsHeader}
use Rattle.bz_word.specs.declared.header.Header.{Header}
use Rattle.bz_slotted.specs.Page.{words_at, page}
use Rattle.bz_slotted.specs.ReadingLaws.{node_of}
use Rattle.bz_slotted.specs.Rules.{level_test, reads_as, fence_test}
use Rattle.bz_slotted.specs.Tests.{every}
use Rattle.bz_slotted.proofs.Lists.{part-at}
use Rattle.bz_slotted.proofs.Unpacking.{header-is, header-fits}

pub level-read : (h : Header) (words : List ℕ) (l : ℕ) → IsHeader h → header_word h ≡ node_of words HEADER_AT → level_test (page (node_of words)) l ≡ (h.level == l && nat_lt l MAX_LEVELS)
level-read h words l fits word =
    let is : h ≡ header (node_of words HEADER_AT) = header-is h (node_of words HEADER_AT) fits word in
    let small : nat_lt (node_of words HEADER_AT) (2 ^ 32) ≡ true = test (header-fits h (node_of words HEADER_AT) fits word) in
    rw (small, is) refl
  where
    test : node_of words HEADER_AT < 2 ^ 32 → nat_lt (node_of words HEADER_AT) (2 ^ 32) ≡ true
    test t = grind (arith, nat_tests)

pub level-unread : (words : List ℕ) (l : ℕ) → (node_of words HEADER_AT < 2 ^ 32 → ⊥) → level_test (page (node_of words)) l ≡ false
level-unread words l h = let big : nat_lt (node_of words HEADER_AT) (2 ^ 32) ≡ false = grind (arith, nat_tests) in rw big refl

-- more bytes than a key has are no key's
unpacked_key-past : (len : ℕ) (words : List ℕ) → KEY_BYTES < len → unpacked_key len words ≡ None
unfolding unpacked_key
unpacked_key-past len words h = let t : nat_le len KEY_BYTES ≡ false = grind (arith, nat_tests) in rw t (fails (nat_le 1 len))
  where
    fails : (b : Bool) → (if b && false then Some (unpacked len words) else None) ≡ None
    fails true = refl
    fails false = refl

pub fence-long : (words : List ℕ) (at len : ℕ) (key : List ℕ) → KEY_BYTES < len → fence_test (node_of words) at len (Some key) ≡ false
unfolding fence_test
fence-long words at len key h = rw (unpacked_key-past len (words_at (node_of words) at (packed_len len)) h) refl

pub fence-read : (words : List ℕ) (at len : ℕ) (key : List ℕ) (o : Option (List ℕ)) → at + FENCE_WORDS ≤ length words → len ≤ KEY_BYTES → o ≡ unpacked_key len (part words at (packed_len len)) → fence_test (node_of words) at len (Some key) ≡ reads_as o key
unfolding fence_test
fence-read words at len key o within short is = rw (is, part-at words at (packed_len len) (omega arith)) refl

pub fence-absent : (words : List ℕ) (at len : ℕ) → fence_test (node_of words) at len None ≡ (len == 0 && every FENCE_WORDS (λ i. node_of words (at + i) == 0))
unfolding fence_test
fence-absent words at len = refl

pub unpacked_key-some : (len : ℕ) (words : List ℕ) → IsSome (unpacked_key len words) → unpacked_key len words ≡ Some (unpacked len words)
unfolding unpacked_key
unpacked_key-some len words some =
    elim (cases_Bool (nat_le 1 len && (nat_le len KEY_BYTES && bytes_eq (packed (unpacked len words)) words))) [
      | inl is ↦ rw is refl
      | inr is ↦ (let none = rw is at some in cc)
    ]

pub other-test : (a b : ℕ) → a ≢ b → (a == b) ≡ false
other-test a b h = grind (arith, nat_tests)

pub same-test : (a b : ℕ) → a ≡ b → (a == b) ≡ true
same-test a b h = grind (arith, nat_tests)
