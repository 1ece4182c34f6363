-- Plain values resolve to themselves, and are lawful words.
use Rattle.std.proofs.Common.{◌≡◌, ℕ, ◌/◌, ◌%◌, ◌^◌, ◌<◌, ◌≤◌, ◌==◌, if◌then◌else◌, Bool, true, false, arith, refl, ap}
use Rattle.std.specs.Prelude.{nat_lt, nat_le}
use Rattle.std.proofs.lemmas.Bool.Decides.{nat_tests}
use Rattle.bz_layout.specs.Addresses.{swap_word_of}
use Rattle.bz_layout.specs.declared.config.Config.{Config}
use Rattle.bz_layout.specs.declared.sizes.TheConstants.{SUPERBLOCK_WORDS}
use Rattle.bz_word.specs.Kinds.{kind}
use Rattle.bz_word.proofs.Lemmas.{values}
use Rattle.bz_content.specs.Lawful.{is_word, is_value, is_lawful, is_named, is_in_descriptor, is_fixed}
use Rattle.bz_content.specs.Resolving.{resolve, stands_for}

-- a plain value resolves to itself
pub resolve-value : (raw : ℕ → ℕ) (a : ℕ) → raw a < 2 ^ 61 → resolve raw a ≡ raw a
unfolding resolve
resolve-value raw a small = ap (stands_for raw a) (values (raw a) small).1

value-word : (x : ℕ) → x < 2 ^ 61 → is_word x ≡ true
value-word x small =
    let a : x / 2 ^ 61 ≡ 0 = omega arith in
    let b : x / 2 ^ 62 ≡ 0 = omega arith in
    let d : x / 2 ^ 63 ≡ 0 = omega arith in
    let e : nat_lt x (2 ^ 64) ≡ true = grind (arith, nat_tests) in
    rw (a, b, d, e) refl

by-place : (p q t s v n : Bool) → v ≡ true → n ≡ true → (p ≡ true → s ≡ true) → (if p then (if q then s else v) else (if t then v else n)) ≡ true
by-place true true t s v n a b d = d refl
by-place true false t s v n a b d = a
by-place false q true s v n a b d = a
by-place false q false s v n a b d = b

-- plain values are lawful, where descriptors have none but 0
pub value-lawful : (c : Config) (raw : ℕ → ℕ) (a : ℕ) → raw a < 2 ^ 61 → (SUPERBLOCK_WORDS ≤ a → raw a ≡ 0) → is_lawful c raw a ≡ true
unfolding is_lawful
value-lawful c raw a small free =
    rw (value-word (raw a) small) (by-place (is_in_descriptor c a) (swap_word_of a == 0) (is_fixed a) (nat_le (raw a % 2 ^ 63) 3) (is_value (raw a)) (is_named c raw a (kind (raw a)))
    (grind (arith, nat_tests)) (rw (values (raw a) small).1 refl) status)
  where
    status : is_in_descriptor c a ≡ true → nat_le (raw a % 2 ^ 63) 3 ≡ true
    status e = let above : SUPERBLOCK_WORDS ≤ a = grind (arith, nat_tests) in rw (free above) refl
