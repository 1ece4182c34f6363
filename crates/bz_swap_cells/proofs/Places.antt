-- Which words lie in a line, or at an address.
use Rattle.std.specs.Prelude.{◌≡◌, ◌≢◌, ◌==◌, ℕ, ◌+◌, ◌*◌, ◌/◌, ◌<◌, ◌≤◌, true, false}
use Rattle.std.proofs.Common.{arith, ap, inl, inr}
use Rattle.std.proofs.lemmas.Grind.{common_steps}
use Rattle.std.proofs.lemmas.Bool.{cases_lt}
use Rattle.bz_layout.specs.Addresses.{swap_address}
use Rattle.bz_layout.specs.declared.sizes.TheConstants.{SUPERBLOCK_WORDS}
use Rattle.bz_swap_cells.specs.Store.{IsOutside, is_outside, field_address, field_count}

pub differ : (a b : ℕ) → a ≢ b → (a == b) ≡ false
differ a b ne = grind (arith, common_steps)

pub outside-told : (swaps a : ℕ) → IsOutside swaps a → is_outside swaps a ≡ true
outside-told swaps a (inl below) = grind (arith, common_steps)
outside-told swaps a (inr above) = grind (arith, common_steps)

pub told-outside : (swaps a : ℕ) → is_outside swaps a ≡ true → IsOutside swaps a
told-outside swaps a told = elim (cases_lt a SUPERBLOCK_WORDS) [
  | inl below ↦ inl below
  | inr at_least ↦ elim (cases_lt a (swap_address swaps)) [
    | inl inside ↦ grind (arith, common_steps)
    | inr above ↦ inr above
  ]
]

-- a word of a descriptor is not outside, nor in the line of a word that is
pub status-not_outside : (swaps a s : ℕ) → IsOutside swaps a → s < swaps → swap_address s ≢ a
status-not_outside swaps a s (inl below) lt = omega arith
status-not_outside swaps a s (inr above) lt = omega arith

pub field-not_outside : (swaps a s k : ℕ) → IsOutside swaps a → s < swaps → k < field_count → field_address s k ≢ a
field-not_outside swaps a s k (inl below) lt less = omega arith
field-not_outside swaps a s k (inr above) lt less = omega arith

pub status-not_in_line : (swaps a s : ℕ) → IsOutside swaps a → s < swaps → swap_address s / 8 ≢ a / 8
status-not_in_line swaps a s (inl below) lt = omega arith
status-not_in_line swaps a s (inr above) lt = omega arith

pub field-not_in_line : (swaps a s k : ℕ) → IsOutside swaps a → s < swaps → k < field_count → field_address s k / 8 ≢ a / 8
field-not_in_line swaps a s k (inl below) lt less = omega arith
field-not_in_line swaps a s k (inr above) lt less = omega arith

-- a word outside lies in neither line of a descriptor
pub outside-not_in_head : (swaps a s : ℕ) → IsOutside swaps a → s < swaps → a / 8 ≢ 2 + 2 * s
outside-not_in_head swaps a s (inl below) lt = omega arith
outside-not_in_head swaps a s (inr above) lt = omega arith

pub outside-not_in_tail : (swaps a s : ℕ) → IsOutside swaps a → s < swaps → a / 8 ≢ 3 + 2 * s
outside-not_in_tail swaps a s (inl below) lt = omega arith
outside-not_in_tail swaps a s (inr above) lt = omega arith

-- and a word of a descriptor is not in the line of one outside
pub inside-told : (swaps c : ℕ) → is_outside swaps c ≡ false → (SUPERBLOCK_WORDS ≤ c) × (c < swap_address swaps)
inside-told swaps c told = elim (cases_lt c SUPERBLOCK_WORDS) [
  | inl below ↦ absurd (grind (arith, common_steps, below, told))
  | inr above ↦ elim (cases_lt c (swap_address swaps)) [
    | inl inside ↦ (above, inside)
    | inr past ↦ absurd (grind (arith, common_steps, above, past, told))
  ]
]

pub inside-not_in_line : (swaps a c : ℕ) → IsOutside swaps a → is_outside swaps c ≡ false → c / 8 ≢ a / 8
inside-not_in_line swaps a c (inl below) told = let inside = inside-told swaps c told in omega (arith, inside.0, inside.1, below)
inside-not_in_line swaps a c (inr above) told = let inside = inside-told swaps c told in omega (arith, inside.0, inside.1, above)

pub inside-other : (swaps a c : ℕ) → IsOutside swaps a → is_outside swaps c ≡ false → c ≢ a
inside-other swaps a c out told e = let other = inside-not_in_line swaps a c out told in other (ap (λ (b : ℕ). b / 8) e)
