-- A memory at work leaves an image that a sweep can read: its words are lawful, and resolve to the memory's values.
use Rattle.std.proofs.Common.{◌≡◌, ℕ, ◌<◌, ◌≤◌, true, arith, refl, sym, inl, inr}
use Rattle.std.specs.Prelude.{slice_index, nat_lt, nat_le}
use Rattle.std.proofs.lemmas.Bool.{cases_Bool, cases_lt, le-leb, lt-ltb}
use Rattle.bz_content.specs.Lawful.{is_fixed}
use Rattle.bz_layout.specs.Addresses.{node_address}
use Rattle.bz_layout.specs.declared.sizes.TheConstants.{SUPERBLOCK_WORDS}
use Rattle.bz_swap.specs.SwapMemory.{SwapMemory, value_at}
use Rattle.bz_swap_image.proofs.Proved.{descriptors_are_lawful, words_are_lawful, words_resolve_to_values}
use Rattle.bz_sweep.proofs.Images.{place, plain-lawful}
use Rattle.bz_sweep.specs.Lawful.{is_in_descriptor, is_lawful, without_nodes}
use Rattle.bz_sweep.specs.Words.{IsImage, IsOfSwap, IsShared}
use Rattle.bz_sweep.specs.declared.area.Area.{Area}
use Rattle.bz_swap_recovery.proofs.Values.{outside}
use Rattle.bz_swap_recovery.specs.Recovering.{IsAtWork}

-- a word of a descriptor stands among them
among : (r : Area) (a : ℕ) → IsOfSwap r a → (SUPERBLOCK_WORDS ≤ a) × (a < node_address (without_nodes r) 0)
among r a at = elim (cases_lt a SUPERBLOCK_WORDS) [
  | inl low ↦ absurd (at.inside (inl low))
  | inr above ↦ elim (cases_lt a (node_address (without_nodes r) 0)) [
    | inl below ↦ (above, below)
    | inr high ↦ absurd (at.inside (inr (omega (arith, high))))
  ]
]

module _ (r : Area) (m : SwapMemory) (h : IsAtWork r m) where
  shared-lawful : (a : ℕ) → IsShared r a → is_lawful r (slice_index m.durable) a ≡ true
  shared-lawful a shared = elim (cases_Bool (is_fixed a)) [
    | inl fixed ↦ plain-lawful r (slice_index m.durable) a shared (h.fixed a fixed)
    | inr free ↦ words_are_lawful (without_nodes r) m.swaps m.durable a (sym h.sizes.swaps) (outside r m.swaps a h.sizes.swaps shared) free (h.held.lawful a (outside r m.swaps a h.sizes.swaps shared))
  ]

  swap-lawful : (a : ℕ) → IsOfSwap r a → is_lawful r (slice_index m.durable) a ≡ true
  swap-lawful a at =
      let where-is : (SUPERBLOCK_WORDS ≤ a) × (a < node_address (without_nodes r) 0) = among r a at in
      let after : nat_le SUPERBLOCK_WORDS a ≡ true = le-leb SUPERBLOCK_WORDS a where-is.0 in
      let before : nat_lt a (node_address (without_nodes r) 0) ≡ true = lt-ltb a (node_address (without_nodes r) 0) where-is.1 in
      let inside : is_in_descriptor r a ≡ true = rw (after, before) refl in
      descriptors_are_lawful (without_nodes r) m a h.sizes.swaps h.held h.fields (omega (arith, where-is.1)) inside

  pub left-image : IsImage r (value_at m) (slice_index m.durable)
  left-image = record {
    lawful = λ a within. elim (place r a within) [
      | inl shared ↦ shared-lawful a shared
      | inr at ↦ swap-lawful a at
    ];
    resolved = λ a shared. words_resolve_to_values m.swaps m.durable a (outside r m.swaps a h.sizes.swaps shared) (h.held.lawful a (outside r m.swaps a h.sizes.swaps shared));
  }
