-- Words after a store at an address, by address.
use Rattle.std.specs.Prelude.{◌≡◌, ◌≢◌, ℕ, ◌<◌, List, length, slice_index, slice_set}
use Rattle.std.proofs.Common.{inl, inr}
use Rattle.std.proofs.lemmas.Bool.{cases_eq, cases_lt}
use Rattle.std.proofs.lemmas.List.{get_or-set_same, get_or-set_other, get_or_past, length-set}

-- what holds of a word and of what is stored holds of the word afterwards
pub set-keeps : (P : ℕ → Type 0) (words : List ℕ) (a v b : ℕ) → (b ≡ a → P v) → P (slice_index words b) → P (slice_index (slice_set words a v) b)
set-keeps P words a v b new old = elim (cases_eq b a) [
  | inl here ↦ elim (cases_lt a (length words)) [
    | inl within ↦ (let is : slice_index (slice_set words a v) a ≡ v = get_or-set_same words a v 0 within in rw (here, is) (new here))
    | inr past ↦ (let is : slice_index (slice_set words a v) a ≡ 0 = get_or_past (slice_set words a v) a 0 (rw (length-set words a v) past) in
        let was : slice_index words a ≡ 0 = get_or_past words a 0 past in
        let zero : P 0 = rw (here, was) at old in
        rw (here, is) zero)
  ]
  | inr there ↦ rw (get_or-set_other words a b v 0 there) old
]

-- a word that is below a bound, where what is stored at it is
pub set-below : (words : List ℕ) (a v b n : ℕ) → (b ≡ a → v < n) → slice_index words b < n → slice_index (slice_set words a v) b < n
set-below words a v b n = set-keeps (λ x. x < n) words a v b

pub set-other : (words : List ℕ) (a v b : ℕ) → b ≢ a → slice_index (slice_set words a v) b ≡ slice_index words b
set-other words a v b there = get_or-set_other words a b v 0 there
