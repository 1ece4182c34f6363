-- The free places of a table of flags, as one flag is cleared.
use Rattle.std.proofs.Common.{◌≡◌, ◌≢◌, ℕ, ◌+◌, ◌<◌, ◌≤◌, Bool, true, false, cond, not, eqb, ◌⊎◌, inl, inr, List, [], ◌∷◌, length, get_or, set, replicate, refl, sym, ◌∙◌, ap, arith}
use Rattle.std.proofs.lemmas.Bool.{cases_lt}
use Rattle.std.specs.List.{range_with_len}
use Rattle.std.specs.List.Sorted.{IsStrictlyIncreasing}
use Rattle.std.proofs.lemmas.List.{get_or-set_same, get_or-set_other, length-set, get_or_default, get_or-replicate, length-replicate}
use Rattle.std.proofs.lemmas.List.Elements.{All-filter}
use Rattle.std.proofs.lemmas.List.FromFn.{length-range_with_len, get_or-range_with_len}
use Rattle.std.proofs.lemmas.List.Kept.{IsStrictlyIncreasing-filter}
use Rattle.std.proofs.lemmas.Bool.Decides.{eqb_tells}
use Rattle.bz_layout.specs.Slots.{FreeSlots, all_free, without, IsInOrder}
use Rattle.bz_layout.specs.Table.{free_places, slots_of, NoneFreeBelow}
use Rattle.bz_layout.proofs.Consecutive.{filter-filter, filter_none, filter_all, filter_first, length-filter_taken}

-- whether a place is marked free
abbrev flag : List Bool → ℕ → Bool
flag flags place = get_or flags place false

-- the flags once a place is taken
abbrev cleared : List Bool → ℕ → List Bool
cleared flags place = set flags place false

-- a slot that callers see is a place of the table
pub slot_inside : (flags : List Bool) (s : FreeSlots) (slot : ℕ) → slots_of flags ≡ s → slot < s.nodes → slot < length flags
slot_inside flags s slot seen inside = let nodes = ap (λ (x : FreeSlots). x.nodes) seen in rw nodes inside

-- what a read of a place gives is its flag
pub flag_read : (flags : List Bool) (slot : ℕ) (read b : Bool) → slot < length flags → read ≡ get_or flags slot read → read ≡ b → flag flags slot ≡ b
flag_read flags slot read b inside there is = get_or_default flags slot false read inside ∙ sym there ∙ is

cleared_there : (flags : List Bool) (slot : ℕ) → slot < length flags → flag (cleared flags slot) slot ≡ false
cleared_there flags slot inside = get_or-set_same flags slot false false inside

cleared_elsewhere : (flags : List Bool) (slot : ℕ) → (k : ℕ) → k ≢ slot → flag (cleared flags slot) k ≡ flag flags k
cleared_elsewhere flags slot k other = get_or-set_other flags slot k false false other

-- the lowest free place is the first, and the others stay free
pub free_places_first : (flags : List Bool) (slot : ℕ) → slot < length flags → flag flags slot ≡ true → NoneFreeBelow slot flags → free_places flags ≡ slot ∷ free_places (cleared flags slot)
free_places_first flags slot inside free lowest =
    rw length-set (filter_first (flag flags) (flag (cleared flags slot)) 0 (length flags) slot slot (omega arith) inside (λ k _ below. lowest k below) free (cleared_there flags slot inside) (cleared_elsewhere flags slot))

-- a place that was free is one place fewer
pub length-free_places_cleared : (flags : List Bool) (slot : ℕ) → slot < length flags → flag flags slot ≡ true → length (free_places flags) ≡ length (free_places (cleared flags slot)) + 1
length-free_places_cleared flags slot inside free =
    rw length-set (length-filter_taken (flag flags) (flag (cleared flags slot)) 0 (length flags) slot slot (omega arith) inside free (cleared_there flags slot inside) (cleared_elsewhere flags slot))

-- all free places but the one that is cleared
pub free_places_cleared : (flags : List Bool) (slot : ℕ) → slot < length flags → free_places (cleared flags slot) ≡ without slot (free_places flags)
free_places_cleared flags slot inside =
    rw length-set (sym (filter-filter (flag flags) (λ s. not (eqb s slot)) (flag (cleared flags slot)) (λ k. both k (eqb_tells k slot)) (range_with_len 0 (length flags))))
  where
    kept : (b : Bool) → b ≡ cond b true false
    kept true = refl
    kept false = refl

    left_out : (b : Bool) → false ≡ cond b false false
    left_out true = refl
    left_out false = refl

    both : (k : ℕ) → ((eqb k slot ≡ true) × (k ≡ slot)) ⊎ ((eqb k slot ≡ false) × (k ≢ slot)) → flag (cleared flags slot) k ≡ cond (flag flags k) (not (eqb k slot)) false
    both k (inl same) = rw (same.0, same.1, cleared_there flags slot inside) (left_out (flag flags slot))
    both k (inr other) = rw (other.0, cleared_elsewhere flags slot k other.1) (kept (flag flags k))

-- a place that is not free may be left out
pub free_places_held : (flags : List Bool) (slot : ℕ) → flag flags slot ≡ false → free_places flags ≡ without slot (free_places flags)
free_places_held flags slot held =
    sym (filter-filter (flag flags) (λ s. not (eqb s slot)) (flag flags) (λ k. both k (eqb_tells k slot)) (range_with_len 0 (length flags)))
  where
    kept : (b : Bool) → b ≡ cond b true false
    kept true = refl
    kept false = refl

    both : (k : ℕ) → ((eqb k slot ≡ true) × (k ≡ slot)) ⊎ ((eqb k slot ≡ false) × (k ≢ slot)) → flag flags k ≡ cond (flag flags k) (not (eqb k slot)) false
    both k (inl same) = rw (same.1, held) refl
    both k (inr other) = rw other.0 (kept (flag flags k))

-- clearing a place frees none
pub none_free_cleared : (flags : List Bool) (slot end : ℕ) → slot < length flags → NoneFreeBelow end flags → NoneFreeBelow end (cleared flags slot)
none_free_cleared flags slot end inside lowest place below = at (eqb_tells place slot)
  where
    at : ((eqb place slot ≡ true) × (place ≡ slot)) ⊎ ((eqb place slot ≡ false) × (place ≢ slot)) → flag (cleared flags slot) place ≡ false
    at (inl same) = rw same.1 (cleared_there flags slot inside)
    at (inr other) = cleared_elsewhere flags slot place other.1 ∙ lowest place below

-- once the lowest free place is cleared, none is free up to it
pub none_free_next : (flags : List Bool) (slot : ℕ) → slot < length flags → NoneFreeBelow slot flags → NoneFreeBelow (slot + 1) (cleared flags slot)
none_free_next flags slot inside lowest place below = at (eqb_tells place slot)
  where
    at : ((eqb place slot ≡ true) × (place ≡ slot)) ⊎ ((eqb place slot ≡ false) × (place ≢ slot)) → flag (cleared flags slot) place ≡ false
    at (inl same) = rw same.1 (cleared_there flags slot inside)
    at (inr other) = let ne : place ≢ slot = other.1 in cleared_elsewhere flags slot place ne ∙ lowest place (omega (arith, ne))

-- where a place is free, it is not below the end of those that are not
pub free_place_inside : (flags : List Bool) (end : ℕ) → NoneFreeBelow end flags → 0 < length (free_places flags) → end < length flags
free_place_inside flags end lowest some = at (cases_lt end (length flags))
  where
    at : (end < length flags) ⊎ (length flags ≤ end) → end < length flags
    at (inl inside) = inside
    at (inr past) =
        let none : free_places flags ≡ [] = filter_none (flag flags) 0 (length flags) (λ k low high. lowest k (omega arith)) in
        absurd (omega (arith, ap length none))

-- where each flag is set, each place is free
free_places_all : (n : ℕ) → free_places (replicate n true) ≡ range_with_len 0 n
free_places_all n = rw length-replicate (filter_all (flag (replicate n true)) 0 n (λ k low below. get_or-replicate n k true false (omega arith)))

same_slots : (a b : ℕ) (xs ys : List ℕ) → a ≡ b → xs ≡ ys → (let l : FreeSlots = record { nodes = a; free = xs } in let r : FreeSlots = record { nodes = b; free = ys } in l ≡ r)
same_slots a b xs ys p q = rw (p, q) refl

pub slots_of_all : (flags : List Bool) (n : ℕ) → flags ≡ replicate n true → slots_of flags ≡ all_free n
slots_of_all flags n e = rw e (same_slots _ _ _ _ (length-replicate n true) (free_places_all n))

pub length-free_places_all : (flags : List Bool) (n : ℕ) → flags ≡ replicate n true → n ≡ length (free_places flags)
length-free_places_all flags n e = rw e (sym (ap length (free_places_all n) ∙ length-range_with_len 0 n))

-- the slots once one is no longer free
pub slots_of_cleared : (flags : List Bool) (slot : ℕ) → slot < length flags → (let l : FreeSlots = record { nodes = length flags; free = without slot (free_places flags) } in slots_of (cleared flags slot) ≡ l)
slots_of_cleared flags slot inside = same_slots _ _ _ _ (length-set flags slot false) (free_places_cleared flags slot inside)

pub slots_of_held : (flags : List Bool) (slot : ℕ) → flag flags slot ≡ false → (let l : FreeSlots = record { nodes = length flags; free = without slot (free_places flags) } in slots_of flags ≡ l)
slots_of_held flags slot held = same_slots _ _ _ _ refl (free_places_held flags slot held)

-- the free places rise, and lie in the table
pub slots_of_in_order : (flags : List Bool) → IsInOrder (slots_of flags)
slots_of_in_order flags = record {
  rising = IsStrictlyIncreasing-filter (flag flags) (range_with_len 0 (length flags)) (rises (length flags));
  within = All-filter (flag flags) (λ place. place < length flags) (range_with_len 0 (length flags)) (inside (length flags));
}
  where
    rises : (n : ℕ) → IsStrictlyIncreasing (range_with_len 0 n)
    rises n k more =
        let size = length-range_with_len 0 n in
        omega (arith, get_or-range_with_len 0 n k 0 (omega arith), get_or-range_with_len 0 n (k + 1) 0 (omega arith))

    inside : (n : ℕ) (k d : ℕ) → k < length (range_with_len 0 n) → get_or (range_with_len 0 n) k d < n
    inside n k d below =
        let size = length-range_with_len 0 n in
        omega (arith, get_or-range_with_len 0 n k d (omega arith))
