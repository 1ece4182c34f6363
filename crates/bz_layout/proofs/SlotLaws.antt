-- What a slot's being taken or held says of the slots that are free.
use Rattle.std.proofs.Common.{◌≡◌, ◌≢◌, ℕ, ◌+◌, ◌<◌, Bool, true, false, not, eqb, List, length, get_or, take, drop, filter, All, Contains, slice_index, refl, sym, ◌⊎◌, inl, inr, arith, eq-eqb, eqb-true}
use Rattle.std.specs.List.{range_with_len, AllPairs}
use Rattle.std.proofs.lemmas.List.{get_or-drop, get_or_default, take-append-drop, length-drop}
use Rattle.std.proofs.lemmas.List.Elements.{All-contains, All-filter, All-contains_itself, Contains-append_right, Contains-append_cases, Contains-get_or, filter_passes}
use Rattle.std.proofs.lemmas.List.FromFn.{length-range_with_len, get_or-range_with_len}
use Rattle.std.proofs.lemmas.List.Kept.{AllPairs-from_increasing}
use Rattle.std.proofs.lemmas.List.Sorted.{IsPermutation-filter_both, Contains-permutation}
use Rattle.bz_layout.specs.Slots.{TakenSlotsAreGone, HeldSlotIsGone, AllSlotsAreFree, without}

-- each slot that is left is above each that is taken
above : (free : List ℕ) (k i : ℕ) → AllPairs (λ x y. x < y) free → i < k → All (λ slot. get_or free i 0 < slot) (drop k free)
above free k i rising taken j d inside =
    let room : k + j < length free = omega (arith, length-drop k free) in
    let lower : get_or free i d < get_or free (k + j) d = rising i (k + j) d (omega arith) room in
    omega (arith, get_or-drop k free j d, get_or_default free i 0 d (omega arith))

pub taken_slots_are_gone-holds : TakenSlotsAreGone
taken_slots_are_gone-holds s k in_order =
    let rising : AllPairs (λ x y. x < y) s.free = AllPairs-from_increasing s.free in_order.rising in
    record {
      rising = λ i j lower inside. rising i j 0 lower inside;
      gone = λ i taken left. let less : slice_index s.free i < slice_index s.free i = All-contains (λ slot. get_or s.free i 0 < slot) (drop k s.free) (slice_index s.free i) (above s.free k i rising taken) left in absurd (omega arith);
      others = λ slot left. rw (sym (take-append-drop k s.free)) (Contains-append_right (take k s.free) (drop k s.free) slot left);
    }

-- a filter keeps what passes
kept : (slot : ℕ) (free : List ℕ) (other : ℕ) → Contains free other → other ≢ slot → Contains (without slot free) other
kept slot free other was differs =
    in_part (Contains-append_cases (without slot free) (filter (λ s. eqb s slot) free) other (Contains-permutation free _ other (IsPermutation-filter_both (λ s. not (eqb s slot)) (λ s. eqb s slot) (λ s. twice (eqb s slot)) free) was))
  where
    twice : (b : Bool) → b ≡ not (not b)
    twice true = refl
    twice false = refl

    in_part : Contains (without slot free) other ⊎ Contains (filter (λ s. eqb s slot) free) other → Contains (without slot free) other
    in_part (inl stays) = stays
    in_part (inr same) = absurd (differs (eqb-true other slot (All-contains (λ s. eqb s slot ≡ true) (filter (λ s. eqb s slot) free) other (filter_passes (λ s. eqb s slot) free) same)))

pub held_slot_is_gone-holds : HeldSlotIsGone
held_slot_is_gone-holds slot free = record {
  gone = λ left. let passes = All-contains (λ s. not (eqb s slot) ≡ true) (without slot free) slot (filter_passes (λ s. not (eqb s slot)) free) left in let never : false ≡ true = rw (eq-eqb slot slot refl) at passes in cc;
  stays = λ other was differs. kept slot free other was differs;
  others = λ other left. All-contains (Contains free) (without slot free) other (All-filter (λ s. not (eqb s slot)) (Contains free) free (All-contains_itself free)) left;
}

pub all_slots_are_free-holds : AllSlotsAreFree
all_slots_are_free-holds n slot below =
    let read : get_or (range_with_len 0 n) slot 0 ≡ 0 + slot = get_or-range_with_len 0 n slot 0 below in
    let found : Contains (range_with_len 0 n) (get_or (range_with_len 0 n) slot 0) = Contains-get_or (range_with_len 0 n) slot 0 (omega (arith, length-range_with_len 0 n)) in
    let is : get_or (range_with_len 0 n) slot 0 ≡ slot = omega arith in
    rw is at found
