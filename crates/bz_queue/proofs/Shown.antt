-- Each descriptor that is taken is shown by the journal, or is a worker's that has not stored into it; and the journal shows no other.
use Rattle.std.proofs.Common.{◌≡◌, ◌≢◌, ◌<◌, ◌⊎◌, inl, inr, ◌+◌, ◌==◌, ◌&&◌, ◌||◌, not, ℕ, zero, suc, Bool, true, false, List, ◌∷◌, slice_index, refl, sym, ap, subst, arith, Option}
use Rattle.std.proofs.lemmas.Bool.{and_parts, cases_eq, eq-eqb, eqb-true, ne_eqb, or_cases}
use Rattle.bz_swap_acts.specs.declared.acted.Act.{Act}
use Rattle.bz_swap_acts.specs.declared.acted.Act.TheVariants.{Load, Store, Cas, Ask, Fence}
use Rattle.bz_swap_cells.specs.Store.{status_word}
use Rattle.bz_layout.specs.Addresses.{swap_address}
use Rattle.bz_swap_machine.specs.declared.done.Done.{Done}
use Rattle.bz_swap_machine.specs.declared.status.SwapStatus.TheVariants.{Free, Undecided}
use Rattle.bz_layout.specs.declared.sizes.TheConstants.{SWAP_STATUS_AT}
use Rattle.bz_mark.specs.Counts.{BEGUN, is_taken}
use Rattle.bz_mark.specs.Times.{since_on}
use Rattle.bz_mark.specs.declared.marks.Mark.{Mark}
use Rattle.bz_swap.specs.Evictions.{IsEviction}
use Rattle.bz_swap.specs.Held.{IsHeld}
use Rattle.bz_swap.specs.Steps.{IsStep}
use Rattle.bz_swap.specs.SwapMemory.{SwapMemory}
use Rattle.bz_swap.specs.Writes.{StoresOwn, StoresPrivate, WritesLawfully}
use Rattle.bz_swap.proofs.Proved.{begun_stay_taken, taken_statuses_stay}
use Rattle.bz_mark.specs.declared.marks.Mark.TheVariants as mark
use Rattle.bz_ring.specs.declared.marks.QMark.{QMark}
use Rattle.bz_ring.specs.declared.marks.QMark.TheVariants.{Memory}
use Rattle.bz_ring.specs.Journal.{memory_of}
use Rattle.bz_swap_marks.specs.Marks.{mark_of}
use Rattle.bz_queue.specs.Inside.Kept.{AreShown}

or-right : (x y : Bool) → y ≡ true → (x || y) ≡ true
or-right true y is = refl
or-right false y is = is

-- what was taken is
taken-still : (s w : ℕ) (made : Act) (marks : List Mark) → is_taken s (since_on marks) ≡ true → is_taken s (since_on (mark_of w made ∷ marks)) ≡ true
taken-still s w (Load a v) marks is = is
taken-still s w (Store a v) marks is = or-right _ _ is
taken-still s w (Cas a old new found) marks is = is
taken-still s w (Ask line) marks is = is
taken-still s w Fence marks is = is

-- the store of undecided takes
taken-now : (s w : ℕ) (marks : List Mark) → 0 < w → is_taken s (since_on (mark_of w (Store (swap_address s) (status_word Undecided)) ∷ marks)) ≡ true
taken-now s zero marks some = absurd (omega arith)
taken-now s (suc w) marks some = rw (ne_eqb (suc w) 0 (λ zero. absurd (omega arith)), eq-eqb (swap_address s) (swap_address s + 0) (omega arith)) refl

-- a store at a status is one of a swap that has begun
at-status : (old : SwapMemory) (w s a v : ℕ) → s < old.swaps → a ≡ swap_address s + SWAP_STATUS_AT → StoresPrivate old w a v ⊎ StoresOwn old w a v → s < old.taken
at-status old w s a v within here (inl private) = elim private.outside [
  | inl low ↦ absurd (omega arith)
  | inr high ↦ absurd (omega arith)
]
at-status old w s a v within here (inr own) = elim own.word [
  | inl word ↦ (let there : a ≡ swap_address own.swap = word.0 in omega (arith, own.begun))
  | inr field ↦ absurd (omega (arith, field.below, field.address))
]

taken-by : (w s a v : ℕ) (marks : List Mark) → is_taken s (since_on (mark.Store w a v ∷ marks)) ≡ true → (a ≡ swap_address s + SWAP_STATUS_AT) ⊎ (is_taken s (since_on marks) ≡ true)
taken-by w s a v marks is = elim (or_cases (not (w == 0) && (a == swap_address s + SWAP_STATUS_AT && v == BEGUN)) (is_taken s (since_on marks)) is) [
  | inl here ↦ inl (eqb-true a (swap_address s + SWAP_STATUS_AT) (and_parts (a == swap_address s + SWAP_STATUS_AT) (v == BEGUN) (and_parts (not (w == 0)) (a == swap_address s + SWAP_STATUS_AT && v == BEGUN) here).1).0)
  | inr before ↦ inr before
]

-- so what the marks show taken has begun
only-begun : (old : SwapMemory) (w s : ℕ) (made : Act) (marks : List Mark) → s < old.swaps → (is_taken s (since_on marks) ≡ true → s < old.taken) → WritesLawfully old w made → is_taken s (since_on (mark_of w made ∷ marks)) ≡ true → s < old.taken
only-begun old w s (Load a v) marks within before writes is = before is
only-begun old w s (Store a v) marks within before writes is = elim (taken-by w s a v marks is) [
  | inl here ↦ at-status old w s a v within here (writes.stores a v refl)
  | inr earlier ↦ before earlier
]
only-begun old w s (Cas a was becomes found) marks within before writes is = before is
only-begun old w s (Ask line) marks within before writes is = before is
only-begun old w s Fence marks within before writes is = before is

pub shown-step : (old new : SwapMemory) (w : ℕ) (made : Act) (done : Done) (told : Option ℕ) (past : List QMark) → 0 < w → IsHeld old → IsStep old w made done told new → AreShown old past → AreShown new (Memory (mark_of w made) ∷ past)
shown-step old new w made done told past some held step h = record {
  begun = begun_stay_taken.step old new w made done told held step h.begun;
  shown = λ s within taken.
      let inside : s < old.swaps = subst (λ (k : ℕ). s < k) step.one.others.swaps within in
      elim (cases_eq (slice_index old.cached (swap_address s)) (status_word Free)) [
        | inl free ↦
            let t = taken_statuses_stay.begins old new w made done told s step inside free taken in
            subst (λ (it : Act). is_taken s (since_on (mark_of w it ∷ memory_of past)) ≡ true) (sym t.act) (taken-now s w (memory_of past) some)
        | inr other ↦ taken-still s w made (memory_of past) (h.shown s inside other)
      ];
  only = λ s within is.
      let inside : s < old.swaps = subst (λ (k : ℕ). s < k) step.one.others.swaps within in
      let below : s < old.taken = only-begun old w s made (memory_of past) inside (h.only s inside) step.writes is in
      subst (λ (k : ℕ). s < k) (sym step.one.others.taken) below;
}

pub shown-eviction : (old new : SwapMemory) (a : ℕ) (told : Option ℕ) (past : List QMark) → IsEviction old a told new → AreShown old past → AreShown new (Memory (mark.Evict a) ∷ past)
shown-eviction old new a told past e h = record {
  begun = begun_stay_taken.eviction old new a told e h.begun;
  shown = λ s within taken.
      h.shown s (subst (λ (k : ℕ). s < k) (ap (λ (m : SwapMemory). m.swaps) e.is) within)
      (subst (λ (cached : List ℕ). slice_index cached (swap_address s) ≢ status_word Free) (ap (λ (m : SwapMemory). m.cached) e.is) taken);
  only = λ s within is.
      subst (λ (k : ℕ). s < k) (sym (ap (λ (m : SwapMemory). m.taken) e.is)) (h.only s (subst (λ (k : ℕ). s < k) (ap (λ (m : SwapMemory). m.swaps) e.is) within) is);
}
