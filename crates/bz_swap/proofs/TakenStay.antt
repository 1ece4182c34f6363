-- A descriptor whose status is not free stays so.
use Rattle.std.specs.Prelude.{◌≡◌, ◌≢◌, ◌⊎◌, ◌==◌, if◌then◌else◌, ℕ, ◌<◌, Bool, true, false, List, length, slice_index, slice_set}
use Rattle.std.proofs.Common.{arith, refl, ap, sym, ◌∙◌, inl, inr}
use Rattle.std.proofs.lemmas.Bool.{cases_eq, cases_lt}
use Rattle.std.proofs.lemmas.Grind.{common_steps}
use Rattle.std.proofs.lemmas.List.{get_or-set_same, get_or_past}
use Rattle.bz_layout.specs.Addresses.{swap_address}
use Rattle.bz_swap_cells.specs.FromPm.State.{State}
use Rattle.bz_swap_acts.specs.Rule.{after_act}
use Rattle.bz_swap_acts.specs.declared.acted.Act.{Act}
use Rattle.bz_swap_acts.specs.declared.acted.Act.TheVariants.{Load, Store, Cas, Ask, Fence}
use Rattle.bz_swap_cells.specs.Store.{IsOutside, status_word}
use Rattle.bz_swap_machine.specs.declared.status.SwapStatus.TheVariants.{Undecided}
use Rattle.bz_swap.specs.SwapMemory.{SwapMemory, memory_state}
use Rattle.bz_swap.specs.TakenStatuses.{IsTaken, IsTaking, TakenStatusesStay}
use Rattle.bz_swap.specs.Writes.{StoresPrivate, StoresField, StoresOwn, ChangesStatus, WritesLawfully}
use Rattle.bz_swap.proofs.WordActs.{set-other}

status-inside : (swaps a s : ℕ) → IsOutside swaps a → s < swaps → swap_address s ≢ a
status-inside swaps a s (inl below) lt = omega arith
status-inside swaps a s (inr above) lt = omega arith

-- a word that is not zero stays so, where what is stored at it is not
set-some : (words : List ℕ) (a v b : ℕ) → (b ≡ a → v ≢ 0) → slice_index words b ≢ 0 → slice_index (slice_set words a v) b ≢ 0
set-some words a v b new old = elim (cases_eq b a) [
  | inl here ↦ elim (cases_lt a (length words)) [
    | inl within ↦ (let is : slice_index (slice_set words a v) a ≡ v = get_or-set_same words a v 0 within in rw (here, is) (new here))
    | inr past ↦ (let none : slice_index words b ≡ 0 = get_or_past words b 0 (omega (arith, past, here)) in absurd (old none))
  ]
  | inr there ↦ rw (set-other words a v b there) old
]

-- what an act may write into a status: no free one, and undecided by the swap's own worker
abbrev MayTake : SwapMemory → ℕ → Act → ℕ → Type 0
MayTake old w (Load a v) s = Unit {0}
MayTake old w (Store a v) s = swap_address s ≡ a → (v ≢ 0) × IsTaking old w s (Store a v)
MayTake old w (Cas a before after found) s = swap_address s ≡ a → (before ≢ 0) × (after ≢ 0)
MayTake old w (Ask line) s = Unit {0}
MayTake old w Fence s = Unit {0}

store-takes : (old : SwapMemory) (w a v s : ℕ) → s < old.swaps → StoresPrivate old w a v ⊎ StoresOwn old w a v → MayTake old w (Store a v) s
store-takes old w a v s lt (inl private) here = absurd (status-inside old.swaps a s private.outside lt here)
store-takes old w a v s lt (inr own) here = by_word own.word
  where
    by_word : ((a ≡ swap_address own.swap) × (v ≡ status_word Undecided)) ⊎ StoresField own.swap a v → (v ≢ 0) × IsTaking old w s (Store a v)
    by_word (inl status) =
        let same : own.swap ≡ s = omega (arith, here, status.0) in
        (omega (arith, status.1), record { doing = rw same at own.doing; begun = omega (arith, own.begun, same); act = λ i. Store (sym here i) (status.1 i) })
    by_word (inr field) = absurd (omega (arith, here, field.address, field.below))

cas-takes : (old : SwapMemory) (w a before after found s : ℕ) → s < old.swaps → IsOutside old.swaps a ⊎ ChangesStatus old a before after → MayTake old w (Cas a before after found) s
cas-takes old w a before after found s lt (inl out) here = absurd (status-inside old.swaps a s out lt here)
cas-takes old w a before after found s lt (inr change) here = change.taken

may-take : (old : SwapMemory) (w : ℕ) (made : Act) (s : ℕ) → s < old.swaps → WritesLawfully old w made → MayTake old w made s
may-take old w (Load a v) s lt writes = tt
may-take old w (Store a v) s lt writes = store-takes old w a v s lt (writes.stores a v refl)
may-take old w (Cas a before after found) s lt writes = cas-takes old w a before after found s lt (writes.swaps a before after found refl)
may-take old w (Ask line) s lt writes = tt
may-take old w Fence s lt writes = tt

-- the status after such an act
stays-after : (old : SwapMemory) (w : ℕ) (made : Act) (s : ℕ) → MayTake old w made s → IsTaken old s → slice_index (after_act w (memory_state old) made).words.cached (swap_address s) ≢ 0
stays-after old w (Load a v) s may taken = taken
stays-after old w (Store a v) s may taken = set-some old.cached a v (swap_address s) (λ here. (may here).0) taken
stays-after old w (Cas a before after found) s may taken = by_test (slice_index old.cached a == before)
  where
    by_test : (t : Bool) → slice_index (if t then slice_set old.cached a after else old.cached) (swap_address s) ≢ 0
    by_test true = set-some old.cached a after (swap_address s) (λ here. (may here).1) taken
    by_test false = taken
stays-after old w (Ask line) s may taken = taken
stays-after old w Fence s may taken = taken

-- and how it came to be, where it was free
begins-by : (old : SwapMemory) (w : ℕ) (made : Act) (s : ℕ) → MayTake old w made s → slice_index old.cached (swap_address s) ≡ 0
    → slice_index (after_act w (memory_state old) made).words.cached (swap_address s) ≢ 0 → IsTaking old w s made
begins-by old w (Load a v) s may free now = absurd (now free)
begins-by old w (Store a v) s may free now = elim (cases_eq (swap_address s) a) [
  | inl here ↦ (may here).1
  | inr there ↦ absurd (now (set-other old.cached a v (swap_address s) there ∙ free))
]
begins-by old w (Cas a before after found) s may free now = elim (cases_eq (swap_address s) a) [
  | inl here ↦ absurd (now (unchanged (slice_index old.cached a == before) (test here)))
  | inr there ↦ absurd (now (elsewhere (slice_index old.cached a == before) there))
]
  where
    test : swap_address s ≡ a → (slice_index old.cached a == before) ≡ false
    test here = (let zero : slice_index old.cached a ≡ 0 = rw (← here) free in let some : before ≢ 0 = (may here).0 in grind (arith, common_steps))

    unchanged : (t : Bool) → t ≡ false → slice_index (if t then slice_set old.cached a after else old.cached) (swap_address s) ≡ 0
    unchanged true is = absurd cc
    unchanged false is = free

    elsewhere : (t : Bool) → swap_address s ≢ a → slice_index (if t then slice_set old.cached a after else old.cached) (swap_address s) ≡ 0
    elsewhere true there = set-other old.cached a after (swap_address s) there ∙ free
    elsewhere false there = free
begins-by old w (Ask line) s may free now = absurd (now free)
begins-by old w Fence s may free now = absurd (now free)

pub taken_statuses_stay : TakenStatusesStay
taken_statuses_stay = record {
  stays = λ old new w made done told s step lt taken is.
      stays-after old w made s (may-take old w made s lt step.writes) taken (ap (λ (m : State). slice_index m.words.cached (swap_address s)) (sym step.one.act.after) ∙ is);
  begins = λ old new w made done told s step lt free now.
      begins-by old w made s (may-take old w made s lt step.writes) free (λ is. now (ap (λ (m : State). slice_index m.words.cached (swap_address s)) step.one.act.after ∙ is));
}
