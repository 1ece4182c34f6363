-- A queue's swap memory stays sweepable.
use Rattle.std.proofs.Common.{◌≡◌, ◌≢◌, ◌<◌, ◌^◌, ◌==◌, inl, inr, ℕ, zero, suc, false, List, [], ◌∷◌, ◌++◌, get_or, slice_index, refl, sym, ap, subst, ◌∙◌, arith, Option}
use Rattle.std.specs.Prelude.{All}
use Rattle.std.proofs.lemmas.Bool.{cases_eq}
use Rattle.std.proofs.lemmas.Bool.Decides.{nat_tests}
use Rattle.bz_layout.specs.declared.sizes.TheConstants.{SUPERBLOCK_WORDS}
use Rattle.bz_word.specs.declared.entry.Entry.{Entry}
use Rattle.bz_swap_acts.specs.declared.acted.Act.{Act}
use Rattle.bz_swap_machine.specs.declared.done.Done.{Done}
use Rattle.bz_swap_cells.specs.Store.{field_address}
use Rattle.bz_swap.specs.declared.phase.Phase.{Phase}
use Rattle.bz_swap.specs.Evictions.{IsEviction}
use Rattle.bz_swap.specs.Held.{IsHeld}
use Rattle.bz_swap.specs.Power.{opened}
use Rattle.bz_swap.specs.Starts.{started, swapping}
use Rattle.bz_swap.specs.Steps.{IsStep}
use Rattle.bz_swap.specs.SwapMemory.{SwapMemory, Doing, entries_of, is_among, is_target}
use Rattle.bz_swap.proofs.Proved.{plain_fields_stay}
use Rattle.bz_ring.specs.declared.calls.QCall.{QCall}
use Rattle.bz_ring.specs.declared.calls.QCall.TheVariants as call
use Rattle.bz_ring.specs.declared.ring.Ring.{Ring}
use Rattle.bz_ring.specs.declared.ring.TheConstants.{HEAD_AT, TAIL_AT}
use Rattle.bz_change.specs.Changes as change
use Rattle.bz_queue.specs.Inside.Sweepable.{IsNamable, IsSweepable}

-- the targets of an entry list may be named
abbrev pub AreNamable : ℕ → List Entry → Type 0
AreNamable swaps entries = All (λ (e : Entry). IsNamable swaps e.target) entries

-- with the same swaps begun
targets-still : (old new : SwapMemory) → new.swaps ≡ old.swaps → new.begun ≡ old.begun → ((s : ℕ) → AreNamable old.swaps (entries_of old s)) → (s : ℕ) → AreNamable new.swaps (entries_of new s)
targets-still old new swaps begun h s = subst (λ (all : List (List Entry)). AreNamable new.swaps (get_or all s [])) (sym begun) (subst (λ (n : ℕ). AreNamable n (entries_of old s)) (sym swaps) (h s))

pub sweepable-step : (old new : SwapMemory) (w : ℕ) (made : Act) (done : Done) (told : Option ℕ) → IsHeld old → IsStep old w made done told new → IsSweepable old → IsSweepable new
sweepable-step old new w made done told held step k = record {
  fields = plain_fields_stay.step old new w made done told held.memory step k.fields;
  targets = targets-still old new step.one.others.swaps step.one.others.begun k.targets;
}

pub sweepable-eviction : (old new : SwapMemory) (a : ℕ) (told : Option ℕ) → IsEviction old a told new → IsSweepable old → IsSweepable new
sweepable-eviction old new a told e k = record {
  fields = plain_fields_stay.eviction old new a told e k.fields;
  targets = targets-still old new (ap (λ (m : SwapMemory). m.swaps) e.is) (ap (λ (m : SwapMemory). m.begun) e.is) k.targets;
}

pub sweepable-start : (m : SwapMemory) (w : ℕ) (doing : Doing) → IsSweepable m → IsSweepable (started m w doing)
sweepable-start m w doing k = record { fields = plain_fields_stay.start m w doing k.fields; targets = k.targets }

none-named : (swaps : ℕ) (entries : List Entry) → entries ≡ [] → AreNamable swaps entries
none-named swaps entries none = subst (AreNamable swaps) (sym none) (λ k d within. absurd (omega arith))

-- one swap more
appended-targets : (swaps : ℕ) (begun : List (List Entry)) (entries : List Entry) → ((s : ℕ) → AreNamable swaps (get_or begun s [])) → AreNamable swaps entries → (s : ℕ) → AreNamable swaps (get_or (begun ++ entries ∷ []) s [])
appended-targets swaps [] entries h new zero = new
appended-targets swaps [] entries h new (suc s) = none-named swaps (get_or (entries ∷ []) (suc s) []) refl
appended-targets swaps (first ∷ begun) entries h new zero = h zero
appended-targets swaps (first ∷ begun) entries h new (suc s) = appended-targets swaps begun entries (λ t. h (suc t)) new s

pub sweepable-swap : (m : SwapMemory) (w : ℕ) (entries : List Entry) → AreNamable m.swaps entries → IsSweepable m → IsSweepable (swapping m w entries)
sweepable-swap m w entries new k = record {
  fields = plain_fields_stay.swap m w entries k.fields;
  targets = appended-targets m.swaps m.begun entries k.targets new;
}

pub sweepable-opening : (phase : Phase) (start : List ℕ) (swaps workers : ℕ) → ((a : ℕ) → slice_index start a < 2 ^ 61) → IsSweepable (opened phase start swaps workers)
sweepable-opening phase start swaps workers plain = record {
  fields = plain_fields_stay.opening phase start swaps workers (λ s k within inside. plain (field_address s k));
  targets = λ s. none-named swaps (get_or [] s []) refl;
}

-- a call's swap names its counter and a cell
namable-counter : (swaps : ℕ) (called : QCall) → IsNamable swaps (change.counter_of called)
namable-counter swaps (call.Put item) = inr (inl refl)
namable-counter swaps call.Take = inl refl

two-named : (swaps : ℕ) (first second : Entry) → IsNamable swaps first.target → IsNamable swaps second.target → AreNamable swaps (first ∷ second ∷ [])
two-named swaps first second one two zero d within = one
two-named swaps first second one two (suc zero) d within = two
two-named swaps first second one two (suc (suc k)) d within = absurd (omega arith)

pub calls-name : (r : Ring) (swaps : ℕ) (called : QCall) (counter word : ℕ) → swaps ≡ r.swaps → AreNamable swaps (change.entries_of r called counter word)
calls-name r swaps called counter word same = two-named swaps _ _ (namable-counter swaps called) (inr (inr (omega (arith, same))))

-- a word that may not be named is no target
not-target : (swaps : ℕ) (entries : List Entry) (a : ℕ) → AreNamable swaps entries → a < SUPERBLOCK_WORDS → a ≢ HEAD_AT → a ≢ TAIL_AT → is_target entries a ≡ false
not-target swaps [] a names low head tail = refl
not-target swaps (e ∷ entries) a names low head tail =
    let other : (e.target == a) ≡ false = elim (cases_eq e.target a) [
      | inl same ↦ absurd (elim (names zero e (omega arith)) [
        | inl is ↦ head (sym same ∙ is)
        | inr more ↦ elim more [ inl is ↦ tail (sym same ∙ is) | inr high ↦ omega (arith, high, same, low) ]
      ])
      | inr differs ↦ grind (arith, nat_tests)
    ] in
    rw other (not-target swaps entries a (λ k d within. names (suc k) d (omega (arith, within))) low head tail)

none-among : (swaps : ℕ) (begun : List (List Entry)) (a : ℕ) → ((s : ℕ) → AreNamable swaps (get_or begun s [])) → a < SUPERBLOCK_WORDS → a ≢ HEAD_AT → a ≢ TAIL_AT → is_among begun a ≡ false
none-among swaps [] a names low head tail = refl
none-among swaps (entries ∷ begun) a names low head tail =
    let here : is_target entries a ≡ false = not-target swaps entries a (names zero) low head tail in
    rw here (none-among swaps begun a (λ s. names (suc s)) low head tail)

pub unnamed : (m : SwapMemory) (a : ℕ) → IsSweepable m → a < SUPERBLOCK_WORDS → a ≢ HEAD_AT → a ≢ TAIL_AT → is_among m.begun a ≡ false
unnamed m a k low head tail = none-among m.swaps m.begun a k.targets low head tail
