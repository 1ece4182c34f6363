-- The effect of a call's swap makes its change of the ring, and no other; and what reads tell.
use Rattle.std.proofs.Common.{◌≡◌, ◌≢◌, inl, inr, ℕ, zero, suc, ◌+◌, ◌==◌, ◌||◌, Bool, true, false, List, [], ◌∷◌, get_or, slice_index, refl, sym, ap, ◌∙◌, subst, arith, Some}
use Rattle.std.specs.Prelude.{All}
use Rattle.std.proofs.lemmas.Bool.{cases_Bool, ne_eqb}
use Rattle.bz_word.specs.declared.entry.Entry.{Entry}
use Rattle.bz_swap_cells.specs.Store.{IsOutside, is_outside}
use Rattle.bz_swap_cells.proofs.Places.{told-outside}
use Rattle.bz_swap_machine.specs.declared.done.Done.TheVariants.{Read}
use Rattle.bz_swap.specs.Atomic.{value_of, Effect, Happens, Answers}
use Rattle.bz_swap.specs.Held.{IsHeld}
use Rattle.bz_swap.specs.Steps.{IsAnswer}
use Rattle.bz_swap.specs.SwapMemory.{SwapMemory, Doing, value_at, is_target, is_among, is_named, is_settled_at, entries_of}
use Rattle.bz_swap.proofs.Proved.{access_is_atomic, settled_words_stay}
use Rattle.bz_ring.specs.declared.calls.QCall.{QCall}
use Rattle.bz_ring.specs.declared.calls.QCall.TheVariants as call
use Rattle.bz_ring.specs.declared.ring.Ring.{Ring}
use Rattle.bz_ring.specs.declared.ring.TheConstants.{HEAD_AT, TAIL_AT}
use Rattle.bz_ring.specs.Content.{cell_of}
use Rattle.bz_change.specs.Changes as change
use Rattle.bz_change.specs.Laws.{IsCalm, EffectsChange, ReadsTell}
use Rattle.bz_change.specs.Values.{MakesChange, IsSwapOf, IsChanged}
use Rattle.bz_change.proofs.Settling.{inside-none, shown-value, settled-still}

or_right : (x y : Bool) → y ≡ true → (x || y) ≡ true
or_right true y is = refl
or_right false y is = is

or_left : (x y : Bool) → x ≡ true → (x || y) ≡ true
or_left true y is = refl
or_left false y is = absurd (cc)

or_neither : (x y : Bool) → x ≡ false → y ≡ false → (x || y) ≡ false
or_neither true y first second = absurd (cc)
or_neither false y first second = second

-- a target of a swap that was begun is a named address
among : (begun : List (List Entry)) (s a : ℕ) → is_target (get_or begun s []) a ≡ true → is_among begun a ≡ true
among [] s a is = absurd (cc)
among (entries ∷ begun) zero a is = or_left (is_target entries a) (is_among begun a) is
among (entries ∷ begun) (suc s) a is = or_right (is_target entries a) (is_among begun a) (among begun s a is)

-- a private word is no target of a swap that was begun
untargeted : (old : SwapMemory) (s a : ℕ) → is_named old a ≡ false → is_target (entries_of old s) a ≡ false
untargeted old s a none = elim (cases_Bool (is_target (entries_of old s) a)) [
  | inl target ↦ (let both : true ≡ false = sym (among old.begun s a target) ∙ none in absurd (cc))
  | inr other ↦ other
]

-- the effect of a swap of two words
record ChangesTwo (old new : SwapMemory) (first second : Entry) : Type 0 where
  first_before : value_at old first.target ≡ first.expected
  second_before : value_at old second.target ≡ second.expected
  first_after : value_at new first.target ≡ first.new
  second_after : value_at new second.target ≡ second.new
  others : (a : ℕ) → a ≢ first.target → a ≢ second.target → value_at new a ≡ value_at old a

two-changed : (old new : SwapMemory) (s : ℕ) (first second : Entry) → IsCalm old → IsCalm new → new.swaps ≡ old.swaps → Happens old (Effect s) new → entries_of old s ≡ first ∷ second ∷ []
    → IsOutside old.swaps first.target → IsOutside old.swaps second.target → ChangesTwo old new first second
two-changed old new s first second calm now swaps h entries one two =
    let before = subst (λ (all : List Entry). All (λ (e : Entry). value_of old e.target ≡ e.expected) all) entries h.changed.1 in
    let after = subst (λ (all : List Entry). All (λ (e : Entry). value_of new e.target ≡ e.new) all) entries h.changed.2 in
    record {
      first_before = sym (shown-value old first.target calm one) ∙ before 0 first (omega arith);
      second_before = sym (shown-value old second.target calm two) ∙ before 1 first (omega arith);
      first_after = sym (shown-value new first.target now (subst (λ (k : ℕ). IsOutside k first.target) (sym swaps) one)) ∙ after 0 first (omega arith);
      second_after = sym (shown-value new second.target now (subst (λ (k : ℕ). IsOutside k second.target) (sym swaps) two)) ∙ after 1 first (omega arith);
      others = λ a not_first not_second.
          let other : is_target (entries_of old s) a ≡ false =
          ap (λ (all : List Entry). is_target all a) entries
          ∙ or_neither (first.target == a) ((second.target == a) || false) (ne_eqb first.target a (λ same. not_first (sym same)))
          (or_neither (second.target == a) false (ne_eqb second.target a (λ same. not_second (sym same))) refl) in
          elim (cases_Bool (is_outside old.swaps a)) [
            | inl there ↦
                let outside = told-outside old.swaps a there in
                sym (shown-value new a now (subst (λ (k : ℕ). IsOutside k a) (sym swaps) outside)) ∙ h.others a outside other ∙ shown-value old a calm outside
            | inr within ↦ inside-none new a (ap (λ (k : ℕ). is_outside k a) swaps ∙ within) ∙ sym (inside-none old a within)
          ];
    }

-- what that is to the ring
made-change : (r : Ring) (old new : SwapMemory) (called : QCall) (counter word : ℕ)
    → ChangesTwo old new (record { target = change.counter_of called; expected = counter; new = counter + 1 }) (record { target = cell_of r counter; expected = word; new = change.word_after called })
    → MakesChange r called (value_at old) (value_at new)
made-change r old new (call.Put item) counter word c =
    let cell : cell_of r (value_at old TAIL_AT) ≡ cell_of r counter = ap (cell_of r) c.first_before in
    record {
      tail = c.first_after ∙ ap (λ (k : ℕ). k + 1) (sym c.first_before);
      cell = ap (value_at new) cell ∙ c.second_after;
      others = λ a not_tail not_cell. c.others a not_tail (λ same. not_cell (same ∙ sym cell));
    }
made-change r old new call.Take counter word c =
    let cell : cell_of r (value_at old HEAD_AT) ≡ cell_of r counter = ap (cell_of r) c.first_before in
    record {
      head = c.first_after ∙ ap (λ (k : ℕ). k + 1) (sym c.first_before);
      cell = ap (value_at new) cell ∙ c.second_after;
      others = λ a not_head not_cell. c.others a not_head (λ same. not_cell (same ∙ sym cell));
    }

counter-outside : (swaps : ℕ) (called : QCall) → IsOutside swaps (change.counter_of called)
counter-outside swaps (call.Put item) = inl (omega arith)
counter-outside swaps call.Take = inl (omega arith)

cell-outside : (r : Ring) (counter : ℕ) → IsOutside r.swaps (cell_of r counter)
cell-outside r counter = inr (omega arith)

effect-calm : (r : Ring) (old new : SwapMemory) (s : ℕ) (called : QCall) (counter word : ℕ) → IsCalm old → IsHeld new → new.phase ≡ old.phase → new.swaps ≡ old.swaps → new.begun ≡ old.begun → Happens old (Effect s) new
    → ((a : ℕ) → slice_index new.cached a ≡ slice_index old.cached a → is_settled_at old a ≡ true → is_settled_at new a ≡ true) → IsSwapOf r old s called counter word → IsCalm new × IsChanged r old new called counter word
effect-calm r old new s called counter word calm held phase swaps begun h stays is =
    let now : IsCalm new = record { phase = λ same. calm.phase (sym phase ∙ same); held = held; settled = settled-still old new (Effect s) calm phase swaps begun h (untargeted old s) stays } in
    let two = two-changed old new s (record { target = change.counter_of called; expected = counter; new = counter + 1 }) (record { target = cell_of r counter; expected = word; new = change.word_after called })
    calm now swaps h is.entries (counter-outside old.swaps called) (subst (λ (k : ℕ). IsOutside k (cell_of r counter)) (sym is.swaps) (cell-outside r counter)) in (
      now,
      record { at_counter = two.first_before; at_cell = two.second_before; changes = made-change r old new called counter word two },
    )

pub effects_change : EffectsChange
effects_change = record {
  step = λ r old new w made done s called counter word calm held step is.
      let atomic = access_is_atomic.step old new w made done (Some s) calm.phase calm.held held step in
      effect-calm r old new s called counter word calm held step.one.others.phase step.one.others.swaps step.one.others.begun atomic.happens (λ b. settled_words_stay.step old new w made done (Some s) b step) is;
  eviction = λ r old new a s called counter word calm held eviction is.
      effect-calm r old new s called counter word calm held (ap (λ (m : SwapMemory). m.phase) eviction.is) (ap (λ (m : SwapMemory). m.swaps) eviction.is) (ap (λ (m : SwapMemory). m.begun) eviction.is)
      (access_is_atomic.eviction old new a (Some s) calm.phase calm.held held eviction) (λ b word. settled_words_stay.eviction old new a (Some s) b eviction) is;
}

pub reads_tell : ReadsTell
reads_tell old new w a v made told calm now outside step doing =
    let atomic = access_is_atomic.step old new w made (Read v) told calm.phase calm.held now.held step in
    let answer = subst (λ (it : Doing). Answers old w new it (Read v)) doing atomic.answer in
    let load = subst (λ (it : Doing). IsAnswer new it made (Read v)) doing step.one.answer in
    (load.load, sym (shown-value new a now (subst (λ (k : ℕ). IsOutside k a) (sym step.one.others.swaps) outside)) ∙ answer)
