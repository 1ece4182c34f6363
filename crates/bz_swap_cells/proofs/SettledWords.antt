-- A settled word alone may last.
use Rattle.std.specs.Prelude.{◌≡◌, if◌then◌else◌, ◌==◌, ◌&&◌, ℕ, zero, suc, ◌/◌, ◌%◌, ◌<◌, Bool, true, false, nat_lt, List, [], ◌∷◌, slice_index, get_or, Some, None}
use Rattle.std.specs.declared.option.Option.{Option}
use Rattle.std.proofs.Common.{arith, refl, sym, ap, ◌∙◌, inl, inr}
use Rattle.std.proofs.lemmas.Bool.{cases_lt}
use Rattle.std.proofs.lemmas.Grind.{common_steps}
use Rattle.bz_word.specs.Kinds.{kind}
use Rattle.bz_word.specs.declared.kind.WordKind.{WordKind}
use Rattle.bz_word.specs.declared.kind.WordKind.TheVariants.{Value}
use Rattle.bz_pm.specs.State.{ask_for}
use Rattle.bz_pm.specs.declared.asks.Ask.{Ask}
use Rattle.bz_swap_machine.specs.Machine.{MayLast}
use Rattle.bz_swap_machine.specs.Pending.{Saved, no_asks, IsLast, IsDurable, IsAsked}
use Rattle.bz_swap_machine.proofs.Lasting.{lasts-cases}
use Rattle.bz_swap_cells.specs.Store.{Store, Past, Beside, IsOutside, is_outside, typed, kind_at, saved_word, saved_as, pending_as, word_pending, saves_word, all_save, is_settled}
use Rattle.bz_swap_cells.proofs.Places.{outside-told}

first-true : (a b : Bool) → (a && b) ≡ true → a ≡ true
first-true true b e = refl
first-true false b e = absurd (cc)

second-true : (a b : Bool) → (a && b) ≡ true → b ≡ true
second-true true b e = e
second-true false b e = absurd (cc)

-- so it is of each worker
pub each-saves : (word since a : ℕ) (asks : List (List Ask)) (w : ℕ) → all_save word since a asks ≡ true → saves_word word since (a % 8) (ask_for (get_or asks w []) (a / 8)) ≡ true
each-saves word since a [] w e = refl
each-saves word since a (qs ∷ asks) zero e = first-true _ _ e
each-saves word since a (qs ∷ asks) (suc w) e = each-saves word since a asks w (second-true (saves_word word since (a % 8) (ask_for qs (a / 8))) _ e)

both-true : (a b : Bool) → a ≡ true → b ≡ true → (a && b) ≡ true
both-true a b e f = rw (e, f) refl

-- and where it is of each, it is of all
pub all-save : (word since a : ℕ) (asks : List (List Ask)) → ((w : ℕ) → saves_word word since (a % 8) (ask_for (get_or asks w []) (a / 8)) ≡ true) → all_save word since a asks ≡ true
all-save word since a [] each = refl
all-save word since a (qs ∷ asks) each = both-true _ _ (each 0) (all-save word since a asks (λ w. each (suc w)))

-- what is settled has the same word in the caches and in the memory itself
pub settled-same : (cached durable : List ℕ) (st : Store) (a : ℕ) → is_settled cached durable st.past a ≡ true → slice_index cached a ≡ slice_index durable a
settled-same cached durable st a e = grind (arith, common_steps, first-true (slice_index cached a == slice_index durable a) _ e)

some-saved : {A : Type 0} (q r : Saved A) → Some q ≡ Some r → q ≡ r
some-saved q r e = cc

none-saved : {A : Type 0} (q : Saved A) → None ≡ Some q → ⊥
none-saved q e = cc

-- a later ask saved the word
saved-value : (word since place : ℕ) (o : Option Ask) (q : Saved WordKind) → saves_word word since place o ≡ true → saved_as kind (saved_word o place) ≡ Some q → since < q.moment → q.value ≡ kind word
saved-value word since place None q saves e after = absurd (none-saved q e)
saved-value word since place (Some r) q saves e after =
    let same : record { moment = r.moment; value = kind (slice_index r.words place) } ≡ q = some-saved _ q e in
    let later : since < r.moment = rw (← same) at after in
    rw (← same) (ap kind (grind (arith, common_steps, saves, later)))

-- the same of the words as they are
saved-told : (word since place : ℕ) (o : Option Ask) (q : Saved ℕ) → saves_word word since place o ≡ true → saved_word o place ≡ Some q → since < q.moment → q.value ≡ word
saved-told word since place None q saves e after = absurd (cc)
saved-told word since place (Some r) q saves e after =
    let same : record { moment = r.moment; value = slice_index r.words place } ≡ q = cc in
    let later : since < r.moment = rw (← same) at after in
    rw (← same) (grind (arith, common_steps, saves, later))

pub settled-saves : (cached durable : List ℕ) (past : Past) (a : ℕ) → is_settled cached durable past a ≡ true → (v : ℕ) (q : Saved ℕ) → (word_pending past a).asked v ≡ Some q → slice_index past.since a < q.moment → q.value ≡ slice_index cached a
settled-saves cached durable past a settled v q e after =
    saved-told (slice_index cached a) (slice_index past.since a) (a % 8) (ask_for (get_or past.asks v []) (a / 8)) q
    (each-saves (slice_index cached a) (slice_index past.since a) a past.asks v (second-true (slice_index cached a == slice_index durable a) _ settled)) e after

-- and back
saved-saves : (word since place : ℕ) (o : Option Ask) → ((q : Saved ℕ) → saved_word o place ≡ Some q → since < q.moment → q.value ≡ word) → saves_word word since place o ≡ true
saved-saves word since place None all = refl
saved-saves word since place (Some r) all = elim (cases_lt since r.moment) [
  | inl later ↦ (let test : nat_lt since r.moment ≡ true = grind (arith, common_steps, later) in let is : slice_index r.words place ≡ word = all (record { moment = r.moment; value = slice_index r.words place }) refl later in rw (test, is) (grind (arith, common_steps)))
  | inr past ↦ (let test : nat_lt since r.moment ≡ false = grind (arith, common_steps, past) in rw test refl)
]

pub saves-settled : (cached durable : List ℕ) (past : Past) (a : ℕ) → slice_index cached a ≡ slice_index durable a → ((v : ℕ) (q : Saved ℕ) → (word_pending past a).asked v ≡ Some q → slice_index past.since a < q.moment → q.value ≡ slice_index cached a)
    → is_settled cached durable past a ≡ true
saves-settled cached durable past a same all =
    both-true (slice_index cached a == slice_index durable a) _ (grind (arith, common_steps, same))
    (all-save (slice_index cached a) (slice_index past.since a) a past.asks (λ w. saved-saves (slice_index cached a) (slice_index past.since a) (a % 8) (ask_for (get_or past.asks w []) (a / 8)) (all w)))

module _ (st : Store) (b : Beside) (a : ℕ) (out : IsOutside st.swaps a) (settled : is_settled st.cached st.durable st.past a ≡ true) where
  by-case : (y : WordKind) → IsLast (kind (slice_index st.durable a)) (pending_as kind (word_pending st.past a)) y → y ≡ kind (slice_index st.cached a)
  by-case y (IsDurable is) = is ∙ ap kind (sym (settled-same st.cached st.durable st a settled))
  by-case y (IsAsked w q asked after is) = is ∙ saved-value (slice_index st.cached a) (slice_index st.past.since a) (a % 8) (ask_for (get_or st.past.asks w []) (a / 8)) q
      (each-saves (slice_index st.cached a) (slice_index st.past.since a) a st.past.asks w (second-true (slice_index st.cached a == slice_index st.durable a) _ settled)) asked after

  outside-case : (o : Bool) → o ≡ true → (y : WordKind) → IsLast (if o then kind (slice_index st.durable a) else Value 0) (if o then pending_as kind (word_pending st.past a) else no_asks) y → y ≡ (if o then kind (slice_index st.cached a) else Value 0)
  outside-case true e y l = by-case y l
  outside-case false e y l = absurd (cc)

  pub settled-lasts : (y : WordKind) → MayLast (typed st b) a y → y ≡ kind_at st.swaps st.cached a
  settled-lasts y may = outside-case (is_outside st.swaps a) (outside-told st.swaps a out) y (lasts-cases _ _ _ may)
