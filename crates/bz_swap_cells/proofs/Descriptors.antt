-- What the words mean after a change of a descriptor.
use Rattle.std.specs.Prelude.{◌≡◌, ◌≢◌, if◌then◌else◌, ◌==◌, ℕ, ◌<◌, ◌≤◌, Bool, true, false, List, slice_index}
use Rattle.std.proofs.Common.{arith, refl, sym, ◌∙◌, inl, inr}
use Rattle.std.proofs.lemmas.Grind.{common_steps}
use Rattle.std.proofs.lemmas.Bool.{cases_lt, cases_eq}
use Rattle.bz_layout.specs.Addresses.{swap_address}
use Rattle.bz_swap_machine.specs.declared.status.SwapStatus.{SwapStatus}
use Rattle.bz_swap_machine.specs.declared.status.SwapStatus.TheVariants.{Free, Undecided, Deciding, Decided}
use Rattle.bz_swap_machine.specs.declared.status.Verdict.TheVariants.{Succeeded, Failed}
use Rattle.bz_swap_machine.specs.Changes.{put, with_status, with_field, with_durable_status, with_durable_fields}
use Rattle.bz_swap_machine.specs.Pending.{Pending}
use Rattle.bz_swap_cells.specs.Store.{Store, Beside, typed, status_word, status_of, field_address, field_count, word_pending}
use Rattle.bz_swap_cells.proofs.Readers.{AreChosen, status_in, field_in, kind-stays, status-chosen, status-stays, field-chosen, field-stays}
use Rattle.bz_swap_cells.proofs.Places.{differ, told-outside, status-not_outside, field-not_outside}
use Rattle.bz_swap_cells.proofs.Pendings.{AreDated, kind-undated, status-undated, field-undated, status-dated, field-dated}
use Rattle.bz_swap_cells.proofs.Typed.{same_memory}

pub same : (a : ℕ) → (a == a) ≡ true
same a = grind (arith, common_steps)

pub agree : (a b : ℕ) → a ≡ b → (a == b) ≡ true
agree a b e = grind (arith, common_steps)

pub turned : {a b : ℕ} → a ≢ b → b ≢ a
turned ne e = ne (sym e)

-- a function that is another one but for one value
put-one : {A : Type 0} (f : ℕ → A) (s : ℕ) (v : A) (g : ℕ → A) → g s ≡ v → ((t : ℕ) → t ≢ s → g t ≡ f t) → (t : ℕ) → g t ≡ put f s v t
put-one f s v g here there t = elim (cases_eq t s) [
  | inl e ↦ rw (e, same s) here
  | inr ne ↦ rw (differ t s ne) (there t ne)
]

put-row : (f : ℕ → ℕ → ℕ) (s : ℕ) (v : ℕ → ℕ) (g : ℕ → ℕ → ℕ) → ((k : ℕ) → g s k ≡ v k) → ((t k : ℕ) → t ≢ s → g t k ≡ f t k) → (t k : ℕ) → g t k ≡ put f s v t k
put-row f s v g here there t k = elim (cases_eq t s) [
  | inl e ↦ rw (e, same s) (here k)
  | inr ne ↦ rw (differ t s ne) (there t k ne)
]

-- a descriptor's words from the one function or from the other, by their numbers
row-told : (swaps s k : ℕ) (p q : ℕ → Bool) (from to into : ℕ → ℕ) → AreChosen p from to into → (k < field_count → p (field_address s k) ≡ q k)
    → field_in swaps into s k ≡ (if q k then field_in swaps from s k else field_in swaps to s k)
row-told swaps s k p q from to into h told = elim (cases_lt k field_count) [
  | inl less ↦ rw (← told less) (field-chosen swaps p from to into h s k)
  | inr more ↦ past (q k) (none into more) (none from more) (none to more)
]
  where
    none : (f : ℕ → ℕ) → field_count ≤ k → field_in swaps f s k ≡ 0
    none f more = grind (arith, common_steps)

    past : (t : Bool) {x y z : ℕ} → x ≡ 0 → y ≡ 0 → z ≡ 0 → x ≡ (if t then y else z)
    past true x y z = x ∙ sym y
    past false x y z = x ∙ sym z

pub status-word : (x : SwapStatus) → status_of (status_word x) ≡ x
unfolding status_of
status-word Free = refl
status-word Undecided = refl
status-word (Deciding Succeeded) = refl
status-word (Deciding Failed) = refl
status-word (Decided Succeeded) = refl
status-word (Decided Failed) = refl

status-status : (t s : ℕ) → t ≢ s → swap_address t ≢ swap_address s
status-status t s ne = omega arith

field-status : (t k s : ℕ) → k < field_count → field_address t k ≢ swap_address s
field-status t k s less = omega arith

field-field : (t j s k : ℕ) → j < field_count → k < field_count → t ≢ s → field_address t j ≢ field_address s k
field-field t j s k less fewer ne = omega arith

number-number : (s j k : ℕ) → j ≢ k → field_address s j ≢ field_address s k
number-number s j k ne = omega arith

-- tests on addresses, by the numbers of descriptors and words
pub status-told : (t s : ℕ) → (swap_address t == swap_address s) ≡ (t == s)
status-told t s = elim (cases_eq t s) [
  | inl e ↦ rw (e, same (swap_address s), same s) refl
  | inr ne ↦ rw (differ t s ne) (differ _ _ (status-status t s ne))
]

field-told : (t j s k : ℕ) → j < field_count → k < field_count → (field_address t j == field_address s k) ≡ (if t == s then j == k else false)
field-told t j s k less fewer = elim (cases_eq t s) [
  | inl e ↦ rw (e, same s) (elim (cases_eq j k) [
    | inl same_number ↦ rw (same_number, same (field_address s k), same k) refl
    | inr ne ↦ rw (differ j k ne) (differ _ _ (number-number s j k ne))
  ])
  | inr ne ↦ rw (differ t s ne) (differ _ _ (field-field t j s k less fewer ne))
]

-- a status is stored
pub typed-status : (st : Store) (b : Beside) (s : ℕ) (v : SwapStatus) (into : List ℕ) → s < st.swaps
    → AreChosen (λ c. c == swap_address s) (λ c. status_word v) (slice_index st.cached) (slice_index into)
    → typed (record st { cached = into; durable = st.durable }) b ≡ with_status (typed st b) s v
typed-status st b s v into lt h =
    same_memory _ _
    (λ a. kind-stays st.swaps p from (slice_index st.cached) (slice_index into) h a (λ told. differ _ _ (turned (status-not_outside st.swaps a s (told-outside st.swaps a told) lt))))
    (λ a. refl)
    (put-one (status_in st.swaps (slice_index st.cached)) s v (status_in st.swaps (slice_index into)) here
    (λ t ne. status-stays st.swaps p from (slice_index st.cached) (slice_index into) h t (λ less. differ _ _ (status-status t s ne))))
    (λ t. refl)
    (λ t k. field-stays st.swaps p from (slice_index st.cached) (slice_index into) h t k (λ less fewer. differ _ _ (field-status t k s fewer)))
    (λ t k. refl) refl (λ a. refl) (λ t. refl) (λ t k. refl) refl refl refl refl refl refl refl
  where
    p : ℕ → Bool
    p c = c == swap_address s

    from : ℕ → ℕ
    from c = status_word v

    word : slice_index into (swap_address s) ≡ status_word v
    word = h (swap_address s) ∙ rw (same (swap_address s)) refl

    here : status_in st.swaps (slice_index into) s ≡ v
    here = rw word (grind (arith, common_steps, status-word v, lt))

-- a word after the status is stored
pub typed-field : (st : Store) (b : Beside) (s k x : ℕ) (into : List ℕ) → s < st.swaps → k < field_count
    → AreChosen (λ c. c == field_address s k) (λ c. x) (slice_index st.cached) (slice_index into)
    → typed (record st { cached = into; durable = st.durable }) b ≡ with_field (typed st b) s k x
typed-field st b s k x into lt less h =
    same_memory _ _
    (λ a. kind-stays st.swaps p from old new h a (λ told. differ _ _ (turned (field-not_outside st.swaps a s k (told-outside st.swaps a told) lt less))))
    (λ a. refl)
    (λ t. status-stays st.swaps p from old new h t (λ below. differ _ _ (turned (field-status s k t less))))
    (λ t. refl)
    (put-row (field_in st.swaps old) s (put (field_in st.swaps old s) k x) (field_in st.swaps new)
    (put-one (field_in st.swaps old s) k x (field_in st.swaps new s) here
    (λ j ne. field-stays st.swaps p from old new h s j (λ below fewer. differ _ _ (number-number s j k ne))))
    (λ t j ne. field-stays st.swaps p from old new h t j (λ below fewer. differ _ _ (field-field t j s k fewer less ne))))
    (λ t j. refl) refl (λ a. refl) (λ t. refl) (λ t j. refl) refl refl refl refl refl refl refl
  where
    p : ℕ → Bool
    p c = c == field_address s k

    from : ℕ → ℕ
    from c = x

    old : ℕ → ℕ
    old = slice_index st.cached

    new : ℕ → ℕ
    new = slice_index into

    word : slice_index into (field_address s k) ≡ x
    word = h (field_address s k) ∙ rw (same (field_address s k)) refl

    here : field_in st.swaps new s k ≡ x
    here = rw word (grind (arith, common_steps, lt, less))

-- the status alone becomes durable
pub typed-status_alone : (st : Store) (b : Beside) (s : ℕ) (into dates : List ℕ) → s < st.swaps
    → AreChosen (λ c. c == swap_address s) (slice_index st.cached) (slice_index st.durable) (slice_index into)
    → AreDated (λ c. c == swap_address s) st.past.count (word_pending st.past) (word_pending (record st.past { since = dates }))
    → typed (record st { cached = st.cached; durable = into; past = record st.past { since = dates } }) b ≡ with_durable_status (typed st b) s
typed-status_alone st b s into dates lt h dated =
    same_memory _ _ (λ a. refl)
    (λ a. kind-stays st.swaps p from old new h a (λ told. differ _ _ (turned (status-not_outside st.swaps a s (told-outside st.swaps a told) lt))))
    (λ t. refl)
    (put-one (status_in st.swaps old) s (status_in st.swaps from s) (status_in st.swaps new) here
    (λ t ne. status-stays st.swaps p from old new h t (λ below. differ _ _ (status-status t s ne))))
    (λ t k. refl)
    (λ t k. field-stays st.swaps p from old new h t k (λ below fewer. differ _ _ (field-status t k s fewer)))
    refl
    (λ a. kind-undated st.swaps p st.past.count was is dated a (λ told. differ _ _ (turned (status-not_outside st.swaps a s (told-outside st.swaps a told) lt))))
    (λ t. status-dated st.swaps p st.past.count was is dated s t lt (λ below. status-told t s))
    (λ t k. field-undated st.swaps p st.past.count was is dated t k (λ below fewer. differ _ _ (field-status t k s fewer)))
    refl refl refl refl refl refl refl
  where
    p : ℕ → Bool
    p c = c == swap_address s

    from : ℕ → ℕ
    from = slice_index st.cached

    old : ℕ → ℕ
    old = slice_index st.durable

    new : ℕ → ℕ
    new = slice_index into

    was : ℕ → Pending ℕ
    was = word_pending st.past

    is : ℕ → Pending ℕ
    is = word_pending (record st.past { since = dates })

    here : status_in st.swaps new s ≡ status_in st.swaps from s
    here = status-chosen st.swaps p from old new h s ∙ rw (same (swap_address s)) refl

-- one word after the status becomes durable
pub typed-field_alone : (st : Store) (b : Beside) (s k : ℕ) (into dates : List ℕ) → s < st.swaps → k < field_count
    → AreChosen (λ c. c == field_address s k) (slice_index st.cached) (slice_index st.durable) (slice_index into)
    → AreDated (λ c. c == field_address s k) st.past.count (word_pending st.past) (word_pending (record st.past { since = dates }))
    → typed (record st { cached = st.cached; durable = into; past = record st.past { since = dates } }) b ≡ with_durable_fields (typed st b) s (λ j. j == k)
typed-field_alone st b s k into dates lt less h dated =
    same_memory _ _ (λ a. refl)
    (λ a. kind-stays st.swaps p from old new h a (λ told. differ _ _ (turned (field-not_outside st.swaps a s k (told-outside st.swaps a told) lt less))))
    (λ t. refl)
    (λ t. status-stays st.swaps p from old new h t (λ below. differ _ _ (turned (field-status s k t less))))
    (λ t j. refl)
    (put-row (field_in st.swaps old) s (λ j. if j == k then field_in st.swaps from s j else field_in st.swaps old s j) (field_in st.swaps new)
    (λ j. row-told st.swaps s j p (λ i. i == k) from old new h (λ fewer. inside j))
    (λ t j ne. field-stays st.swaps p from old new h t j (λ below fewer. differ _ _ (field-field t j s k fewer less ne))))
    refl
    (λ a. kind-undated st.swaps p st.past.count was is dated a (λ told. differ _ _ (turned (field-not_outside st.swaps a s k (told-outside st.swaps a told) lt less))))
    (λ t. status-undated st.swaps p st.past.count was is dated t (λ below. differ _ _ (turned (field-status s k t less))))
    (λ t j. field-dated st.swaps p st.past.count was is dated s k t j lt less (λ below fewer. field-told t j s k fewer less))
    refl refl refl refl refl refl refl
  where
    p : ℕ → Bool
    p c = c == field_address s k

    from : ℕ → ℕ
    from = slice_index st.cached

    old : ℕ → ℕ
    old = slice_index st.durable

    new : ℕ → ℕ
    new = slice_index into

    was : ℕ → Pending ℕ
    was = word_pending st.past

    is : ℕ → Pending ℕ
    is = word_pending (record st.past { since = dates })

    inside : (j : ℕ) → p (field_address s j) ≡ (j == k)
    inside j = elim (cases_eq j k) [
      | inl e ↦ rw (e, same (field_address s k), same k) refl
      | inr ne ↦ rw (differ j k ne) (differ _ _ (number-number s j k ne))
    ]
