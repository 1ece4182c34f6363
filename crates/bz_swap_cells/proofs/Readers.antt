-- What the readers say of words of which some were taken from elsewhere.
use Rattle.std.specs.Prelude.{◌≡◌, if◌then◌else◌, ℕ, ◌<◌, Bool, true, false, nat_lt}
use Rattle.std.proofs.Common.{arith, refl, inl, inr}
use Rattle.std.proofs.lemmas.Grind.{common_steps}
use Rattle.std.proofs.lemmas.Bool.{cases_lt}
use Rattle.bz_word.specs.Kinds.{kind}
use Rattle.bz_word.specs.declared.kind.WordKind.{WordKind}
use Rattle.bz_word.specs.declared.kind.WordKind.TheVariants.{Value}
use Rattle.bz_layout.specs.Addresses.{swap_address}
use Rattle.bz_swap_machine.specs.declared.status.SwapStatus.{SwapStatus}
use Rattle.bz_swap_machine.specs.declared.status.SwapStatus.TheVariants.{Free}
use Rattle.bz_swap_cells.specs.Store.{is_outside, status_of, field_address, field_count}

-- the readers over a function from addresses
abbrev pub kind_in : ℕ → (ℕ → ℕ) → ℕ → WordKind
kind_in swaps word a = if is_outside swaps a then kind (word a) else Value 0

abbrev pub status_in : ℕ → (ℕ → ℕ) → ℕ → SwapStatus
status_in swaps word s = if nat_lt s swaps then status_of (word (swap_address s)) else Free

abbrev pub field_in : ℕ → (ℕ → ℕ) → ℕ → ℕ → ℕ
field_in swaps word s k = if nat_lt s swaps then if nat_lt k field_count then word (field_address s k) else 0 else 0

-- words taken from the first function where the test holds, and from the second elsewhere
abbrev pub AreChosen : (ℕ → Bool) → (ℕ → ℕ) → (ℕ → ℕ) → (ℕ → ℕ) → Type 0
AreChosen p from to into = (a : ℕ) → into a ≡ (if p a then from a else to a)

choose : {A : Type 0} (f : ℕ → A) (z : A) (o t : Bool) (x y : ℕ) → (if o then f (if t then x else y) else z) ≡ (if t then (if o then f x else z) else (if o then f y else z))
choose f z true true x y = refl
choose f z true false x y = refl
choose f z false true x y = refl
choose f z false false x y = refl

pub kind-chosen : (swaps : ℕ) (p : ℕ → Bool) (from to into : ℕ → ℕ) → AreChosen p from to into → (a : ℕ) → kind_in swaps into a ≡ (if p a then kind_in swaps from a else kind_in swaps to a)
kind-chosen swaps p from to into h a = rw (h a) (choose kind (Value 0) (is_outside swaps a) (p a) (from a) (to a))

pub status-chosen : (swaps : ℕ) (p : ℕ → Bool) (from to into : ℕ → ℕ) → AreChosen p from to into → (s : ℕ) → status_in swaps into s ≡ (if p (swap_address s) then status_in swaps from s else status_in swaps to s)
status-chosen swaps p from to into h s = rw (h (swap_address s)) (choose status_of Free (nat_lt s swaps) (p (swap_address s)) (from (swap_address s)) (to (swap_address s)))

choose_field : (o r t : Bool) (x y : ℕ) → (if o then if r then (if t then x else y) else 0 else 0) ≡ (if t then (if o then if r then x else 0 else 0) else (if o then if r then y else 0 else 0))
choose_field true true true x y = refl
choose_field true true false x y = refl
choose_field true false true x y = refl
choose_field true false false x y = refl
choose_field false r true x y = refl
choose_field false r false x y = refl

pub field-chosen : (swaps : ℕ) (p : ℕ → Bool) (from to into : ℕ → ℕ) → AreChosen p from to into → (s k : ℕ) → field_in swaps into s k ≡ (if p (field_address s k) then field_in swaps from s k else field_in swaps to s k)
field-chosen swaps p from to into h s k = rw (h (field_address s k)) (choose_field (nat_lt s swaps) (nat_lt k field_count) (p (field_address s k)) (from (field_address s k)) (to (field_address s k)))

-- a reader stays where no word that it reads is taken
pub kind-stays : (swaps : ℕ) (p : ℕ → Bool) (from to into : ℕ → ℕ) → AreChosen p from to into → (a : ℕ) → (is_outside swaps a ≡ true → p a ≡ false) → kind_in swaps into a ≡ kind_in swaps to a
kind-stays swaps p from to into h a none = by_cases (is_outside swaps a) refl
  where
    by_cases : (o : Bool) → is_outside swaps a ≡ o → kind_in swaps into a ≡ kind_in swaps to a
    by_cases true e = rw (h a, none e) refl
    by_cases false e = rw e refl

pub status-stays : (swaps : ℕ) (p : ℕ → Bool) (from to into : ℕ → ℕ) → AreChosen p from to into → (s : ℕ) → (s < swaps → p (swap_address s) ≡ false) → status_in swaps into s ≡ status_in swaps to s
status-stays swaps p from to into h s none = elim (cases_lt s swaps) [
  | inl lt ↦ rw (h (swap_address s), none lt) refl
  | inr ge ↦ grind (arith, common_steps)
]

pub field-stays : (swaps : ℕ) (p : ℕ → Bool) (from to into : ℕ → ℕ) → AreChosen p from to into → (s k : ℕ) → (s < swaps → k < field_count → p (field_address s k) ≡ false) → field_in swaps into s k ≡ field_in swaps to s k
field-stays swaps p from to into h s k none = elim (cases_lt s swaps) [
  | inl lt ↦ elim (cases_lt k field_count) [
    | inl less ↦ rw (h (field_address s k), none lt less) refl
    | inr more ↦ grind (arith, common_steps)
  ]
  | inr ge ↦ grind (arith, common_steps)
]
