-- Lists of entries whose targets rise: what an insertion leaves.
use Rattle.std.specs.Prelude.{◌≡◌, ◌≢◌, ◌==◌, ◌||◌, nat_lt, ℕ, zero, suc, ◌+◌, ◌<◌, ◌≤◌, Bool, true, false, List, [], ◌∷◌, All, length, get_or, drop}
use Rattle.std.proofs.Common.{arith, refl, inl, inr}
use Rattle.std.proofs.lemmas.Bool.{cases_lt}
use Rattle.std.proofs.lemmas.Grind.{common_steps}
use Rattle.std.proofs.lemmas.List.Elements.{All-nil, All-cons, All-head, All-tail, All-weaker, All-get_or}
use Rattle.bz_word.specs.declared.entry.Entry.{Entry}
use Rattle.bz_swap.specs.EntryLists.{inserted, AreRising, IsEntryList}
use Rattle.bz_swap.specs.SwapMemory.{is_target}

pub below : (a b : ℕ) → a < b → nat_lt a b ≡ true
below a b less = grind (arith, common_steps)

pub not-below : (a b : ℕ) → b ≤ a → nat_lt a b ≡ false
not-below a b le = grind (arith, common_steps)

pub length-inserted : (a : Entry) (xs : List Entry) → length (inserted a xs) ≡ length xs + 1
length-inserted a [] = refl
length-inserted a (e ∷ xs) = elim (cases_lt a.target e.target) [
  | inl less ↦ rw (below a.target e.target less) (omega arith)
  | inr le ↦ (let n = length-inserted a xs in rw (not-below a.target e.target le) (omega (arith, n)))
]

pub All-inserted : (P : Entry → Type 0) (a : Entry) (xs : List Entry) → P a → All P xs → All P (inserted a xs)
All-inserted P a [] here all = All-cons P a [] here all
All-inserted P a (e ∷ xs) here all = elim (cases_lt a.target e.target) [
  | inl less ↦ rw (below a.target e.target less) (All-cons P a (e ∷ xs) here all)
  | inr le ↦ rw (not-below a.target e.target le) (All-cons P e (inserted a xs) (All-head P e xs all) (All-inserted P a xs here (All-tail P e xs all)))
]

not-first : (a b : ℕ) (rest : Bool) → ((a == b) || rest) ≡ false → a ≢ b
not-first a b rest is same = grind (arith, common_steps)

not-later : (a b : ℕ) (rest : Bool) → ((a == b) || rest) ≡ false → rest ≡ false
not-later a b false is = refl
not-later a b true is = grind (arith, common_steps)

-- an entry with a new target keeps the targets rising
pub rising-inserted : (a : Entry) (xs : List Entry) → is_target xs a.target ≡ false → AreRising xs → AreRising (inserted a xs)
rising-inserted a [] new rising = (All-nil _, tt)
rising-inserted a (e ∷ xs) new rising = elim (cases_lt a.target e.target) [
  | inl less ↦ rw (below a.target e.target less) (
    All-cons (λ (x : Entry). a.target < x.target) e xs less
        (All-weaker (λ (x : Entry). e.target < x.target) (λ (x : Entry). a.target < x.target) (λ x h. omega (arith, h, less)) xs rising.0),
    rising,
  )
  | inr le ↦ (let other = not-first e.target a.target _ new in
      rw (not-below a.target e.target le) (
        All-inserted (λ (x : Entry). e.target < x.target) a xs (omega (arith, le, other)) rising.0,
        rising-inserted a xs (not-later e.target a.target _ new) rising.1,
      ))
]

-- what an insertion makes a target
pub target-inserted : (a : Entry) (xs : List Entry) (b : ℕ) → is_target (inserted a xs) b ≡ ((a.target == b) || is_target xs b)
target-inserted a [] b = refl
target-inserted a (e ∷ xs) b = elim (cases_lt a.target e.target) [
  | inl less ↦ rw (below a.target e.target less) refl
  | inr le ↦ rw (not-below a.target e.target le, target-inserted a xs b) (swapped (e.target == b) (a.target == b) (is_target xs b))
]
  where
    swapped : (p q r : Bool) → (p || (q || r)) ≡ (q || (p || r))
    swapped true true r = refl
    swapped true false r = refl
    swapped false true r = refl
    swapped false false r = refl

pub rising-drop : (xs : List Entry) (i : ℕ) → AreRising xs → AreRising (drop i xs)
rising-drop xs zero rising = rising
rising-drop [] (suc i) rising = tt
rising-drop (e ∷ xs) (suc i) rising = rising-drop xs i rising.1

-- an entry below all others is inserted at the front
pub inserted-front : (e : Entry) (xs : List Entry) → AreRising (e ∷ xs) → inserted e xs ≡ e ∷ xs
inserted-front e [] rising = refl
inserted-front e (x ∷ xs) rising = rw (below e.target x.target (All-head (λ (y : Entry). e.target < y.target) x xs rising.0)) refl

-- a later target is greater
pub rising-apart : (xs : List Entry) (i j : ℕ) (d : Entry) → AreRising xs → i < j → j < length xs → (get_or xs i d).target < (get_or xs j d).target
rising-apart [] i j d rising less within = absurd (omega (arith, within))
rising-apart (e ∷ xs) i zero d rising less within = absurd (omega (arith, less))
rising-apart (e ∷ xs) zero (suc j) d rising less within = All-get_or (λ (x : Entry). e.target < x.target) xs j d (omega (arith, within)) rising.0
rising-apart (e ∷ xs) (suc i) (suc j) d rising less within = rising-apart xs i j d rising.1 (omega (arith, less)) (omega (arith, within))

-- an entry list with one more entry is one
pub list-inserted : (a : Entry) (xs : List Entry) → IsEntryList xs → length xs < 4 → is_target xs a.target ≡ false → IsEntryList (inserted a xs)
list-inserted a xs is room new = (let n = length-inserted a xs in record {
  some = omega (arith, n);
  few = omega (arith, n, room);
  rising = rising-inserted a xs new is.rising;
})
