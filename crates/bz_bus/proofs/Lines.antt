-- The line of passes with a ticket: one pass at most has a ticket, and the line is no longer than there are passes.
use Rattle.std.proofs.Common.{◌≡◌, ℕ, suc, ◌+◌, ◌<◌, ◌≤◌, List, [], ◌∷◌, length, sym, ap, ◌∙◌, refl, arith, eqb, ne_eqb, ◌||◌, Bool, true, false, Option, Some, None}
use Rattle.std.specs.List.{IsDistinct, AllByRecursion, list_any}
use Rattle.std.proofs.lemmas.Map.Steps.{length-le_from_distinct_below}
use Rattle.std.proofs.lemmas.Bool.Decides.{nat_tests}
use Rattle.std.proofs.lemmas.Option.{none-some}
use mathlib.Core.Option.{some, some-injective}
use lib.ListN.{get_elem?}
use Rattle.atomic_table.specs.Table.{State}
use Rattle.bz_bus.specs.declared.TheConstants.{PASSES}
use Rattle.bz_bus.specs.declared.rule.View.{View}
use Rattle.bz_bus.specs.Inside.Views.{ticket_of, At, IsLive}
use Rattle.bz_bus.specs.Inside.Rule.{Orderly}
use Rattle.bz_bus.proofs.Views.{same_view}

all_at : (P : ℕ → Type 0) (l : List ℕ) → ((k a : ℕ) → get_elem? l k ≡ some a → P a) → AllByRecursion P l
all_at P [] f = tt
all_at P (x ∷ xs) f = (f 0 x refl, all_at P xs (λ k a e. f (suc k) a e))

distinct_at : (l : List ℕ) → ((j k a : ℕ) → get_elem? l j ≡ some a → get_elem? l k ≡ some a → j ≡ k) → IsDistinct eqb l
unfolding IsDistinct
distinct_at [] f = tt
distinct_at (x ∷ xs) f = (
  all_at (λ y. eqb x y ≡ false) xs (λ k a e. ne_eqb x a (λ same. let z : 0 ≡ suc k = f 0 (suc k) a (ap some same) e in absurd (omega arith))),
  distinct_at xs (λ j k a p q. let z : suc j ≡ suc k = f (suc j) (suc k) a p q in omega arith),
)

below_at : (n : ℕ) (l : List ℕ) → ((k a : ℕ) → get_elem? l k ≡ some a → a < n) → (q : ℕ) → list_any (eqb q) l ≡ true → q < n
below_at n [] f q e = absurd cc
below_at n (x ∷ xs) f q e = by_head (eqb q x) refl e (below_at n xs (λ k a z. f (suc k) a z) q)
  where
    by_head : (b : Bool) → eqb q x ≡ b → (b || list_any (eqb q) xs) ≡ true → (list_any (eqb q) xs ≡ true → q < n) → q < n
    by_head true is e later = let same : q ≡ x = grind (arith, nat_tests) in let h : x < n = f 0 x refl in omega arith
    by_head false is e later = later e

-- distinct numbers below n are at most n
few : (n : ℕ) (l : List ℕ) → ((j k a : ℕ) → get_elem? l j ≡ some a → get_elem? l k ≡ some a → j ≡ k) → ((k a : ℕ) → get_elem? l k ≡ some a → a < n) → length l ≤ n
few n l apart below = length-le_from_distinct_below l n (distinct_at l apart) (below_at n l below)

abbrev pub the : Option ℕ → ℕ
the None = 0
the (Some x) = x

module _ {E F : Type 0} where
  pub ticket_live : (v : View E F) (t : ℕ) → ticket_of v.stage ≡ Some t → IsLive v
  ticket_live v t has gone = none-some t (sym (ap ticket_of gone) ∙ has)

module _ {T E F : Type 0} (entries : T → List E) (fixed : T → F) (owner : E → ℕ) (key : T) (s : State (Option T) (View E F)) (r : Orderly entries fixed owner key s) where
  pub twins : (i j : ℕ) (v w : View E F) (t : ℕ) → At s.views i v → At s.views j w → ticket_of v.stage ≡ Some t → ticket_of w.stage ≡ Some t → i ≡ j
  twins i j v w t ei ej tv tw =
      let a = (r.stands i v ei).in_line t tv in let b = (r.stands j w ej).in_line t tw in
      let served : ℕ = r.served in let ka : ℕ = a.0 in let kb : ℕ = b.0 in let ea : t ≡ served + ka = a.1 in let eb : t ≡ served + kb = b.1 in
      let same : ka ≡ kb = omega arith in
      r.apart i j v w ei ej (ticket_live v t tv) (ticket_live w t tw) (some-injective v.number w.number (sym a.2 ∙ (ap (get_elem? r.line) same ∙ b.2)))

  pub short : length r.line ≤ PASSES
  short = few PASSES r.line
      (λ j k n ej ek. let a = r.queues j n ej in let b = r.queues k n ek in let served : ℕ = r.served in
      let same : a.0 ≡ b.0 = r.apart a.0 b.0 a.1 b.1 a.2 b.2 (ticket_live a.1 (served + j) a.3.1) (ticket_live b.1 (served + k) b.3.1) (a.3.0 ∙ sym b.3.0) in
      let one : a.1 ≡ b.1 = same_view s.views a.0 b.0 a.1 b.1 a.2 b.2 same in
      let z : served + j ≡ served + k = ap the (sym a.3.1 ∙ (ap (λ (v : View E F). ticket_of v.stage) one ∙ b.3.1)) in omega arith)
      (λ k n ek. let a = r.queues k n ek in let known = (r.sees a.0 a.1 a.2).knows (ticket_live a.1 (r.served + k) a.3.1) in let b : a.1.number < PASSES = known.below in let e : a.1.number ≡ n = a.3.0 in omega arith)
