-- A walk without fault comes to each slot once, and breaks no rule.
use Rattle.std.proofs.Common.{◌≡◌, ◌≢◌, ℕ, ◌==◌, ◌||◌, if◌then◌else◌, Bool, true, false, List, [], ◌∷◌, arith, refl, sym, ap, subst, ◌∙◌, inl, inr, Option}
use Rattle.std.specs.Prelude.{Some, None}
use Rattle.std.proofs.lemmas.Bool.Decides.{nat_tests}
use Rattle.std.proofs.lemmas.Bool.{true≢false}
use Rattle.bz_tree.specs.declared.rule.ShapeRule.{ShapeRule}
use Rattle.bz_tree.specs.declared.rule.ShapeRule.TheVariants.{Twice}
use Rattle.bz_tree.proofs.Visits.{In}
use Rattle.bz_tree.specs.View.{View}
use Rattle.bz_tree.specs.Walk.{Visit, comes_to, first_fault, is_among, or_rule, place_of, visit_to}

-- no two visits of the list are to one slot
abbrev pub Apart : List Visit → Type 0
Apart [] = Unit {0}
Apart (u ∷ us) = ((w : Visit) → In w us → w.slot ≢ u.slot) × Apart us

-- no fault means: each visit is without fault, no slot was seen, and none comes twice
pub record Clean (v : View) (seen : List ℕ) (us : List Visit) : Type 0 where
  pub fault : (u : Visit) → In u us → v.fault u.slot u.level u.low u.high ≡ None
  pub unseen : (u : Visit) → In u us → is_among seen u.slot ≡ false
  pub apart : Apart us

pub clean : (v : View) (seen : List ℕ) (us : List Visit) → first_fault v seen us ≡ None → Clean v seen us
unfolding first_fault
clean v seen [] h = record { fault = λ u i. absurd i; unseen = λ u i. absurd i; apart = tt }
clean v seen (u ∷ us) h = go (is_among seen u.slot) refl (v.fault u.slot u.level u.low u.high) refl (clean v (u.slot ∷ seen) us) h
  where
    go : (b : Bool) → is_among seen u.slot ≡ b → (o : Option ShapeRule) → v.fault u.slot u.level u.low u.high ≡ o → (first_fault v (u.slot ∷ seen) us ≡ None → Clean v (u.slot ∷ seen) us)
        → (if b then Some (record { rule = Twice; place = place_of v u.slot }) else or_rule o (place_of v u.slot) (first_fault v (u.slot ∷ seen) us)) ≡ None → Clean v seen (u ∷ us)
    go true e o p ih h = absurd (cc)
    go false e (Some rule) p ih h = absurd (cc)
    go false e None p ih h = let c : Clean v (u.slot ∷ seen) us = ih h in record {
      fault = λ w i. elim i [ inl q ↦ subst (λ (x : Visit). v.fault x.slot x.level x.low x.high ≡ None) (sym q) p | inr j ↦ c.fault w j ];
      unseen = λ w i. elim i [ inl q ↦ subst (λ (x : Visit). is_among seen x.slot ≡ false) (sym q) e | inr j ↦ grind (arith, nat_tests, c.unseen w j) ];
      apart = (λ w j e. grind (arith, nat_tests, c.unseen w j), c.apart);
    }

-- and the other way round
pub unclean : (v : View) (seen : List ℕ) (us : List Visit) → Clean v seen us → first_fault v seen us ≡ None
unfolding first_fault
unclean v seen [] c = refl
unclean v seen (u ∷ us) c = rw (c.unseen u (inl refl), c.fault u (inl refl)) (unclean v (u.slot ∷ seen) us (record {
  fault = λ w i. c.fault w (inr i);
  unseen = λ w i. grind (arith, nat_tests, c.unseen w (inr i), c.apart.0 w i);
  apart = c.apart.1;
}))

pub record At (us : List Visit) (k : ℕ) : Type 0 where
  pub there : In (visit_to us k) us
  pub slot : (visit_to us k).slot ≡ k

pub has-at : (us : List Visit) (k : ℕ) → comes_to us k ≡ true → At us k
has-at [] k h = absurd (true≢false (sym h))
has-at (u ∷ us) k h = go (u.slot == k) refl h (has-at us k)
  where
    go : (b : Bool) → (u.slot == k) ≡ b → b || comes_to us k ≡ true → (comes_to us k ≡ true → At us k) → At (u ∷ us) k
    go true e h ih = let p : visit_to (u ∷ us) k ≡ u = rw e refl in record { there = inl p; slot = rw e (grind (arith, nat_tests)) }
    go false e h ih = let a : At us k = ih h in let p : visit_to (u ∷ us) k ≡ visit_to us k = rw e refl in
        record { there = inr (subst (λ (x : Visit). In x us) (sym p) a.there); slot = ap (λ (x : Visit). x.slot) p ∙ a.slot }

pub in-has : (us : List Visit) (u : Visit) → In u us → comes_to us u.slot ≡ true
in-has [] u h = absurd h
in-has (x ∷ us) u (inl q) = grind (arith, nat_tests, ap (λ (y : Visit). y.slot) q)
in-has (x ∷ us) u (inr h) = grind (arith, nat_tests, in-has us u h)

pub find-in : (us : List Visit) (u : Visit) → Apart us → In u us → visit_to us u.slot ≡ u
find-in [] u a h = absurd h
find-in (x ∷ us) u a (inl q) = let e : (x.slot == u.slot) ≡ true = grind (arith, nat_tests, ap (λ (y : Visit). y.slot) q) in rw e (sym q)
find-in (x ∷ us) u a (inr h) = let ne : u.slot ≢ x.slot = a.0 u h in let e : (x.slot == u.slot) ≡ false = grind (arith, nat_tests) in rw e (find-in us u a.1 h)
