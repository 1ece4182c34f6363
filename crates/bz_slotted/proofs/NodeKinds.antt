-- The fault of a node by its kind: the first rules are those of both kinds.
use Rattle.std.proofs.Common.{◌≡◌, ◌≢◌, ℕ, true, false, List, refl, sym, ◌∙◌, inl, inr, Option}
use Rattle.std.specs.Prelude.{Some}
use Rattle.std.proofs.lemmas.Bool.{cases_eq}
use Rattle.bz_tree.specs.declared.rule.ShapeRule.TheVariants.{Level, Fence, Status}
use Rattle.bz_slotted.specs.Page.{page}
use Rattle.bz_slotted.specs.Rules.{level_test, fences_test, filled_test, leaf_tests, inner_tests, node_fault}
use Rattle.bz_slotted.specs.Tests.{first_of}
use Rattle.bz_slotted.proofs.Firsts.{skip, stop, not-first}
use Rattle.bz_slotted.proofs.Readings.{other-test}

pub leaf-kind : (nodes : ℕ) (raw n : ℕ → ℕ) (l : ℕ) (lo hi : Option (List ℕ)) → l ≡ 0 → first_of (leaf_tests raw (page n) lo hi) ≡ node_fault nodes raw n l lo hi
unfolding node_fault
leaf-kind nodes raw n l lo hi e = rw e refl

pub inner-kind : (nodes : ℕ) (raw n : ℕ → ℕ) (l : ℕ) (lo hi : Option (List ℕ)) → l ≢ 0 → first_of (inner_tests nodes raw (page n) l lo hi) ≡ node_fault nodes raw n l lo hi
unfolding node_fault
inner-kind nodes raw n l lo hi ne = rw (other-test l 0 ne) refl

pub wrong-level : (nodes : ℕ) (raw n : ℕ → ℕ) (l : ℕ) (lo hi : Option (List ℕ)) → level_test (page n) l ≡ false → Some Level ≡ node_fault nodes raw n l lo hi
wrong-level nodes raw n l lo hi h = elim (cases_eq l 0) [
  | inl e ↦ let z : level_test (page n) 0 ≡ false = rw e at h in sym (stop _ _ z) ∙ leaf-kind nodes raw n l lo hi e
  | inr ne ↦ sym (stop _ _ h) ∙ inner-kind nodes raw n l lo hi ne
]

pub wrong-fence : (nodes : ℕ) (raw n : ℕ → ℕ) (l : ℕ) (lo hi : Option (List ℕ)) → level_test (page n) l ≡ true → fences_test (page n) lo hi ≡ false → Some Fence ≡ node_fault nodes raw n l lo hi
wrong-fence nodes raw n l lo hi t h = elim (cases_eq l 0) [
  | inl e ↦ let z : level_test (page n) 0 ≡ true = rw e at t in
      let r : first_of (leaf_tests raw (page n) lo hi) ≡ Some Fence = skip _ _ _ z (stop _ _ h) in sym r ∙ leaf-kind nodes raw n l lo hi e
  | inr ne ↦ let r : first_of (inner_tests nodes raw (page n) l lo hi) ≡ Some Fence = skip _ _ _ t (stop _ _ h) in sym r ∙ inner-kind nodes raw n l lo hi ne
]

pub wrong-status : (nodes : ℕ) (raw n : ℕ → ℕ) (l : ℕ) (lo hi : Option (List ℕ)) → level_test (page n) l ≡ true → fences_test (page n) lo hi ≡ true → filled_test (page n) ≡ false → Some Status ≡ node_fault nodes raw n l lo hi
wrong-status nodes raw n l lo hi t f h = elim (cases_eq l 0) [
  | inl e ↦ let z : level_test (page n) 0 ≡ true = rw e at t in
      let r : first_of (leaf_tests raw (page n) lo hi) ≡ Some Status = skip _ _ _ z (skip _ _ _ f (stop _ _ h)) in sym r ∙ leaf-kind nodes raw n l lo hi e
  | inr ne ↦ let r : first_of (inner_tests nodes raw (page n) l lo hi) ≡ Some Status = skip _ _ _ t (skip _ _ _ f (stop _ _ (not-first _ _ h))) in sym r ∙ inner-kind nodes raw n l lo hi ne
]
