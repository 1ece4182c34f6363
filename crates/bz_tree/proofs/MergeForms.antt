-- The form after a merge.
use Rattle.std.proofs.Common.{◌≡◌, ◌≢◌, ℕ, ◌+◌, ◌<◌, ◌==◌, ◌⊎◌, if◌then◌else◌, true, false, ◌-◌, ◌||◌, arith, refl, sym, ap, ◌∙◌, inl, inr}
use Rattle.std.specs.Prelude.{nat_lt}
use Rattle.std.proofs.lemmas.Bool.Decides.{nat_tests}
use Rattle.std.proofs.lemmas.Bool.{cases_eq, true≢false}
use Rattle.bz_tree.proofs.Places.{Placed, placed, placed-same}
use Rattle.bz_tree.specs.Outcomes.{Moved, Stays}
use Rattle.bz_tree.specs.Form.{Form}
use Rattle.bz_tree.specs.View.{View}

pub record MergeForm (v : View) (f h : Form) (a b q c : ℕ) : Type 0 where
  pub q_at : Placed h q (f.level (f.up a)) (f.low (f.up a)) (f.high (f.up a)) (f.up (f.up a)) (f.index (f.up a))
  pub c_at : Placed h c 0 (f.low a) (f.high b) q (f.index a)
  pub kept : (j : ℕ) → f.inside j ≡ true → j ≢ f.up a → f.up j ≢ f.up a → Stays f h j
  pub moved : (j : ℕ) → f.inside j ≡ true → j ≢ v.top → j ≢ a → j ≢ b → f.up j ≡ f.up a → Moved f h j
  pub up : (j : ℕ) → f.inside j ≡ true → j ≢ v.top → j ≢ a → j ≢ b → f.up j ≡ f.up a → h.up j ≡ q
  pub before : (j : ℕ) → f.inside j ≡ true → j ≢ v.top → j ≢ a → j ≢ b → f.up j ≡ f.up a → f.index j < f.index a → h.index j ≡ f.index j
  pub after : (j : ℕ) → f.inside j ≡ true → j ≢ v.top → j ≢ a → j ≢ b → f.up j ≡ f.up a → f.index b < f.index j → h.index j + 1 ≡ f.index j
  pub only : (j : ℕ) → h.inside j ≡ true → (j ≡ q) ⊎ ((j ≡ c) ⊎ ((f.inside j ≡ true) × (j ≢ a) × (j ≢ b) × (j ≢ f.up a)))

-- the form after a merge
abbrev pub merge_base : Form → ℕ → ℕ → ℕ → Form
merge_base f a b q = record {
  inside = λ j. if (j == a) || ((j == b) || (j == f.up a)) then false else f.inside j;
  level = f.level;
  low = f.low;
  high = f.high;
  up = λ j. if f.up j == f.up a then q else f.up j;
  index = λ j. if f.up j == f.up a then (if nat_lt (f.index b) (f.index j) then f.index j - 1 else f.index j) else f.index j;
}

abbrev pub merge_form : Form → ℕ → ℕ → ℕ → ℕ → Form
merge_form f a b q c = placed (placed (merge_base f a b q) c 0 (f.low a) (f.high b) q (f.index a)) q (f.level (f.up a)) (f.low (f.up a)) (f.high (f.up a)) (f.up (f.up a)) (f.index (f.up a))

pub merge-form : (v : View) (f : Form) (a b q c : ℕ) → f.up (f.up a) ≢ f.up a → f.index b ≡ f.index a + 1 → f.inside q ≡ false → f.inside c ≡ false → q ≢ c
    → ((j : ℕ) → f.inside j ≡ true → j ≢ v.top → f.up j ≢ a) → ((j : ℕ) → f.inside j ≡ true → j ≢ v.top → f.up j ≢ b) → f.up b ≡ f.up a → MergeForm v f (merge_form f a b q c) a b q c
merge-form v f a b q c up2 next fq fc qc leaf_a leaf_b ub = record {
  q_at = placed-same _ q (f.level (f.up a)) (f.up (f.up a)) (f.index (f.up a)) (f.low (f.up a)) (f.high (f.up a));
  c_at = record { inside = rw (no q c (λ e. qc (sym e)), is c c refl) refl; level = rw (no q c (λ e. qc (sym e)), is c c refl) refl; low = rw (no q c (λ e. qc (sym e)), is c c refl) refl; high = rw (no q c (λ e. qc (sym e)), is c c refl) refl; up = rw (no q c (λ e. qc (sym e)), is c c refl) refl; index = rw (no q c (λ e. qc (sym e)), is c c refl) refl };
  kept = λ j ins np up. let n : (j ≢ q) × (j ≢ c) = old j ins in
      record { moved = mv j ins (λ e. up (ap f.up e)) (λ e. up (ap f.up e ∙ ub)) np; up = rw (no q j n.0, no c j n.1, no (f.up a) (f.up j) up) refl; index = rw (no q j n.0, no c j n.1, no (f.up a) (f.up j) up) refl };
  moved = λ j ins nt na nb ju. mv j ins na nb (np j ju);
  up = λ j ins nt na nb ju. let n : (j ≢ q) × (j ≢ c) = old j ins in rw (no q j n.0, no c j n.1, is (f.up a) (f.up j) ju) refl;
  before = λ j ins nt na nb ju less. let n : (j ≢ q) × (j ≢ c) = old j ins in rw (no q j n.0, no c j n.1, is (f.up a) (f.up j) ju) (grind (arith, nat_tests));
  after = λ j ins nt na nb ju more. let n : (j ≢ q) × (j ≢ c) = old j ins in rw (no q j n.0, no c j n.1, is (f.up a) (f.up j) ju) (grind (arith, nat_tests));
  only = λ j ins. elim (cases_eq j q) [
    | inl e ↦ inl e
    | inr nq ↦ inr (elim (cases_eq j c) [
      | inl e ↦ inl e
      | inr nc ↦ inr
          (let base : (if (j == a) || ((j == b) || (j == f.up a)) then false else f.inside j) ≡ true = rw (no q j nq, no c j nc) at ins in rest j base)
    ])
  ];
}
  where
    no : (k j : ℕ) → j ≢ k → (j == k) ≡ false
    no k j ne = grind (arith, nat_tests)

    is : (k j : ℕ) → j ≡ k → (j == k) ≡ true
    is k j e = grind (arith, nat_tests)

    np : (j : ℕ) → f.up j ≡ f.up a → j ≢ f.up a
    np j ju e = up2 (ap f.up (sym e) ∙ ju)

    old : (j : ℕ) → f.inside j ≡ true → (j ≢ q) × (j ≢ c)
    old j ins = (λ e. true≢false (sym ins ∙ ap f.inside e ∙ fq), λ e. true≢false (sym ins ∙ ap f.inside e ∙ fc))

    mv : (j : ℕ) → f.inside j ≡ true → j ≢ a → j ≢ b → j ≢ f.up a → Moved f (merge_form f a b q c) j
    mv j ins na nb np = let n : (j ≢ q) × (j ≢ c) = old j ins in record {
      inside = rw (no q j n.0, no c j n.1, no a j na, no b j nb, no (f.up a) j np) ins;
      level = rw (no q j n.0, no c j n.1) refl;
      low = rw (no q j n.0, no c j n.1) refl;
      high = rw (no q j n.0, no c j n.1) refl;
    }

    rest : (j : ℕ) → (if (j == a) || ((j == b) || (j == f.up a)) then false else f.inside j) ≡ true → (f.inside j ≡ true) × (j ≢ a) × (j ≢ b) × (j ≢ f.up a)
    rest j h = elim (cases_eq j a) [ inl e ↦ absurd (grind (arith, nat_tests)) | inr na ↦ elim (cases_eq j b) [ inl e ↦ absurd (grind (arith, nat_tests)) | inr nb ↦ elim (cases_eq j (f.up a)) [ inl e ↦ absurd (grind (arith, nat_tests)) | inr np ↦ (rw (no a j na, no b j nb, no (f.up a) j np) at h, na, nb, np) ] ] ]
