-- The form after a merge of two inner slots.
use Rattle.std.proofs.Common.{◌≡◌, ◌≢◌, ℕ, ◌+◌, ◌<◌, ◌==◌, ◌⊎◌, if◌then◌else◌, true, false, ◌-◌, ◌||◌, arith, refl, sym, ap, ◌∙◌, inl, inr}
use Rattle.std.specs.Prelude.{nat_lt}
use Rattle.std.proofs.lemmas.Bool.Decides.{nat_tests}
use Rattle.std.proofs.lemmas.Bool.{cases_eq, true≢false}
use Rattle.bz_tree.proofs.Places.{Placed, placed, placed-same}
use Rattle.bz_tree.specs.Outcomes.{Moved, Stays}
use Rattle.bz_tree.specs.Form.{Form}
use Rattle.bz_tree.specs.View.{View}

-- how it agrees with the form before
pub record JoinForm (v : View) (f h : Form) (a b q c m : ℕ) : Type 0 where
  pub q_at : Placed h q (f.level (f.up a)) (f.low (f.up a)) (f.high (f.up a)) (f.up (f.up a)) (f.index (f.up a))
  pub c_at : Placed h c (f.level a) (f.low a) (f.high b) q (f.index a)
  pub kept : (j : ℕ) → f.inside j ≡ true → j ≢ f.up a → f.up j ≢ f.up a → f.up j ≢ a → f.up j ≢ b → Stays f h j
  pub below_a : (j : ℕ) → f.inside j ≡ true → f.up j ≡ a → Moved f h j × ((h.up j ≡ c) × (h.index j ≡ f.index j))
  pub below_b : (j : ℕ) → f.inside j ≡ true → f.up j ≡ b → Moved f h j × ((h.up j ≡ c) × (h.index j ≡ f.index j + m))
  pub moved : (j : ℕ) → f.inside j ≡ true → j ≢ v.top → j ≢ a → j ≢ b → f.up j ≡ f.up a → Moved f h j
  pub up : (j : ℕ) → f.inside j ≡ true → j ≢ v.top → j ≢ a → j ≢ b → f.up j ≡ f.up a → h.up j ≡ q
  pub before : (j : ℕ) → f.inside j ≡ true → j ≢ v.top → j ≢ a → j ≢ b → f.up j ≡ f.up a → f.index j < f.index a → h.index j ≡ f.index j
  pub after : (j : ℕ) → f.inside j ≡ true → j ≢ v.top → j ≢ a → j ≢ b → f.up j ≡ f.up a → f.index b < f.index j → h.index j + 1 ≡ f.index j
  pub only : (j : ℕ) → h.inside j ≡ true → (j ≡ q) ⊎ ((j ≡ c) ⊎ ((f.inside j ≡ true) × (j ≢ a) × (j ≢ b) × (j ≢ f.up a)))

-- where each slot stands then: m is how many children the first of the two has
abbrev pub join_base : Form → ℕ → ℕ → ℕ → ℕ → ℕ → Form
join_base f a b q c m = record {
  inside = λ j. if (j == a) || ((j == b) || (j == f.up a)) then false else f.inside j;
  level = f.level;
  low = f.low;
  high = f.high;
  up = λ j. if f.up j == a then c else if f.up j == b then c else if f.up j == f.up a then q else f.up j;
  index = λ j. if f.up j == b then f.index j + m else if f.up j == f.up a then (if nat_lt (f.index b) (f.index j) then f.index j - 1 else f.index j) else f.index j;
}

abbrev pub join_form : Form → ℕ → ℕ → ℕ → ℕ → ℕ → Form
join_form f a b q c m = placed (placed (join_base f a b q c m) c (f.level a) (f.low a) (f.high b) q (f.index a)) q (f.level (f.up a)) (f.low (f.up a)) (f.high (f.up a)) (f.up (f.up a)) (f.index (f.up a))

pub join-form : (v : View) (f : Form) (a b q c m : ℕ) → f.up a ≢ a → f.up a ≢ b → f.up (f.up a) ≢ f.up a → f.up (f.up a) ≢ a → f.up (f.up a) ≢ b → a ≢ b → f.index b ≡ f.index a + 1 → f.inside q ≡ false → f.inside c ≡ false → q ≢ c
    → f.up b ≡ f.up a → JoinForm v f (join_form f a b q c m) a b q c m
join-form v f a b q c m up_a up_b up2 up2a up2b ab next fq fc qc ub = record {
  q_at = placed-same _ q (f.level (f.up a)) (f.up (f.up a)) (f.index (f.up a)) (f.low (f.up a)) (f.high (f.up a));
  c_at = record { inside = rw (no q c (λ e. qc (sym e)), is c c refl) refl; level = rw (no q c (λ e. qc (sym e)), is c c refl) refl; low = rw (no q c (λ e. qc (sym e)), is c c refl) refl; high = rw (no q c (λ e. qc (sym e)), is c c refl) refl; up = rw (no q c (λ e. qc (sym e)), is c c refl) refl; index = rw (no q c (λ e. qc (sym e)), is c c refl) refl };
  kept = λ j ins np up ua un. let n : (j ≢ q) × (j ≢ c) = old j ins in
      record { moved = mv j ins (λ e. up (ap f.up e)) (λ e. up (ap f.up e ∙ ub)) np; up = rw (no q j n.0, no c j n.1, no a (f.up j) ua, no b (f.up j) un, no (f.up a) (f.up j) up) refl; index = rw (no q j n.0, no c j n.1, no b (f.up j) un, no (f.up a) (f.up j) up) refl };
  below_a = λ j ins ju. let n : (j ≢ q) × (j ≢ c) = old j ins in (
    mv j ins (λ e. up_a (ap f.up (sym e) ∙ ju)) (λ e. up_a (sym ub ∙ ap f.up (sym e) ∙ ju)) (λ e. up2a (ap f.up (sym e) ∙ ju)),
    (rw (no q j n.0, no c j n.1, is a (f.up j) ju) refl, rw (no q j n.0, no c j n.1, no b (f.up j) (λ e. ab (sym ju ∙ e)), no (f.up a) (f.up j) (λ e. up_a (sym e ∙ ju))) refl),
  );
  below_b = λ j ins ju. let n : (j ≢ q) × (j ≢ c) = old j ins in (
    mv j ins (λ e. up_b (ap f.up (sym e) ∙ ju)) (λ e. up_b (sym ub ∙ ap f.up (sym e) ∙ ju)) (λ e. up2b (ap f.up (sym e) ∙ ju)),
    (rw (no q j n.0, no c j n.1, no a (f.up j) (λ e. ab (sym e ∙ ju)), is b (f.up j) ju) refl, rw (no q j n.0, no c j n.1, is b (f.up j) ju) refl),
  );
  moved = λ j ins nt na nb ju. mv j ins na nb (np j ju);
  up = λ j ins nt na nb ju. let n : (j ≢ q) × (j ≢ c) = old j ins in rw (no q j n.0, no c j n.1, no a (f.up j) (λ e. up_a (sym ju ∙ e)), no b (f.up j) (λ e. up_b (sym ju ∙ e)), is (f.up a) (f.up j) ju) refl;
  before = λ j ins nt na nb ju less. let n : (j ≢ q) × (j ≢ c) = old j ins in rw (no q j n.0, no c j n.1, no b (f.up j) (λ e. up_b (sym ju ∙ e)), is (f.up a) (f.up j) ju) (grind (arith, nat_tests));
  after = λ j ins nt na nb ju more. let n : (j ≢ q) × (j ≢ c) = old j ins in rw (no q j n.0, no c j n.1, no b (f.up j) (λ e. up_b (sym ju ∙ e)), is (f.up a) (f.up j) ju) (grind (arith, nat_tests));
  only = λ j ins. elim (cases_eq j q) [
    | inl e ↦ inl e
    | inr nq ↦ inr (elim (cases_eq j c) [
      | inl e ↦ inl e
      | inr nc ↦ inr
          (let base : (if (j == a) || ((j == b) || (j == f.up a)) then false else f.inside j) ≡ true = rw (no q j nq, no c j nc) at ins in rest j base)
    ])
  ];
}
  where
    no : (k j : ℕ) → j ≢ k → (j == k) ≡ false
    no k j ne = grind (arith, nat_tests)

    is : (k j : ℕ) → j ≡ k → (j == k) ≡ true
    is k j e = grind (arith, nat_tests)

    np : (j : ℕ) → f.up j ≡ f.up a → j ≢ f.up a
    np j ju e = up2 (ap f.up (sym e) ∙ ju)

    old : (j : ℕ) → f.inside j ≡ true → (j ≢ q) × (j ≢ c)
    old j ins = (λ e. true≢false (sym ins ∙ ap f.inside e ∙ fq), λ e. true≢false (sym ins ∙ ap f.inside e ∙ fc))

    mv : (j : ℕ) → f.inside j ≡ true → j ≢ a → j ≢ b → j ≢ f.up a → Moved f (join_form f a b q c m) j
    mv j ins na nb np = let n : (j ≢ q) × (j ≢ c) = old j ins in record {
      inside = rw (no q j n.0, no c j n.1, no a j na, no b j nb, no (f.up a) j np) ins;
      level = rw (no q j n.0, no c j n.1) refl;
      low = rw (no q j n.0, no c j n.1) refl;
      high = rw (no q j n.0, no c j n.1) refl;
    }

    rest : (j : ℕ) → (if (j == a) || ((j == b) || (j == f.up a)) then false else f.inside j) ≡ true → (f.inside j ≡ true) × (j ≢ a) × (j ≢ b) × (j ≢ f.up a)
    rest j h = elim (cases_eq j a) [ inl e ↦ absurd (grind (arith, nat_tests)) | inr na ↦ elim (cases_eq j b) [ inl e ↦ absurd (grind (arith, nat_tests)) | inr nb ↦ elim (cases_eq j (f.up a)) [ inl e ↦ absurd (grind (arith, nat_tests)) | inr np ↦ (rw (no a j na, no b j nb, no (f.up a) j np) at h, na, nb, np) ] ] ]
