-- The form after a split below an inner slot.
use Rattle.std.proofs.Common.{◌≡◌, ◌≢◌, ℕ, ◌+◌, ◌-◌, ◌==◌, ◌||◌, if◌then◌else◌, true, false, List, arith, refl, sym, ap, ◌∙◌, inl, inr}
use Rattle.std.specs.Prelude.{nat_lt, Some}
use Rattle.std.proofs.lemmas.Bool.Decides.{nat_tests}
use Rattle.std.proofs.lemmas.Bool.{cases_eq, true≢false}
use Rattle.bz_tree.proofs.AfterSplits.{SplitForm}
use Rattle.bz_tree.proofs.Places.{placed, placed-same}
use Rattle.bz_tree.specs.Outcomes.{Moved}
use Rattle.bz_tree.specs.Form.{Form}
use Rattle.bz_tree.specs.View.{View}

-- the form after a split
abbrev pub split_up : Form → ℕ → ℕ → ℕ → ℕ → ℕ → ℕ → ℕ
split_up f a q l r m j = if f.up j == a then (if nat_lt (f.index j) m then l else r) else if f.up j == f.up a then q else f.up j

abbrev pub split_index : Form → ℕ → ℕ → ℕ → ℕ
split_index f a m j = if f.up j == a then (if nat_lt (f.index j) m then f.index j else f.index j - m) else if f.up j == f.up a then (if nat_lt (f.index a) (f.index j) then f.index j + 1 else f.index j) else f.index j

abbrev pub split_base : Form → ℕ → ℕ → ℕ → ℕ → ℕ → Form
split_base f a q l r m = record { inside = λ j. if (j == a) || (j == f.up a) then false else f.inside j; level = f.level; low = f.low; high = f.high; up = split_up f a q l r m; index = split_index f a m }

abbrev pub split_form : Form → ℕ → ℕ → ℕ → ℕ → ℕ → List ℕ → Form
split_form f a q l r m sep = placed (placed (placed (split_base f a q l r m) r (f.level a) (Some sep) (f.high a) q (f.index a + 1)) l (f.level a) (f.low a) (Some sep) q (f.index a)) q (f.level (f.up a)) (f.low (f.up a)) (f.high (f.up a)) (f.up (f.up a)) (f.index (f.up a))

pub split-form : (v : View) (f : Form) (a q l r m : ℕ) (sep : List ℕ) → f.up a ≢ a → f.up (f.up a) ≢ f.up a → f.up (f.up a) ≢ a → f.inside q ≡ false → f.inside l ≡ false → f.inside r ≡ false → q ≢ l → q ≢ r → l ≢ r → SplitForm v f (split_form f a q l r m sep) a q l r m sep
split-form v f a q l r m sep up up2 up3 fq fl fr ql qr lr = record {
  q_at = placed-same _ q (f.level (f.up a)) (f.up (f.up a)) (f.index (f.up a)) (f.low (f.up a)) (f.high (f.up a));
  l_at = record { inside = grind (arith, nat_tests); level = grind (arith, nat_tests); low = grind (arith, nat_tests); high = grind (arith, nat_tests); up = grind (arith, nat_tests); index = grind (arith, nat_tests) };
  r_at = record { inside = grind (arith, nat_tests); level = grind (arith, nat_tests); low = grind (arith, nat_tests); high = grind (arith, nat_tests); up = grind (arith, nat_tests); index = grind (arith, nat_tests) };
  kept = λ j ins na np ua up. let n : (j ≢ q) × (j ≢ l) × (j ≢ r) = old j ins in record { moved = mv j ins na np; up = rw (no q j n.0, no l j n.1, no r j n.2, no a (f.up j) ua, no (f.up a) (f.up j) up) refl; index = rw (no q j n.0, no l j n.1, no r j n.2, no a (f.up j) ua, no (f.up a) (f.up j) up) refl };
  beside = record {
    moved = λ j ins nt na ju. mv j ins na (np j ju);
    up = λ j ins nt na ju. let n : (j ≢ q) × (j ≢ l) × (j ≢ r) = old j ins in rw (no q j n.0, no l j n.1, no r j n.2, no a (f.up j) (na2 j ju), is (f.up a) (f.up j) ju) refl;
    before = λ j ins nt na ju lt. let n : (j ≢ q) × (j ≢ l) × (j ≢ r) = old j ins in rw (no q j n.0, no l j n.1, no r j n.2, no a (f.up j) (na2 j ju), is (f.up a) (f.up j) ju) (grind (arith, nat_tests));
    after = λ j ins nt na ju lt. let n : (j ≢ q) × (j ≢ l) × (j ≢ r) = old j ins in rw (no q j n.0, no l j n.1, no r j n.2, no a (f.up j) (na2 j ju), is (f.up a) (f.up j) ju) (grind (arith, nat_tests));
  };
  halves = record {
    moved = λ j ins nt ju. mv j ins (na3 j ju) (np3 j ju);
    left = λ j ins nt ju lt. let n : (j ≢ q) × (j ≢ l) × (j ≢ r) = old j ins in (rw (no q j n.0, no l j n.1, no r j n.2, is a (f.up j) ju) (grind (arith, nat_tests)), rw (no q j n.0, no l j n.1, no r j n.2, is a (f.up j) ju) (grind (arith, nat_tests)));
    right = λ j ins nt ju le. let n : (j ≢ q) × (j ≢ l) × (j ≢ r) = old j ins in (rw (no q j n.0, no l j n.1, no r j n.2, is a (f.up j) ju) (grind (arith, nat_tests)), rw (no q j n.0, no l j n.1, no r j n.2, is a (f.up j) ju) (grind (arith, nat_tests)));
  };
  only = λ j ins. elim (cases_eq j q) [
    | inl e ↦ inl e
    | inr nq ↦ inr (elim (cases_eq j l) [
      | inl e ↦ inl e
      | inr nl ↦ inr (elim (cases_eq j r) [
        | inl e ↦ inl e
        | inr nr ↦ inr
            (let base : (if (j == a) || (j == f.up a) then false else f.inside j) ≡ true = rw (no q j nq, no l j nl, no r j nr) at ins in rest j base)
      ])
    ])
  ];
}
  where
    no : (k j : ℕ) → j ≢ k → (j == k) ≡ false
    no k j ne = grind (arith, nat_tests)

    is : (k j : ℕ) → j ≡ k → (j == k) ≡ true
    is k j e = grind (arith, nat_tests)

    np : (j : ℕ) → f.up j ≡ f.up a → j ≢ f.up a
    np j ju e = up2 (ap f.up (sym e) ∙ ju)

    na2 : (j : ℕ) → f.up j ≡ f.up a → f.up j ≢ a
    na2 j ju e = up (sym ju ∙ e)

    na3 : (j : ℕ) → f.up j ≡ a → j ≢ a
    na3 j ju e = up (ap f.up (sym e) ∙ ju)

    np3 : (j : ℕ) → f.up j ≡ a → j ≢ f.up a
    np3 j ju e = up3 (ap f.up (sym e) ∙ ju)

    rest : (j : ℕ) → (if (j == a) || (j == f.up a) then false else f.inside j) ≡ true → (f.inside j ≡ true) × (j ≢ a) × (j ≢ f.up a)
    rest j h = elim (cases_eq j a) [ inl e ↦ absurd (grind (arith, nat_tests)) | inr na ↦ elim (cases_eq j (f.up a)) [ inl e ↦ absurd (grind (arith, nat_tests)) | inr np ↦ (rw (no a j na, no (f.up a) j np) at h, na, np) ] ]

    old : (j : ℕ) → f.inside j ≡ true → (j ≢ q) × (j ≢ l) × (j ≢ r)
    old j ins = (λ e. true≢false (sym ins ∙ ap f.inside e ∙ fq), λ e. true≢false (sym ins ∙ ap f.inside e ∙ fl), λ e. true≢false (sym ins ∙ ap f.inside e ∙ fr))

    mv : (j : ℕ) → f.inside j ≡ true → j ≢ a → j ≢ f.up a → Moved f (split_form f a q l r m sep) j
    mv j ins na np = let n : (j ≢ q) × (j ≢ l) × (j ≢ r) = old j ins in record {
      inside = rw (no q j n.0, no l j n.1, no r j n.2, no a j na, no (f.up a) j np) ins;
      level = rw (no q j n.0, no l j n.1, no r j n.2) refl;
      low = rw (no q j n.0, no l j n.1, no r j n.2) refl;
      high = rw (no q j n.0, no l j n.1, no r j n.2) refl;
    }
