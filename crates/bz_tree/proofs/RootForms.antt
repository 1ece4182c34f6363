-- The form after a split of the root.
use Rattle.std.proofs.Common.{◌≡◌, ◌≢◌, ℕ, ◌+◌, ◌-◌, ◌==◌, if◌then◌else◌, true, false, List, arith, refl, sym, ap, ◌∙◌, inl, inr}
use Rattle.std.specs.Prelude.{nat_lt, Some, None}
use Rattle.std.proofs.lemmas.Bool.Decides.{nat_tests}
use Rattle.std.proofs.lemmas.Bool.{cases_eq, true≢false}
use Rattle.bz_tree.proofs.AfterSplits.{RootForm}
use Rattle.bz_tree.proofs.Places.{placed, placed-same}
use Rattle.bz_tree.specs.Outcomes.{Moved}
use Rattle.bz_tree.specs.Form.{Form}
use Rattle.bz_tree.specs.View.{View}

-- the form after a split of the root
abbrev pub root_base : ℕ → Form → ℕ → ℕ → ℕ → ℕ → Form
root_base top f a l r m = record {
  inside = λ j. if j == a then false else f.inside j;
  level = f.level;
  low = f.low;
  high = f.high;
  up = λ j. if j == top then top else if f.up j == a then (if nat_lt (f.index j) m then l else r) else f.up j;
  index = λ j. if j == top then f.index top else if f.up j == a then (if nat_lt (f.index j) m then f.index j else f.index j - m) else f.index j;
}

abbrev pub root_form : ℕ → ℕ → Form → ℕ → ℕ → ℕ → ℕ → ℕ → List ℕ → Form
root_form top height f a q l r m sep = placed (placed (placed (placed (root_base top f a l r m) top (height + 1) None None top (f.index top)) r (f.level a) (Some sep) None q 1) l (f.level a) None (Some sep) q 0) q height None None top 0

pub root-form : (v w : View) (f : Form) (a q l r m : ℕ) (sep : List ℕ) → w.height ≡ v.height + 1 → f.inside v.top ≡ true → a ≢ v.top → f.up a ≢ a → f.inside q ≡ false → f.inside l ≡ false → f.inside r ≡ false → q ≢ l → q ≢ r → l ≢ r
    → RootForm v w f (root_form v.top v.height f a q l r m sep) a q l r m sep
root-form v w f a q l r m sep hw it nta ua fq fl fr ql qr lr = record {
  top_at = record { inside = rw (no q v.top tq, no l v.top tl, no r v.top tr, is v.top v.top refl) refl; level = rw (no q v.top tq, no l v.top tl, no r v.top tr, is v.top v.top refl, hw) refl; low = rw (no q v.top tq, no l v.top tl, no r v.top tr, is v.top v.top refl) refl; high = rw (no q v.top tq, no l v.top tl, no r v.top tr, is v.top v.top refl) refl; up = rw (no q v.top tq, no l v.top tl, no r v.top tr, is v.top v.top refl) refl; index = rw (no q v.top tq, no l v.top tl, no r v.top tr, is v.top v.top refl) refl };
  q_at = placed-same _ q v.height v.top 0 None None;
  l_at = record { inside = rw (no q l (λ e. ql (sym e)), is l l refl) refl; level = rw (no q l (λ e. ql (sym e)), is l l refl) refl; low = rw (no q l (λ e. ql (sym e)), is l l refl) refl; high = rw (no q l (λ e. ql (sym e)), is l l refl) refl; up = rw (no q l (λ e. ql (sym e)), is l l refl) refl; index = rw (no q l (λ e. ql (sym e)), is l l refl) refl };
  r_at = record { inside = rw (no q r (λ e. qr (sym e)), no l r (λ e. lr (sym e)), is r r refl) refl; level = rw (no q r (λ e. qr (sym e)), no l r (λ e. lr (sym e)), is r r refl) refl; low = rw (no q r (λ e. qr (sym e)), no l r (λ e. lr (sym e)), is r r refl) refl; high = rw (no q r (λ e. qr (sym e)), no l r (λ e. lr (sym e)), is r r refl) refl; up = rw (no q r (λ e. qr (sym e)), no l r (λ e. lr (sym e)), is r r refl) refl; index = rw (no q r (λ e. qr (sym e)), no l r (λ e. lr (sym e)), is r r refl) refl };
  kept = λ j ins na nt ua. let n : (j ≢ q) × (j ≢ l) × (j ≢ r) = old j ins in record { moved = mv j ins na nt; up = rw (no q j n.0, no l j n.1, no r j n.2, no v.top j nt, no a (f.up j) ua) refl; index = rw (no q j n.0, no l j n.1, no r j n.2, no v.top j nt, no a (f.up j) ua) refl };
  halves = record {
    moved = λ j ins nt ju. mv j ins (na3 j ju) nt;
    left = λ j ins nt ju less. let n : (j ≢ q) × (j ≢ l) × (j ≢ r) = old j ins in (rw (no q j n.0, no l j n.1, no r j n.2, no v.top j nt, is a (f.up j) ju) (grind (arith, nat_tests)), rw (no q j n.0, no l j n.1, no r j n.2, no v.top j nt, is a (f.up j) ju) (grind (arith, nat_tests)));
    right = λ j ins nt ju le. let n : (j ≢ q) × (j ≢ l) × (j ≢ r) = old j ins in (rw (no q j n.0, no l j n.1, no r j n.2, no v.top j nt, is a (f.up j) ju) (grind (arith, nat_tests)), rw (no q j n.0, no l j n.1, no r j n.2, no v.top j nt, is a (f.up j) ju) (grind (arith, nat_tests)));
  };
  only = λ j ins. elim (cases_eq j q) [
    | inl e ↦ inl e
    | inr nq ↦ inr (elim (cases_eq j l) [
      | inl e ↦ inl e
      | inr nl ↦ inr (elim (cases_eq j r) [
        | inl e ↦ inl e
        | inr nr ↦ inr
            (elim (cases_eq j v.top) [
              | inl e ↦ (ap f.inside e ∙ it, λ x. nta (sym x ∙ e))
              | inr nt ↦
                  let base : (if j == a then false else f.inside j) ≡ true = rw (no q j nq, no l j nl, no r j nr, no v.top j nt) at ins in rest j base
            ])
      ])
    ])
  ];
}
  where
    no : (k j : ℕ) → j ≢ k → (j == k) ≡ false
    no k j ne = grind (arith, nat_tests)

    is : (k j : ℕ) → j ≡ k → (j == k) ≡ true
    is k j e = grind (arith, nat_tests)

    tq : v.top ≢ q
    tq e = true≢false (sym it ∙ ap f.inside e ∙ fq)

    tl : v.top ≢ l
    tl e = true≢false (sym it ∙ ap f.inside e ∙ fl)

    tr : v.top ≢ r
    tr e = true≢false (sym it ∙ ap f.inside e ∙ fr)

    old : (j : ℕ) → f.inside j ≡ true → (j ≢ q) × (j ≢ l) × (j ≢ r)
    old j ins = (λ e. true≢false (sym ins ∙ ap f.inside e ∙ fq), λ e. true≢false (sym ins ∙ ap f.inside e ∙ fl), λ e. true≢false (sym ins ∙ ap f.inside e ∙ fr))

    na3 : (j : ℕ) → f.up j ≡ a → j ≢ a
    na3 j ju e = ua (ap f.up (sym e) ∙ ju)

    rest : (j : ℕ) → (if j == a then false else f.inside j) ≡ true → (f.inside j ≡ true) × (j ≢ a)
    rest j h = elim (cases_eq j a) [ inl e ↦ absurd (grind (arith, nat_tests)) | inr na ↦ (rw (no a j na) at h, na) ]

    mv : (j : ℕ) → f.inside j ≡ true → j ≢ a → j ≢ v.top → Moved f (root_form v.top v.height f a q l r m sep) j
    mv j ins na nt = let n : (j ≢ q) × (j ≢ l) × (j ≢ r) = old j ins in record {
      inside = rw (no q j n.0, no l j n.1, no r j n.2, no v.top j nt, no a j na) ins;
      level = rw (no q j n.0, no l j n.1, no r j n.2, no v.top j nt) refl;
      low = rw (no q j n.0, no l j n.1, no r j n.2, no v.top j nt) refl;
      high = rw (no q j n.0, no l j n.1, no r j n.2, no v.top j nt) refl;
    }
