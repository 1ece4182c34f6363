-- A split below an inner slot is a graft.
use Rattle.std.proofs.Common.{◌≡◌, ◌≢◌, ℕ, ◌+◌, ◌<◌, ◌≤◌, ◌==◌, ◌||◌, ◌⊎◌, Bool, true, false, List, arith, refl, sym, ap, subst, ◌∙◌, inl, inr}
use Rattle.std.specs.Prelude.{Some, None}
use Rattle.std.proofs.lemmas.Bool.Decides.{nat_tests}
use Rattle.std.proofs.lemmas.Bool.{cases_eq, true≢false}
use Rattle.bz_tree.proofs.AfterSplits.{SplitForm}
use Rattle.bz_tree.proofs.Descents.{Home, home}
use Rattle.bz_tree.proofs.Grafts.{Fresh, Graft}
use Rattle.bz_tree.proofs.Halves.{halves-hang, left-down, right-down}
use Rattle.bz_tree.proofs.Keeps.{hangs-new, stands-new}
use Rattle.bz_tree.specs.Outcomes.{Stays}
use Rattle.bz_tree.proofs.Widened.{wider-down, wider-hangs}
use Rattle.bz_tree.specs.Form.{Fits, Form}
use Rattle.bz_tree.specs.Split.{Split}
use Rattle.bz_tree.specs.View.{View}

-- one of two slots
abbrev pub pair : ℕ → ℕ → ℕ → Bool
pair a p j = (j == a) || (j == p)

is_pair : (a p j : ℕ) → pair a p j ≡ true → (j ≡ a) ⊎ (j ≡ p)
is_pair a p j h = elim (cases_eq j a) [ inl e ↦ inl e | inr ne ↦ inr (grind (arith, nat_tests)) ]

no_pair : (a p j : ℕ) → pair a p j ≡ false → (j ≢ a) × (j ≢ p)
no_pair a p j h = (λ e. grind (arith, nat_tests), λ e. grind (arith, nat_tests))

pub graft-split : (v w : View) (f h : Form) (a q l r m : ℕ) (sep : List ℕ) → Fits v f → Split v w f a q l r m sep → SplitForm v f h a q l r m sep
    → Graft v w f h (pair a (f.up a)) (f.up (f.up a)) (f.index (f.up a)) q
graft-split v w f h a q l r m sep g s t = record {
  same_top = s.same_top.top;
  taller = omega (arith, s.same_top.height);
  height = λ ne. s.same_top.height;
  inside = op.hangs.inside;
  inner = op.hangs.inner;
  within = op.hangs.within;
  stays_there = grind (arith, nat_tests, g_not_a, g_not_p);
  link = s.link;
  placed = stands-new v w f h (f.up (f.up a)) (f.index (f.up a)) q (f.level (f.up a)) s.link g_kept.moved (sym op.stands.level)
      (record { inside = t.q_at.inside; level = t.q_at.level; low = t.q_at.low ∙ op.stands.low; high = t.q_at.high ∙ op.stands.high; up = t.q_at.up; index = t.q_at.index });
  cut = rw op.hangs.child (grind (arith, nat_tests));
  whole_cut = λ j ins gn ne. elim (is_pair a (f.up a) j gn) [ inl e ↦ rw (ap f.up e) (grind (arith, nat_tests)) | inr e ↦ absurd (ne (e ∙ sym op.hangs.child)) ];
  others = λ j ins gn far. let n : (j ≢ a) × (j ≢ f.up a) = no_pair a (f.up a) j gn in s.others j ins n.0 n.1 far;
  top_stays = grind (arith, nat_tests, s.not_top, s.deep);
  super = super;
  top = record { inside = top_kept.moved.inside; level = top_kept.moved.level ∙ g.height ∙ sym s.same_top.height; low = top_kept.moved.low ∙ g.top_low; high = top_kept.moved.high ∙ g.top_high; up = top_kept.up ∙ g.top_up; index = top_kept.index };
  moved = λ j ins gn nt. let n : (j ≢ a) × (j ≢ f.up a) = no_pair a (f.up a) j gn in elim (cases_eq (f.up j) a) [
    | inl e ↦ t.halves.moved j ins nt e
    | inr ne ↦ elim (cases_eq (f.up j) (f.up a)) [ inl e ↦ t.beside.moved j ins nt n.0 e | inr ne2 ↦ (t.kept j ins n.0 n.1 ne ne2).moved ]
  ];
  stays = λ j ins gn gu nt. let n : (j ≢ a) × (j ≢ f.up a) = no_pair a (f.up a) j gn in let u : (f.up j ≢ a) × (f.up j ≢ f.up a) = no_pair a (f.up a) (f.up j) gu in t.kept j ins n.0 n.1 u.0 u.1;
  only = λ j ins. elim (t.only j ins) [
    | inl e ↦ inl (subst (λ x. Fresh w h x) (sym e) fresh_q)
    | inr o ↦ elim o [
      | inl e ↦ inl (subst (λ x. Fresh w h x) (sym e) fresh_l)
      | inr o2 ↦ elim o2 [ inl e ↦ inl (subst (λ x. Fresh w h x) (sym e) fresh_r) | inr k ↦ inr (k.0, grind (arith, nat_tests, k.1, k.2)) ]
    ]
  ];
  orphans = λ j ins gn gu nt. let n : (j ≢ a) × (j ≢ f.up a) = no_pair a (f.up a) j gn in elim (is_pair a (f.up a) (f.up j) gu) [
    | inl e ↦ halves-hang v w f h a l r m j q (f.index a) q (f.index a + 1) sep (f.low a) (Some sep) (Some sep) (f.high a) g tall s.inside (s.halves (subst (λ k. 0 < f.level k) e (home v f j g ins nt).hangs.inner)) t.halves t.l_at t.r_at ins nt e
    | inr e ↦ wider-hangs v w f h (f.up a) q a l r j (f.up (f.up a)) (f.index (f.up a)) sep (f.low (f.up a)) (f.high (f.up a)) g tall s.inside s.not_top refl s.wider t.beside t.q_at ins nt n.0 e
  ];
}
  where
    oa : Home v f a
    oa = home v f a g s.inside s.not_top

    op : Home v f (f.up a)
    op = home v f (f.up a) g oa.hangs.inside s.deep

    tall : v.height ≤ w.height
    tall = omega (arith, s.same_top.height)

    g_not_a : f.up (f.up a) ≢ a
    g_not_a e = absurd (omega (arith, oa.stands.level, op.stands.level, ap f.level e))

    g_not_p : f.up (f.up a) ≢ f.up a
    g_not_p e = absurd (omega (arith, op.stands.level, ap f.level e))

    lower : (k : ℕ) → f.inside k ≡ true → f.level k ≤ v.height
    lower k i = elim (cases_eq k v.top) [ inl e ↦ omega (arith, ap f.level e, g.height) | inr n ↦ omega (arith, (g.hangs k i n).lower) ]

    g_up : (k : ℕ) → f.level k < f.level (f.up (f.up a)) → f.up (f.up (f.up a)) ≢ k
    g_up k lt e = elim (cases_eq (f.up (f.up a)) v.top) [
      | inl t ↦ absurd (omega (arith, lt, ap f.level e, ap f.level (ap f.up t ∙ g.top_up), g.height, lower (f.up (f.up a)) op.hangs.inside))
      | inr n ↦ absurd (omega (arith, lt, ap f.level e, (home v f (f.up (f.up a)) g op.hangs.inside n).stands.level))
    ]

    g_kept : Stays f h (f.up (f.up a))
    g_kept = t.kept (f.up (f.up a)) op.hangs.inside g_not_a g_not_p (g_up a (omega (arith, oa.stands.level, op.stands.level))) (g_up (f.up a) (omega (arith, op.stands.level)))

    top_kept : Stays f h v.top
    top_kept = t.kept v.top g.top (λ e. s.not_top (sym e)) (λ e. s.deep (sym e)) (λ e. s.not_top (sym e ∙ g.top_up)) (λ e. s.deep (sym e ∙ g.top_up))

    not_inside : (k : ℕ) → f.inside k ≡ false → k ≢ w.top
    not_inside k i e = true≢false (sym g.top ∙ ap f.inside (sym (e ∙ s.same_top.top)) ∙ i)

    super : w.fault v.top w.height None None ≡ None
    super = rw s.same_top.height (elim (cases_eq (f.up (f.up a)) v.top) [
      | inl e ↦ let x : w.fault v.top (f.level v.top) (f.low v.top) (f.high v.top) ≡ None = subst (λ k. w.fault k (f.level k) (f.low k) (f.high k) ≡ None) e s.link.whole in rw (g.height, g.top_low, g.top_high) at x
      | inr n ↦ (s.others v.top g.top (λ e. s.not_top (sym e)) (λ e. s.deep (sym e)) (λ e. n (sym e))).fault v.height None None g.super
    ])

    fresh_q : Fresh w h q
    fresh_q = record {
      not_top = not_inside q s.fresh_q;
      whole = rw (t.q_at.level, t.q_at.low, t.q_at.high) s.whole_q;
      hangs = hangs-new v w f h (f.up (f.up a)) (f.index (f.up a)) q (f.level (f.up a)) (f.low (f.up a)) (f.high (f.up a)) s.same_top s.link g_kept.moved op.hangs.inner op.hangs.within t.q_at op.hangs.lower;
      down = λ i l0 lt. wider-down v w f h (f.up a) q a l r i (f.up (f.up a)) (f.index (f.up a)) sep g s.inside s.not_top refl s.wider t.beside t.q_at t.l_at t.r_at lt;
    }

    wa : f.index a < v.count (f.up a)
    wa = oa.hangs.within

    fresh_l : Fresh w h l
    fresh_l = record {
      not_top = not_inside l s.fresh_l;
      whole = rw (t.l_at.level, t.l_at.low, t.l_at.high) s.whole_l;
      hangs = record { inside = rw t.l_at.up t.q_at.inside; inner = rw (t.l_at.up, t.q_at.level) oa.hangs.inner; within = rw (t.l_at.up, t.l_at.index, s.wider.count) (omega (arith, wa)); child = rw (t.l_at.up, t.l_at.index) s.wider.child_l; lower = rw (t.l_at.level, s.same_top.height) oa.hangs.lower };
      down = λ i l0 lt. let inner : 0 < f.level a = rw t.l_at.level at l0 in left-down v w f h a l r m i q (f.index a) sep g s.inside inner (s.halves inner) t.halves t.l_at lt;
    }

    fresh_r : Fresh w h r
    fresh_r = record {
      not_top = not_inside r s.fresh_r;
      whole = rw (t.r_at.level, t.r_at.low, t.r_at.high) s.whole_r;
      hangs = record { inside = rw t.r_at.up t.q_at.inside; inner = rw (t.r_at.up, t.q_at.level) oa.hangs.inner; within = rw (t.r_at.up, t.r_at.index, s.wider.count) (omega (arith, wa)); child = rw (t.r_at.up, t.r_at.index) s.wider.child_r; lower = rw (t.r_at.level, s.same_top.height) oa.hangs.lower };
      down = λ i l0 lt. let inner : 0 < f.level a = rw t.r_at.level at l0 in right-down v w f h a l r m i q (f.index a + 1) sep g s.inside inner (s.halves inner) t.halves t.r_at lt;
    }
