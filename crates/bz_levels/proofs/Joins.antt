-- A merge of two inner slots is a graft.
use Rattle.std.proofs.Common.{◌≡◌, ◌≢◌, ℕ, ◌+◌, ◌-◌, ◌<◌, ◌≤◌, ◌==◌, ◌⊎◌, true, false, List, arith, refl, sym, ap, subst, ◌∙◌, inl, inr}
use Rattle.std.specs.Prelude.{None, Some}
use Rattle.std.proofs.lemmas.Bool.Decides.{nat_tests}
use Rattle.std.proofs.lemmas.Bool.{cases_eq, cases_lt, true≢false}
use Rattle.bz_tree.proofs.Descents.{Home, home}
use Rattle.bz_tree.proofs.Grafts.{Fresh, Graft}
use Rattle.bz_tree.proofs.Keeps.{hangs-new, stands-new}
use Rattle.bz_tree.proofs.Merges.{three, is_three, no_three}
use Rattle.bz_levels.proofs.JoinForms.{JoinForm}
use Rattle.bz_tree.specs.Outcomes.{Moved, Stays}
use Rattle.bz_tree.specs.Form.{Fits, Form, Hangs, Stands}
use Rattle.bz_tree.specs.Slots.{Halves, children}
use Rattle.bz_tree.specs.View.{View, high_at, low_at}
use Rattle.bz_levels.specs.InnerMerge.{InnerMerge}

pub graft-join : (v w : View) (f h : Form) (a b q c : ℕ) (sep : List ℕ) → Fits v f → InnerMerge v w f a b q c sep → JoinForm v f h a b q c (v.count a)
    → Graft v w f h (three a b (f.up a)) (f.up (f.up a)) (f.index (f.up a)) q
graft-join v w f h a b q c sep g s t = record {
  same_top = s.same_top.top;
  taller = tall;
  height = λ ne. s.same_top.height;
  inside = op.hangs.inside;
  inner = op.hangs.inner;
  within = op.hangs.within;
  stays_there = rw (no a _ g_not_a, no b _ g_not_b, no (f.up a) _ g_not_p) refl;
  link = s.link;
  placed = stands-new v w f h (f.up (f.up a)) (f.index (f.up a)) q (f.level (f.up a)) s.link g_kept.moved (sym op.stands.level)
      (record { inside = t.q_at.inside; level = t.q_at.level; low = t.q_at.low ∙ op.stands.low; high = t.q_at.high ∙ op.stands.high; up = t.q_at.up; index = t.q_at.index });
  cut = rw op.hangs.child (grind (arith, nat_tests));
  whole_cut = λ j ins gn ne. elim (is_three a b (f.up a) j gn) [ inl e ↦ rw (ap f.up e) (grind (arith, nat_tests)) | inr o ↦ elim o [ inl e ↦ rw (ap f.up e ∙ s.same_up) (grind (arith, nat_tests)) | inr e ↦ absurd (ne (e ∙ sym op.hangs.child)) ] ];
  others = λ j ins gn far. let n : (j ≢ a) × (j ≢ b) × (j ≢ f.up a) = no_three a b (f.up a) j gn in s.others j ins n.0 n.1 n.2 far;
  top_stays = rw (no a _ (λ e. s.not_top (sym e)), no b _ (λ e. s.not_top_b (sym e)), no (f.up a) _ (λ e. s.deep (sym e))) refl;
  super = super;
  top = record { inside = top_kept.moved.inside; level = top_kept.moved.level ∙ g.height ∙ sym s.same_top.height; low = top_kept.moved.low ∙ g.top_low; high = top_kept.moved.high ∙ g.top_high; up = top_kept.up ∙ g.top_up; index = top_kept.index };
  moved = λ j ins gn nt. let n : (j ≢ a) × (j ≢ b) × (j ≢ f.up a) = no_three a b (f.up a) j gn in elim (cases_eq (f.up j) (f.up a)) [ inl e ↦ t.moved j ins nt n.0 n.1 e | inr ne ↦ elim (cases_eq (f.up j) a) [ inl e ↦ (t.below_a j ins e).0 | inr ua ↦ elim (cases_eq (f.up j) b) [ inl e ↦ (t.below_b j ins e).0 | inr un ↦ (t.kept j ins n.2 ne ua un).moved ] ] ];
  stays = λ j ins gn gu nt. let n : (j ≢ a) × (j ≢ b) × (j ≢ f.up a) = no_three a b (f.up a) j gn in let u : (f.up j ≢ a) × (f.up j ≢ b) × (f.up j ≢ f.up a) = no_three a b (f.up a) (f.up j) gu in t.kept j ins n.2 u.2 u.0 u.1;
  only = λ j ins. elim (t.only j ins) [
    | inl e ↦ inl (subst (λ x. Fresh w h x) (sym e) fresh_q)
    | inr o ↦ elim o [
      | inl e ↦ inl (subst (λ x. Fresh w h x) (sym e) fresh_c)
      | inr k ↦ inr (k.0, rw (no a j k.1, no b j k.2, no (f.up a) j k.3) refl)
    ]
  ];
  orphans = λ j ins gn gu nt. let n : (j ≢ a) × (j ≢ b) × (j ≢ f.up a) = no_three a b (f.up a) j gn in elim (is_three a b (f.up a) (f.up j) gu) [
    | inl e ↦ hangs_a j ins nt e
    | inr o ↦ elim o [ inl e ↦ hangs_b j ins nt e | inr e ↦ orphan j ins nt n.0 n.1 e ]
  ];
}
  where
    no : (k j : ℕ) → j ≢ k → (j == k) ≡ false
    no k j ne = grind (arith, nat_tests)

    oa : Home v f a
    oa = home v f a g s.inside s.not_top

    ob : Home v f b
    ob = home v f b g s.inside_b s.not_top_b

    op : Home v f (f.up a)
    op = home v f (f.up a) g oa.hangs.inside s.deep

    level_b : f.level b ≡ f.level a
    level_b = omega (arith, oa.stands.level, ob.stands.level, ap f.level s.same_up)

    tall : v.height ≤ w.height
    tall = omega (arith, s.same_top.height)

    g_not_a : f.up (f.up a) ≢ a
    g_not_a e = absurd (omega (arith, oa.stands.level, op.stands.level, ap f.level e))

    g_not_b : f.up (f.up a) ≢ b
    g_not_b e = absurd (omega (arith, oa.stands.level, op.stands.level, level_b, ap f.level e))

    g_not_p : f.up (f.up a) ≢ f.up a
    g_not_p e = absurd (omega (arith, op.stands.level, ap f.level e))

    lower : (k : ℕ) → f.inside k ≡ true → f.level k ≤ v.height
    lower k i = elim (cases_eq k v.top) [ inl e ↦ omega (arith, ap f.level e, g.height) | inr n ↦ omega (arith, (g.hangs k i n).lower) ]

    g_up : f.up (f.up (f.up a)) ≢ f.up a
    g_up e = elim (cases_eq (f.up (f.up a)) v.top) [
      | inl t ↦ absurd (omega (arith, op.stands.level, ap f.level e, ap f.level (ap f.up t ∙ g.top_up), g.height, lower (f.up (f.up a)) op.hangs.inside))
      | inr n ↦ absurd (omega (arith, op.stands.level, ap f.level e, (home v f (f.up (f.up a)) g op.hangs.inside n).stands.level))
    ]

    g_high : f.level a < f.level (f.up (f.up (f.up a)))
    g_high = elim (cases_eq (f.up (f.up a)) v.top) [
      | inl t ↦ omega (arith, oa.stands.level, op.stands.level, ap f.level (ap f.up t ∙ g.top_up), g.height, lower (f.up (f.up a)) op.hangs.inside)
      | inr n ↦ omega (arith, oa.stands.level, op.stands.level, (home v f (f.up (f.up a)) g op.hangs.inside n).stands.level)
    ]

    g_kept : Stays f h (f.up (f.up a))
    g_kept = t.kept (f.up (f.up a)) op.hangs.inside g_not_p g_up (λ e. absurd (omega (arith, g_high, ap f.level e))) (λ e. absurd (omega (arith, g_high, level_b, ap f.level e)))

    top_kept : Stays f h v.top
    top_kept = t.kept v.top g.top (λ e. s.deep (sym e)) (λ e. s.deep (sym e ∙ g.top_up)) (λ e. s.not_top (sym e ∙ g.top_up)) (λ e. s.not_top_b (sym e ∙ g.top_up))

    super : w.fault v.top w.height None None ≡ None
    super = rw s.same_top.height (elim (cases_eq (f.up (f.up a)) v.top) [
      | inl e ↦ let x : w.fault v.top (f.level v.top) (f.low v.top) (f.high v.top) ≡ None = subst (λ k. w.fault k (f.level k) (f.low k) (f.high k) ≡ None) e s.link.whole in rw (g.height, g.top_low, g.top_high) at x
      | inr n ↦ (s.others v.top g.top (λ e. s.not_top (sym e)) (λ e. s.not_top_b (sym e)) (λ e. s.deep (sym e)) (λ e. n (sym e))).fault v.height None None g.super
    ])

    not_inside : (k : ℕ) → f.inside k ≡ false → k ≢ w.top
    not_inside k i e = true≢false (sym g.top ∙ ap f.inside (sym (e ∙ s.same_top.top)) ∙ i)

    wb : f.index b < v.count (f.up a)
    wb = subst (λ k. f.index b < v.count k) s.same_up ob.hangs.within

    sb : Stands v f (f.up a) (f.index b) b
    sb = subst (λ k. Stands v f k (f.index b) b) s.same_up ob.stands

    child_b : v.child (f.up a) (f.index b) ≡ b
    child_b = subst (λ k. v.child k (f.index b) ≡ b) s.same_up ob.hangs.child

    orphan : (j : ℕ) → f.inside j ≡ true → j ≢ v.top → j ≢ a → j ≢ b → f.up j ≡ f.up a → Hangs w h j
    orphan j ins nt na nb ju = record {
      inside = rw up t.q_at.inside;
      inner = rw (up, t.q_at.level) oa.hangs.inner;
      within = rw up (elim side [ inl k ↦ omega (arith, k.1, k.0, wide, s.narrower.count, wb, s.next) | inr k ↦ omega (arith, k.1, wide, s.narrower.count) ]);
      child = rw up (elim side [ inl k ↦ rw k.1 (sym (s.narrower.child_before (f.index j) k.0) ∙ child) | inr k ↦ sym (s.narrower.child_after (h.index j) (omega (arith, k.0, k.1, s.next))) ∙ rw k.1 child ]);
      lower = omega (arith, (t.moved j ins nt na nb ju).level, oj.hangs.lower, tall);
    }
      where
        oj : Home v f j
        oj = home v f j g ins nt

        up : h.up j ≡ q
        up = t.up j ins nt na nb ju

        wide : f.index j < v.count (f.up a)
        wide = subst (λ k. f.index j < v.count k) ju oj.hangs.within

        child : v.child (f.up a) (f.index j) ≡ j
        child = subst (λ k. v.child k (f.index j) ≡ j) ju oj.hangs.child

        not_a : f.index j ≢ f.index a
        not_a e = na (sym child ∙ ap (v.child (f.up a)) e ∙ oa.hangs.child)

        not_b : f.index j ≢ f.index b
        not_b e = nb (sym child ∙ ap (v.child (f.up a)) e ∙ child_b)

        side : ((f.index j < f.index a) × (h.index j ≡ f.index j)) ⊎ ((f.index b < f.index j) × (h.index j + 1 ≡ f.index j))
        side = elim (cases_lt (f.index j) (f.index a)) [
          | inl less ↦ inl (less, t.before j ins nt na nb ju less)
          | inr ge ↦ let more : f.index b < f.index j = omega (arith, not_a, not_b, s.next) in inr (more, t.after j ins nt na nb ju more)
        ]

    fresh_q : Fresh w h q
    fresh_q = record {
      not_top = not_inside q s.fresh_q;
      whole = rw (t.q_at.level, t.q_at.low, t.q_at.high) s.whole_q;
      hangs = hangs-new v w f h (f.up (f.up a)) (f.index (f.up a)) q (f.level (f.up a)) (f.low (f.up a)) (f.high (f.up a)) s.same_top s.link g_kept.moved op.hangs.inner op.hangs.within t.q_at op.hangs.lower;
      down = λ i l0 lt. elim (cases_lt i (f.index a)) [
        | inl less ↦ rw (sym (s.narrower.child_before i less)) (before i less)
        | inr ge ↦ elim (cases_eq i (f.index a)) [ inl e ↦ rw e (rw s.child at_c) | inr ne ↦ rw (sym (s.narrower.child_after i (omega arith))) (after i (omega arith) (omega (arith, lt, s.narrower.count))) ]
      ];
    }
      where
        sibling : (j : ℕ) → j < v.count (f.up a) → j ≢ f.index a → j ≢ f.index b → Stands v f (f.up a) j (v.child (f.up a) j) × (v.child (f.up a) j ≢ v.top) × (v.child (f.up a) j ≢ a) × (v.child (f.up a) j ≢ b)
        sibling j lt na nb = let st : Stands v f (f.up a) j (v.child (f.up a) j) = g.down (f.up a) j oa.hangs.inside oa.hangs.inner lt in
            (st, (λ e. absurd (omega (arith, st.level, ap f.level e, g.height, op.hangs.lower))), (λ e. na (sym st.index ∙ ap f.index e)), (λ e. nb (sym st.index ∙ ap f.index e)))

        at_c : Stands w h q (f.index a) c
        at_c = record {
          inside = t.c_at.inside;
          level = rw (t.c_at.level, t.q_at.level) oa.stands.level;
          low = t.c_at.low ∙ oa.stands.low ∙ rw t.q_at.low (grind (arith, nat_tests, s.narrower.key_before (f.index a)));
          high = t.c_at.high ∙ sb.high ∙ rw t.q_at.high (grind (arith, nat_tests, s.narrower.key_after (f.index a + 1), s.narrower.count, wb, s.next, ap (v.key (f.up a)) s.next));
          up = t.c_at.up;
          index = t.c_at.index;
        }

        before : (i : ℕ) → i < f.index a → Stands w h q i (v.child (f.up a) i)
        before i less =
            let x : Stands v f (f.up a) i (v.child (f.up a) i) × (v.child (f.up a) i ≢ v.top) × (v.child (f.up a) i ≢ a) × (v.child (f.up a) i ≢ b) = sibling i (omega (arith, wb, s.next)) (omega arith) (omega (arith, s.next)) in
            let mv : Moved f h (v.child (f.up a) i) = t.moved (v.child (f.up a) i) x.0.inside x.1 x.2 x.3 x.0.up in record {
              inside = mv.inside;
              level = rw (mv.level, t.q_at.level) x.0.level;
              low = mv.low ∙ x.0.low ∙ rw t.q_at.low (grind (arith, nat_tests, s.narrower.key_before i));
              high = mv.high ∙ x.0.high ∙ rw t.q_at.high (grind (arith, nat_tests, s.narrower.key_before (i + 1), s.narrower.count, wb, s.next));
              up = t.up (v.child (f.up a) i) x.0.inside x.1 x.2 x.3 x.0.up;
              index = t.before (v.child (f.up a) i) x.0.inside x.1 x.2 x.3 x.0.up (rw x.0.index less) ∙ x.0.index;
            }

        after : (i : ℕ) → f.index a < i → i + 1 < v.count (f.up a) → Stands w h q i (v.child (f.up a) (i + 1))
        after i more lt =
            let x : Stands v f (f.up a) (i + 1) (v.child (f.up a) (i + 1)) × (v.child (f.up a) (i + 1) ≢ v.top) × (v.child (f.up a) (i + 1) ≢ a) × (v.child (f.up a) (i + 1) ≢ b) = sibling (i + 1) lt (omega arith) (omega (arith, s.next)) in
            let mv : Moved f h (v.child (f.up a) (i + 1)) = t.moved (v.child (f.up a) (i + 1)) x.0.inside x.1 x.2 x.3 x.0.up in record {
              inside = mv.inside;
              level = rw (mv.level, t.q_at.level) x.0.level;
              low = mv.low ∙ x.0.low ∙ rw t.q_at.low (grind (arith, nat_tests, s.narrower.key_after i));
              high = mv.high ∙ x.0.high ∙ rw t.q_at.high (grind (arith, nat_tests, s.narrower.key_after (i + 1), s.narrower.count));
              up = t.up (v.child (f.up a) (i + 1)) x.0.inside x.1 x.2 x.3 x.0.up;
              index = omega (arith, t.after (v.child (f.up a) (i + 1)) x.0.inside x.1 x.2 x.3 x.0.up (rw x.0.index (omega (arith, s.next))), x.0.index);
            }

    parted : v.key (f.up a) (f.index a + 1) ≡ sep
    parted = s.narrower.parted

    mid_a : f.high a ≡ Some sep
    mid_a = oa.stands.high ∙ grind (arith, nat_tests, s.next, wb, parted)

    mid_b : f.low b ≡ Some sep
    mid_b = sb.low ∙ grind (arith, nat_tests, s.next, parted, ap (v.key (f.up a)) s.next)

    inner_b : 0 < f.level a → 0 < f.level b
    inner_b l = omega (arith, l, level_b)

    -- a child of a, and a child of b, stand in c
    down_a : (i : ℕ) → 0 < f.level a → i < v.count a → Stands w h c i (w.child c i)
    down_a i inner lt =
        let x : Halves (children w c) (children v a) (children v b) (v.count a) sep = s.joined in
        let st : Stands v f a i (v.child a i) = g.down a i s.inside inner lt in
        let at : Moved f h (v.child a i) × ((h.up (v.child a i) ≡ c) × (h.index (v.child a i) ≡ f.index (v.child a i))) = t.below_a (v.child a i) st.inside st.up in
        rw (sym (x.child_l i lt)) (record {
          inside = at.0.inside;
          level = rw (at.0.level, t.c_at.level) st.level;
          low = at.0.low ∙ st.low ∙ rw t.c_at.low (grind (arith, nat_tests, x.key_l i lt));
          high = at.0.high ∙ st.high ∙ rw t.c_at.high (bound x (cases_eq (i + 1) (v.count a)));
          up = at.1.0;
          index = at.1.1 ∙ st.index;
        })
      where
        bound : Halves (children w c) (children v a) (children v b) (v.count a) sep → (i + 1 ≡ v.count a) ⊎ (i + 1 ≢ v.count a) → high_at v a (f.high a) i ≡ high_at w c (f.high b) i
        bound x (inl e) = grind (arith, nat_tests, mid_a, x.parted, x.more, ap (w.key c) e)
        bound x (inr e) = grind (arith, nat_tests, x.key_l (i + 1), x.more)

    at_b : (n : ℕ) → 0 < f.level a → n < v.count b → Stands w h c (n + v.count a) (w.child c (n + v.count a))
    at_b n inner lt =
        let x : Halves (children w c) (children v a) (children v b) (v.count a) sep = s.joined in
        let st : Stands v f b n (v.child b n) = g.down b n s.inside_b (inner_b inner) lt in
        let at : Moved f h (v.child b n) × ((h.up (v.child b n) ≡ c) × (h.index (v.child b n) ≡ f.index (v.child b n) + v.count a)) = t.below_b (v.child b n) st.inside st.up in
        rw (sym (x.child_r n)) (record {
          inside = at.0.inside;
          level = rw (at.0.level, t.c_at.level) (st.level ∙ level_b);
          low = at.0.low ∙ st.low ∙ rw t.c_at.low (bound_low x (cases_eq n 0));
          high = at.0.high ∙ st.high ∙ rw t.c_at.high (bound_high x (cases_eq (n + 1) (v.count b)));
          up = at.1.0;
          index = at.1.1 ∙ ap (λ k. k + v.count a) st.index;
        })
      where
        bound_low : Halves (children w c) (children v a) (children v b) (v.count a) sep → (n ≡ 0) ⊎ (n ≢ 0) → low_at v b (f.low b) n ≡ low_at w c (f.low a) (n + v.count a)
        bound_low x (inl e) = let q : n + v.count a ≡ v.count a = omega arith in grind (arith, nat_tests, mid_b, x.parted, x.some, ap (w.key c) q)
        bound_low x (inr e) = grind (arith, nat_tests, x.key_r n, x.some)

        bound_high : Halves (children w c) (children v a) (children v b) (v.count a) sep → (n + 1 ≡ v.count b) ⊎ (n + 1 ≢ v.count b) → high_at v b (f.high b) n ≡ high_at w c (f.high b) (n + v.count a)
        bound_high x (inl e) = grind (arith, nat_tests, x.count_r)
        bound_high x (inr e) = let q : n + 1 + v.count a ≡ n + v.count a + 1 = omega arith in grind (arith, nat_tests, x.key_r (n + 1), x.count_r, ap (w.key c) q)

    down_b : (i : ℕ) → 0 < f.level a → v.count a ≤ i → i < w.count c → Stands w h c i (w.child c i)
    down_b i inner le lt =
        let x : Halves (children w c) (children v a) (children v b) (v.count a) sep = s.joined in
        let e : i ≡ (i - v.count a) + v.count a = omega arith in
        subst (λ k. Stands w h c k (w.child c k)) (sym e) (at_b (i - v.count a) inner (omega (arith, le, lt, x.count_r)))

    hangs_a : (j : ℕ) → f.inside j ≡ true → j ≢ v.top → f.up j ≡ a → Hangs w h j
    hangs_a j ins nt ju =
        let o : Home v f j = home v f j g ins nt in
        let inner : 0 < f.level a = subst (λ k. 0 < f.level k) ju o.hangs.inner in
        let x : Halves (children w c) (children v a) (children v b) (v.count a) sep = s.joined in
        let wide : f.index j < v.count a = subst (λ k. f.index j < v.count k) ju o.hangs.within in
        let child : v.child a (f.index j) ≡ j = subst (λ k. v.child k (f.index j) ≡ j) ju o.hangs.child in
        let at : Moved f h j × ((h.up j ≡ c) × (h.index j ≡ f.index j)) = t.below_a j ins ju in record {
          inside = rw at.1.0 t.c_at.inside;
          inner = rw (at.1.0, t.c_at.level) inner;
          within = rw (at.1.0, at.1.1) (omega (arith, wide, x.more));
          child = rw (at.1.0, at.1.1) (sym (x.child_l (f.index j) wide) ∙ child);
          lower = omega (arith, at.0.level, o.hangs.lower, tall);
        }

    hangs_b : (j : ℕ) → f.inside j ≡ true → j ≢ v.top → f.up j ≡ b → Hangs w h j
    hangs_b j ins nt ju =
        let o : Home v f j = home v f j g ins nt in
        let inner : 0 < f.level a = omega (arith, level_b, subst (λ k. 0 < f.level k) ju o.hangs.inner) in
        let x : Halves (children w c) (children v a) (children v b) (v.count a) sep = s.joined in
        let wide : f.index j < v.count b = subst (λ k. f.index j < v.count k) ju o.hangs.within in
        let child : v.child b (f.index j) ≡ j = subst (λ k. v.child k (f.index j) ≡ j) ju o.hangs.child in
        let at : Moved f h j × ((h.up j ≡ c) × (h.index j ≡ f.index j + v.count a)) = t.below_b j ins ju in record {
          inside = rw at.1.0 t.c_at.inside;
          inner = rw (at.1.0, t.c_at.level) inner;
          within = rw (at.1.0, at.1.1) (omega (arith, wide, x.count_r));
          child = rw (at.1.0, at.1.1) (sym (x.child_r (f.index j)) ∙ child);
          lower = omega (arith, at.0.level, o.hangs.lower, tall);
        }

    fresh_c : Fresh w h c
    fresh_c = record {
      not_top = not_inside c s.fresh_c;
      whole = rw (t.c_at.level, t.c_at.low, t.c_at.high) s.whole_c;
      hangs = record { inside = rw t.c_at.up t.q_at.inside; inner = rw (t.c_at.up, t.q_at.level) oa.hangs.inner; within = rw (t.c_at.up, t.c_at.index) (omega (arith, s.narrower.count, wb, s.next)); child = rw (t.c_at.up, t.c_at.index) s.child; lower = omega (arith, t.c_at.level, oa.hangs.lower, tall) };
      down = λ i l0 lt. let inner : 0 < f.level a = rw t.c_at.level at l0 in elim (cases_lt i (v.count a)) [ inl less ↦ down_a i inner less | inr ge ↦ down_b i inner ge lt ];
    }
