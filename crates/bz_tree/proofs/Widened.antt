-- The children of the parent of a split slot stand below the parent made anew.
use Rattle.std.proofs.Common.{◌≡◌, ◌≢◌, ℕ, ◌+◌, ◌-◌, ◌<◌, ◌≤◌, ◌⊎◌, true, List, arith, sym, ap, subst, ◌∙◌, inl, inr, Option}
use Rattle.std.specs.Prelude.{Some}
use Rattle.std.proofs.lemmas.Bool.Decides.{nat_tests}
use Rattle.std.proofs.lemmas.Bool.{cases_eq, cases_lt}
use Rattle.bz_tree.proofs.AfterSplits.{WiderForm}
use Rattle.bz_tree.proofs.Descents.{Home, home}
use Rattle.bz_tree.proofs.Halves.{not_top}
use Rattle.bz_tree.proofs.Places.{Placed}
use Rattle.bz_tree.specs.Outcomes.{Moved}
use Rattle.bz_tree.specs.Form.{Fits, Form, Hangs, Stands}
use Rattle.bz_tree.specs.Slots.{Wider, children}
use Rattle.bz_tree.specs.View.{View}

-- the children of the wider slot
pub wider-down : (v w : View) (f h : Form) (p q a l r i k n : ℕ) (sep : List ℕ) → Fits v f → f.inside a ≡ true → a ≢ v.top → f.up a ≡ p → Wider (children v p) (children w q) (f.index a) l r sep → WiderForm v f h p q a
    → Placed h q (f.level p) (f.low p) (f.high p) k n → Placed h l (f.level a) (f.low a) (Some sep) q (f.index a) → Placed h r (f.level a) (Some sep) (f.high a) q (f.index a + 1)
    → i < w.count q → Stands w h q i (w.child q i)
wider-down v w f h p q a l r i k n sep g ins nt ua x y pq pl pr lt = elim (cases_lt i (f.index a)) [
  | inl less ↦ rw (x.child_before i less) (before less)
  | inr ge ↦ elim (cases_eq i (f.index a)) [
    | inl e ↦ rw e (rw x.child_l at_l)
    | inr ne ↦ elim (cases_eq i (f.index a + 1)) [
      | inl e ↦ rw e (rw x.child_r at_r)
      | inr ne2 ↦ let e : i ≡ (i - 1) + 1 = omega arith in subst (λ t. Stands w h q t (w.child q t)) (sym e) (rw (x.child_after (i - 1) (omega arith)) (after (i - 1) (omega arith) (omega (arith, x.count))))
    ]
  ]
]
  where
    o : Home v f a
    o = home v f a g ins nt

    sa : Stands v f p (f.index a) a
    sa = subst (λ t. Stands v f t (f.index a) a) ua o.stands

    wa : f.index a < v.count p
    wa = subst (λ t. f.index a < v.count t) ua o.hangs.within

    ip : f.inside p ≡ true
    ip = subst (λ t. f.inside t ≡ true) ua o.hangs.inside

    lp : 0 < f.level p
    lp = subst (λ t. 0 < f.level t) ua o.hangs.inner

    sibling : (j : ℕ) → j < v.count p → j ≢ f.index a → Stands v f p j (v.child p j) × (v.child p j ≢ v.top) × (v.child p j ≢ a)
    sibling j lt ne = let st : Stands v f p j (v.child p j) = g.down p j ip lp lt in (st, not_top v f p j g ip st, λ e. ne (sym st.index ∙ ap f.index e))

    before : i < f.index a → Stands w h q i (v.child p i)
    before less =
        let s : Stands v f p i (v.child p i) × (v.child p i ≢ v.top) × (v.child p i ≢ a) = sibling i (omega (arith, wa)) (omega arith) in
        let mv : Moved f h (v.child p i) = y.moved (v.child p i) s.0.inside s.1 s.2 s.0.up in record {
          inside = mv.inside;
          level = rw (mv.level, pq.level) s.0.level;
          low = mv.low ∙ s.0.low ∙ rw pq.low (grind (arith, nat_tests, x.key_before i));
          high = mv.high ∙ s.0.high ∙ rw pq.high (grind (arith, nat_tests, x.key_before (i + 1), x.count, wa));
          up = y.up (v.child p i) s.0.inside s.1 s.2 s.0.up;
          index = y.before (v.child p i) s.0.inside s.1 s.2 s.0.up (rw s.0.index less) ∙ s.0.index;
        }

    at_l : Stands w h q (f.index a) l
    at_l = record {
      inside = pl.inside;
      level = rw (pl.level, pq.level) sa.level;
      low = pl.low ∙ sa.low ∙ rw pq.low (grind (arith, nat_tests, x.key_before (f.index a)));
      high = pl.high ∙ rw pq.high (grind (arith, nat_tests, x.parted, x.count, wa));
      up = pl.up;
      index = pl.index;
    }

    at_r : Stands w h q (f.index a + 1) r
    at_r = record {
      inside = pr.inside;
      level = rw (pr.level, pq.level) sa.level;
      low = pr.low ∙ rw pq.low (grind (arith, nat_tests, x.parted));
      high = pr.high ∙ sa.high ∙ rw pq.high (grind (arith, nat_tests, x.key_after (f.index a + 1), x.count, wa));
      up = pr.up;
      index = pr.index;
    }

    after : (j : ℕ) → f.index a < j → j < v.count p → Stands w h q (j + 1) (v.child p j)
    after j more lt =
        let s : Stands v f p j (v.child p j) × (v.child p j ≢ v.top) × (v.child p j ≢ a) = sibling j lt (omega arith) in
        let mv : Moved f h (v.child p j) = y.moved (v.child p j) s.0.inside s.1 s.2 s.0.up in record {
          inside = mv.inside;
          level = rw (mv.level, pq.level) s.0.level;
          low = mv.low ∙ s.0.low ∙ rw pq.low (grind (arith, nat_tests, x.key_after j));
          high = mv.high ∙ s.0.high ∙ rw pq.high (grind (arith, nat_tests, x.key_after (j + 1), x.count));
          up = y.up (v.child p j) s.0.inside s.1 s.2 s.0.up;
          index = y.after (v.child p j) s.0.inside s.1 s.2 s.0.up (rw s.0.index more) ∙ ap (λ t. t + 1) s.0.index;
        }

-- a child of p other than a hangs from the wider slot
pub wider-hangs : (v w : View) (f h : Form) (p q a l r j k n : ℕ) (sep : List ℕ) (lo hi : Option (List ℕ)) → Fits v f → v.height ≤ w.height → f.inside a ≡ true → a ≢ v.top → f.up a ≡ p → Wider (children v p) (children w q) (f.index a) l r sep → WiderForm v f h p q a
    → Placed h q (f.level p) lo hi k n → f.inside j ≡ true → j ≢ v.top → j ≢ a → f.up j ≡ p → Hangs w h j
wider-hangs v w f h p q a l r j k n sep lo hi g tall ins nt ua x y pq jin jt ja ju = record {
  inside = rw up pq.inside;
  inner = rw (up, pq.level) (subst (λ t. 0 < f.level t) ju o.hangs.inner);
  within = rw (up, x.count) (elim side [ inl s ↦ omega (arith, s.1, wide) | inr s ↦ omega (arith, s.1, wide) ]);
  child = rw up (elim side [ inl s ↦ rw (s.1, x.child_before (f.index j) s.0) child | inr s ↦ rw (s.1, x.child_after (f.index j) s.0) child ]);
  lower = omega (arith, (y.moved j jin jt ja ju).level, o.hangs.lower);
}
  where
    o : Home v f j
    o = home v f j g jin jt

    oa : Home v f a
    oa = home v f a g ins nt

    up : h.up j ≡ q
    up = y.up j jin jt ja ju

    wide : f.index j < v.count p
    wide = subst (λ t. f.index j < v.count t) ju o.hangs.within

    child : v.child p (f.index j) ≡ j
    child = subst (λ t. v.child t (f.index j) ≡ j) ju o.hangs.child

    apart : f.index j ≢ f.index a
    apart e = ja (sym child ∙ ap (v.child p) e ∙ subst (λ t. v.child t (f.index a) ≡ a) ua oa.hangs.child)

    side : ((f.index j < f.index a) × (h.index j ≡ f.index j)) ⊎ ((f.index a < f.index j) × (h.index j ≡ f.index j + 1))
    side = elim (cases_lt (f.index j) (f.index a)) [ inl lt ↦ inl (lt, y.before j jin jt ja ju lt) | inr ge ↦ let more : f.index a < f.index j = omega (arith, apart) in inr (more, y.after j jin jt ja ju more) ]
