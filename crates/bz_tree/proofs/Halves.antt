-- The children of a split inner slot stand below its halves.
use Rattle.std.proofs.Common.{◌≡◌, ◌≢◌, ℕ, ◌+◌, ◌<◌, ◌≤◌, ◌⊎◌, true, List, arith, ap, subst, ◌∙◌, inl, inr, Option}
use Rattle.std.specs.Prelude.{Some}
use Rattle.std.proofs.lemmas.Bool.Decides.{nat_tests}
use Rattle.std.proofs.lemmas.Bool.{cases_eq, cases_lt}
use Rattle.bz_tree.proofs.AfterSplits.{HalvesForm}
use Rattle.bz_tree.proofs.Descents.{Home, home}
use Rattle.bz_tree.proofs.Places.{Placed}
use Rattle.bz_tree.specs.Outcomes.{Moved}
use Rattle.bz_tree.specs.Form.{Fits, Form, Hangs, Stands}
use Rattle.bz_tree.specs.Slots.{Halves, children}
use Rattle.bz_tree.specs.View.{View, high_at, low_at}

pub not_top : (v : View) (f : Form) (k i : ℕ) → Fits v f → f.inside k ≡ true → Stands v f k i (v.child k i) → v.child k i ≢ v.top
not_top v f k i g ins st e = absurd (omega (arith, st.level, ap f.level e, g.height, lower (cases_eq k v.top)))
  where
    lower : (k ≡ v.top) ⊎ (k ≢ v.top) → f.level k ≤ v.height
    lower (inl e) = omega (arith, ap f.level e, g.height)
    lower (inr n) = omega (arith, (g.hangs k ins n).lower)

pub left-down : (v w : View) (f h : Form) (a l r m i k n : ℕ) (sep : List ℕ) → Fits v f → f.inside a ≡ true → 0 < f.level a → Halves (children v a) (children w l) (children w r) m sep → HalvesForm v f h a l r m
    → Placed h l (f.level a) (f.low a) (Some sep) k n → i < w.count l → Stands w h l i (w.child l i)
left-down v w f h a l r m i k n sep g ins inner x y p lt =
    let il : i < m = omega (arith, x.count_l) in
    let st : Stands v f a i (v.child a i) = g.down a i ins inner (omega (arith, x.more)) in
    let nt : v.child a i ≢ v.top = not_top v f a i g ins st in
    let mv : Moved f h (v.child a i) = y.moved (v.child a i) st.inside nt st.up in
    let at : (h.up (v.child a i) ≡ l) × (h.index (v.child a i) ≡ f.index (v.child a i)) = y.left (v.child a i) st.inside nt st.up (rw st.index il) in
    rw (x.child_l i il) (record {
      inside = mv.inside;
      level = rw (mv.level, p.level) st.level;
      low = mv.low ∙ st.low ∙ (rw p.low (grind (arith, nat_tests, x.key_l i il)));
      high = mv.high ∙ st.high ∙ (rw p.high (grind (arith, nat_tests, x.key_l (i + 1), x.parted, x.count_l, x.more, ap (v.key a))));
      up = at.0;
      index = at.1 ∙ st.index;
    })

pub right-down : (v w : View) (f h : Form) (a l r m i k n : ℕ) (sep : List ℕ) → Fits v f → f.inside a ≡ true → 0 < f.level a → Halves (children v a) (children w l) (children w r) m sep → HalvesForm v f h a l r m
    → Placed h r (f.level a) (Some sep) (f.high a) k n → i < w.count r → Stands w h r i (w.child r i)
right-down v w f h a l r m i k n sep g ins inner x y p lt =
    let st : Stands v f a (i + m) (v.child a (i + m)) = g.down a (i + m) ins inner (omega (arith, x.count_r)) in
    let nt : v.child a (i + m) ≢ v.top = not_top v f a (i + m) g ins st in
    let mv : Moved f h (v.child a (i + m)) = y.moved (v.child a (i + m)) st.inside nt st.up in
    let at : (h.up (v.child a (i + m)) ≡ r) × (h.index (v.child a (i + m)) + m ≡ f.index (v.child a (i + m))) = y.right (v.child a (i + m)) st.inside nt st.up (rw st.index (omega arith)) in
    rw (x.child_r i) (record {
      inside = mv.inside;
      level = rw (mv.level, p.level) st.level;
      low = mv.low ∙ st.low ∙ rw p.low (bound_low (cases_eq i 0));
      high = mv.high ∙ st.high ∙ rw p.high (bound_high (cases_eq (i + 1) (w.count r)));
      up = at.0;
      index = omega (arith, at.1, st.index);
    })
  where
    bound_low : (i ≡ 0) ⊎ (i ≢ 0) → low_at v a (f.low a) (i + m) ≡ low_at w r (Some sep) i
    bound_low (inl e) = let q : i + m ≡ m = omega arith in grind (arith, nat_tests, x.parted, x.some, ap (v.key a) q)
    bound_low (inr e) = grind (arith, nat_tests, x.key_r i, x.some)

    bound_high : (i + 1 ≡ w.count r) ⊎ (i + 1 ≢ w.count r) → high_at v a (f.high a) (i + m) ≡ high_at w r (f.high a) i
    bound_high (inl e) = grind (arith, nat_tests, x.count_r)
    bound_high (inr e) = let q : i + 1 + m ≡ i + m + 1 = omega arith in grind (arith, nat_tests, x.key_r (i + 1), x.count_r, ap (v.key a) q)

-- a child of a hangs from l or r
pub halves-hang : (v w : View) (f h : Form) (a l r m j kl nl kr nr : ℕ) (sep : List ℕ) (lo hi lo2 hi2 : Option (List ℕ)) → Fits v f → v.height ≤ w.height → f.inside a ≡ true → Halves (children v a) (children w l) (children w r) m sep → HalvesForm v f h a l r m
    → Placed h l (f.level a) lo hi kl nl → Placed h r (f.level a) lo2 hi2 kr nr → f.inside j ≡ true → j ≢ v.top → f.up j ≡ a → Hangs w h j
halves-hang v w f h a l r m j kl nl kr nr sep lo hi lo2 hi2 g tall ins x y pl pr jin jt ju = elim (cases_lt (f.index j) m) [
  | inl lt ↦ let at : (h.up j ≡ l) × (h.index j ≡ f.index j) = y.left j jin jt ju lt in record {
    inside = rw at.0 pl.inside;
    inner = rw (at.0, pl.level) inner;
    within = rw (at.0, at.1, x.count_l) lt;
    child = rw (at.0, at.1, x.child_l (f.index j) lt) child;
    lower = lower;
  }
  | inr le ↦ let at : (h.up j ≡ r) × (h.index j + m ≡ f.index j) = y.right j jin jt ju le in record {
    inside = rw at.0 pr.inside;
    inner = rw (at.0, pr.level) inner;
    within = rw at.0 (omega (arith, at.1, x.count_r, wide));
    child = rw (at.0, x.child_r (h.index j), at.1) child;
    lower = lower;
  }
]
  where
    o : Home v f j
    o = home v f j g jin jt

    inner : 0 < f.level a
    inner = subst (λ k. 0 < f.level k) ju o.hangs.inner

    wide : f.index j < v.count a
    wide = subst (λ k. f.index j < v.count k) ju o.hangs.within

    child : v.child a (f.index j) ≡ j
    child = subst (λ k. v.child k (f.index j) ≡ j) ju o.hangs.child

    lower : h.level j < w.height
    lower = omega (arith, (y.moved j jin jt ju).level, o.hangs.lower)
