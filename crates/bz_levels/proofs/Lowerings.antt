-- A root with one child that gives way to it: the form after, which fits, and the content, which stays.
use Rattle.std.proofs.Common.{◌≡◌, ◌≢◌, ℕ, ◌+◌, ◌<◌, ◌==◌, ◌||◌, ◌&&◌, if◌then◌else◌, Bool, true, false, List, [], ◌∷◌, arith, refl, sym, ap, subst, ◌∙◌, inl, inr}
use Rattle.std.specs.Prelude.{not, None}
use Rattle.std.proofs.lemmas.Bool.Decides.{nat_tests}
use Rattle.std.proofs.lemmas.Bool.{cases_eq}
use Rattle.bz_tree.proofs.Descents.{Home, home, leaf-found, leaf-unique}
use Rattle.bz_tree.proofs.Frames.{tree}
use Rattle.bz_tree.proofs.Keeps.{stands-kept}
use Rattle.bz_tree.proofs.SameForms.{form-same}
use Rattle.bz_tree.proofs.TreeForms.{fits}
use Rattle.bz_tree.specs.Descent.{content, leaf_of}
use Rattle.bz_tree.specs.Form.{Fits, Form, Hangs, Holds, IsHonest, Stands}
use Rattle.bz_tree.specs.Outcomes.{Agree, Moved, Stays}
use Rattle.bz_tree.specs.Slots.{SameSlot}
use Rattle.bz_tree.specs.View.{View}
use Rattle.bz_tree.specs.Walk.{form, is_among}
use Rattle.bz_levels.specs.Laws.{RootLoweringsKeepTheContent}
use Rattle.bz_levels.specs.RootLowering.{RootLowering}

-- where each slot stands then
abbrev pub lowered : ℕ → ℕ → Form → ℕ → ℕ → Form
lowered top height f p c = record {
  inside = λ j. if j == p then false else f.inside j;
  level = λ j. if j == top then height else f.level j;
  low = f.low;
  high = f.high;
  up = λ j. if j == c then top else f.up j;
  index = λ j. if j == c then 0 else f.index j;
}

no : (k j : ℕ) → j ≢ k → (j == k) ≡ false
no k j ne = grind (arith, nat_tests)

is : (k j : ℕ) → j ≡ k → (j == k) ≡ true
is k j e = grind (arith, nat_tests)

module _ (v w : View) (f : Form) (p c : ℕ) (g : Fits v f) (s : RootLowering v w f p c) where
  abbrev h : Form
  h = lowered v.top w.height f p c

  op : Home v f p
  op = home v f p g s.inside s.not_top

  first : f.index p ≡ 0
  first = omega (arith, op.hangs.within, ap v.count s.root, g.top_one)

  root-is : v.child v.top 0 ≡ p
  root-is = (λ t. v.child (sym s.root t) (sym first t)) ∙ op.hangs.child

  level-p : f.level p + 1 ≡ v.height
  level-p = op.stands.level ∙ ap f.level s.root ∙ g.height

  sc : Stands v f p 0 c
  sc = subst (λ k. Stands v f p 0 k) s.child (g.down p 0 s.inside s.inner (omega (arith, s.one)))

  c-not-p : c ≢ p
  c-not-p e = absurd (omega (arith, sc.level, ap f.level e))

  c-not-top : c ≢ v.top
  c-not-top e = absurd (omega (arith, sc.level, ap f.level e, g.height, level-p))

  p-not-top : v.top ≢ p
  p-not-top e = s.not_top (sym e)

  -- the child has no bounds, as the root has none
  low-c : f.low c ≡ None
  low-c = sc.low ∙ (op.stands.low ∙ rw (first, s.root) g.top_low)

  one-top : (f.index p + 1 == v.count (f.up p)) ≡ true
  one-top = rw (first, s.root, g.top_one) refl

  high-c : f.high c ≡ None
  high-c =
      let one : (0 + 1 == v.count p) ≡ true = rw s.one refl in
      sc.high ∙ rw one (op.stands.high ∙ rw one-top (ap f.high s.root ∙ g.top_high))

  only-child : (j : ℕ) → f.inside j ≡ true → j ≢ v.top → f.up j ≡ p → j ≡ c
  only-child j ins nt u =
      let o : Home v f j = home v f j g ins nt in
      let z : f.index j ≡ 0 = omega (arith, o.hangs.within, ap v.count u, s.one) in
      sym o.hangs.child ∙ (λ t. v.child (u t) (z t)) ∙ s.child

  only-root : (j : ℕ) → f.inside j ≡ true → j ≢ v.top → f.up j ≡ v.top → j ≡ p
  only-root j ins nt u =
      let o : Home v f j = home v f j g ins nt in
      let z : f.index j ≡ 0 = omega (arith, o.hangs.within, ap v.count u, g.top_one) in
      sym o.hangs.child ∙ (λ t. v.child (u t) (z t)) ∙ root-is

  -- a slot that stays: it is reached, and is not the root
  remains : (j : ℕ) → h.inside j ≡ true → (f.inside j ≡ true) × (j ≢ p)
  remains j ins = elim (cases_eq j p) [ inl e ↦ absurd (grind (arith, nat_tests)) | inr np ↦ (rw (no p j np) at ins, np) ]

  moved : (j : ℕ) → f.inside j ≡ true → j ≢ p → j ≢ v.top → Moved f h j
  moved j ins np nt = record { inside = rw (no p j np) ins; level = rw (no v.top j nt) refl; low = refl; high = refl }

  stays : (j : ℕ) → f.inside j ≡ true → j ≢ p → j ≢ v.top → j ≢ c → Stays f h j
  stays j ins np nt nc = record { moved = moved j ins np nt; up = rw (no c j nc) refl; index = rw (no c j nc) refl }

  lower : (j : ℕ) → f.inside j ≡ true → j ≢ p → j ≢ v.top → f.level j < w.height
  lower j ins np nt = elim (cases_eq (f.up j) v.top) [
    | inl u ↦ absurd (np (only-root j ins nt u))
    | inr nu ↦ let o : Home v f j = home v f j g ins nt in omega (arith, o.stands.level, (g.hangs (f.up j) o.hangs.inside nu).lower, s.height)
  ]

  stands-c : Stands w h v.top 0 c
  stands-c = record {
    inside = rw (no p c c-not-p) sc.inside;
    level = rw (no v.top c c-not-top, is v.top v.top refl) (omega (arith, sc.level, level-p, s.height));
    low = low-c ∙ sym g.top_low;
    high = let e : (0 + 1 == w.count v.top) ≡ true = rw (s.link.count, g.top_one) refl in high-c ∙ sym (rw e g.top_high);
    up = rw (is c c refl) refl;
    index = rw (is c c refl) refl;
  }

  down : (k i : ℕ) → h.inside k ≡ true → 0 < h.level k → i < w.count k → Stands w h k i (w.child k i)
  down k i at l lt = elim (cases_eq k v.top) [ inl e ↦ top-down e | inr nt ↦ kept-down nt ]
    where
      ins : (f.inside k ≡ true) × (k ≢ p)
      ins = remains k at

      top-down : k ≡ v.top → Stands w h k i (w.child k i)
      top-down e =
          let z : i ≡ 0 = omega (arith, lt, ap w.count e, s.link.count, g.top_one) in
          let d : w.child v.top 0 ≡ c = s.link.child 0 in
          subst (λ t. Stands w h t i (w.child t i)) (sym e) (subst (λ t. Stands w h v.top t (w.child v.top t)) (sym z) (rw d stands-c))

      kept-down : k ≢ v.top → Stands w h k i (w.child k i)
      kept-down nt =
          let same : SameSlot v w k = s.others k ins.0 ins.1 nt in
          let inner : 0 < f.level k = rw (no v.top k nt) at l in
          let st : Stands v f k i (v.child k i) = g.down k i ins.0 inner (rw same.count at lt) in
          let top : v.child k i ≢ v.top = λ e. absurd (omega (arith, st.level, ap f.level e, g.height, (g.hangs k ins.0 nt).lower)) in
          let np : v.child k i ≢ p = λ e. nt (sym st.up ∙ ap f.up e ∙ s.root) in
          let nc : v.child k i ≢ c = λ e. ins.1 (sym st.up ∙ ap f.up e ∙ sc.up) in
          stands-kept v w f h k i same (moved k ins.0 ins.1 nt) (stays (v.child k i) st.inside np top nc) st

  hangs-c : Hangs w h c
  hangs-c = record {
    inside = rw (is c c refl, no p v.top p-not-top) g.top;
    inner = rw (is c c refl, is v.top v.top refl) (omega (arith, level-p, s.height, s.inner));
    within = rw (is c c refl, s.link.count, g.top_one) (omega arith);
    child = rw (is c c refl, s.link.child 0) refl;
    lower = rw (no v.top c c-not-top) (omega (arith, sc.level, level-p, s.height));
  }

  hangs : (k : ℕ) → h.inside k ≡ true → k ≢ v.top → Hangs w h k
  hangs k at nt = elim (cases_eq k c) [ inl e ↦ subst (λ t. Hangs w h t) (sym e) hangs-c | inr nc ↦ kept-hangs nc ]
    where
      ins : (f.inside k ≡ true) × (k ≢ p)
      ins = remains k at

      kept-hangs : k ≢ c → Hangs w h k
      kept-hangs nc =
          let o : Home v f k = home v f k g ins.0 nt in
          let up : f.up k ≢ p = λ u. nc (only-child k ins.0 nt u) in
          let far : f.up k ≢ v.top = λ u. ins.1 (only-root k ins.0 nt u) in
          let same : SameSlot v w (f.up k) = s.others (f.up k) o.hangs.inside up far in record {
            inside = rw (no c k nc, no p (f.up k) up) o.hangs.inside;
            inner = rw (no c k nc, no v.top (f.up k) far) o.hangs.inner;
            within = rw (no c k nc, same.count) o.hangs.within;
            child = rw (no c k nc, same.child (f.index k)) o.hangs.child;
            lower = rw (no v.top k nt) (lower k ins.0 ins.1 nt);
          }

  fits-w : Fits w h
  fits-w = record {
    top = rw (s.top, no p v.top p-not-top) g.top;
    top_up = rw (s.top, no c v.top (λ e. c-not-top (sym e))) g.top_up;
    top_low = rw s.top g.top_low;
    top_high = rw s.top g.top_high;
    top_one = rw (s.top, s.link.count) g.top_one;
    height = rw (s.top, is v.top v.top refl) refl;
    tall = omega (arith, level-p, s.height, s.inner);
    super = rw s.top s.super;
    whole = λ k at nt.
        let ins : (f.inside k ≡ true) × (k ≢ p) = remains k at in
        let far : k ≢ v.top = (λ e. nt (e ∙ sym s.top)) in
        rw (no v.top k far) ((s.others k ins.0 ins.1 far).fault (f.level k) (f.low k) (f.high k) (g.whole k ins.0 far));
    down = down;
    hangs = λ k at nt. hangs k at (λ e. nt (e ∙ sym s.top));
  }

  same-content : IsHonest v → IsHonest w → (key : List ℕ) → content w key ≡ content v key
  same-content hv hw key =
      let l : Holds f key (leaf_of v key) = leaf-found v f key hv g in
      let np : leaf_of v key ≢ p = (λ e. absurd (omega (arith, l.leaf, s.inner, ap f.level e))) in
      let nt : leaf_of v key ≢ v.top = (λ e. absurd (omega (arith, l.leaf, g.height, g.tall, ap f.level e))) in
      let at : leaf_of w key ≡ leaf_of v key = leaf-unique w h key (leaf_of v key) hw fits-w (record { inside = rw (no p (leaf_of v key) np) l.inside; leaf = rw (no v.top (leaf_of v key) nt) l.leaf; low = l.low; high = l.high }) in
      ap (λ k. w.found k key) at ∙ (s.others (leaf_of v key) l.inside np nt).found key

-- without the one slot that goes
left-out : (p j : ℕ) (b : Bool) → (if j == p then false else b) ≡ false || (b && not (is_among (p ∷ []) j))
left-out p j b = elim (cases_eq j p) [
  | inl e ↦ let t : (p == j) ≡ true = grind (arith, nat_tests) in rw (is p j e, t) (none b)
  | inr ne ↦ let t : (p == j) ≡ false = grind (arith, nat_tests) in rw (no p j ne, t) (all b)
]
  where
    none : (b : Bool) → false ≡ false || (b && not (true || false))
    none true = refl
    none false = refl

    all : (b : Bool) → b ≡ false || (b && not (false || false))
    all true = refl
    all false = refl

pub root-lowerings : RootLoweringsKeepTheContent
root-lowerings v w p c t hw s = record {
  content = record { tree = tree w (h v w (form v) p c g s) hw (fits-w v w (form v) p c g s); content = same-content v w (form v) p c g s t.honest hw };
  slots = record {
    reached = λ j. agree.inside j ∙ left-out p j ((form v).inside j);
    stays = λ j ins far nt.
        let np : j ≢ p = (λ e. out j far e) in
        let m : Moved (form v) (h v w (form v) p c g s) j = moved v w (form v) p c g s j ins np nt in
        let a : Moved (h v w (form v) p c g s) (form w) j = agree.moved j m.inside in
        record { inside = a.inside; level = a.level ∙ m.level; low = a.low ∙ m.low; high = a.high ∙ m.high };
  };
}
  where
    g : Fits v (form v)
    g = fits v t

    agree : Agree w (h v w (form v) p c g s) (form w)
    agree = form-same w (h v w (form v) p c g s) (fits-w v w (form v) p c g s)

    out : (j : ℕ) → is_among (p ∷ []) j ≡ false → j ≡ p → ⊥
    out j far e = let t : (p == j) ≡ true = grind (arith, nat_tests) in absurd (cc)
