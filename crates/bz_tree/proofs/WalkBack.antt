-- Where a form fits, the walk meets no fault.
use Rattle.std.proofs.Common.{◌≡◌, ◌≢◌, ℕ, zero, suc, ◌+◌, ◌<◌, ◌≤◌, true, List, [], ◌∷◌, ◌++◌, arith, refl, sym, ap, subst, ◌∙◌, inl, inr}
use Rattle.std.specs.Prelude.{None}
use Rattle.std.proofs.lemmas.Bool.{cases_eq}
use Rattle.bz_tree.proofs.CleanWalks.{Apart, unclean}
use Rattle.bz_tree.proofs.Visits.{In, in_over, in_parts, lower}
use Rattle.bz_tree.specs.Form.{Fits, Form, Stands}
use Rattle.bz_tree.specs.View.{View}
use Rattle.bz_tree.specs.Walk.{Visit, fault_of, kid, kids, over, start, visits, walk}

-- the walk comes to a slot as the form says
pub record Right (f : Form) (u : Visit) : Type 0 where
  pub inside : f.inside u.slot ≡ true
  pub level : f.level u.slot ≡ u.level
  pub low : f.low u.slot ≡ u.low
  pub high : f.high u.slot ≡ u.high

pub right-kid : (v : View) (f : Form) (l i : ℕ) (u : Visit) → Fits v f → Right f u → u.level ≡ suc l → i < v.count u.slot → Right f (kid v u l i) × Stands v f u.slot i (v.child u.slot i)
right-kid v f l i u g r e lt =
    let st : Stands v f u.slot i (v.child u.slot i) = g.down u.slot i r.inside (omega (arith, r.level, e)) lt in
    (record { inside = st.inside; level = omega (arith, st.level, r.level, e); low = st.low ∙ rw r.low refl; high = st.high ∙ rw r.high refl }, st)

pub right-all : (v : View) (f : Form) (l : ℕ) (u w : Visit) → Fits v f → Right f u → u.level ≡ l → In w (visits v l u) → Right f w
unfolding visits
right-all v f zero u w g r e (inl q) = subst (λ (x : Visit). Right f x) (sym q) r
right-all v f zero u w g r e (inr h) = absurd h
right-all v f (suc l) u w g r e (inl q) = subst (λ (x : Visit). Right f x) (sym q) r
right-all v f (suc l) u w g r e (inr h) =
    let o : (j : ℕ) × (0 ≤ j) × (j < 0 + v.count u.slot) × In w (visits v l (kid v u l j)) = in_over v (visits v l) w u l 0 (v.count u.slot) h in
    right-all v f l (kid v u l o.0) w g (right-kid v f l o.0 u g r e (omega (arith, o.2))).0 refl o.3

unfoldable pub ups : Form → ℕ → ℕ → ℕ
ups f zero k = k
ups f (suc d) k = f.up (ups f d k)

-- d steps up from slot k, at level m, is slot s, at level l
pub record Under (f : Form) (l m k s : ℕ) : Type 0 where
  pub steps : ℕ
  pub levels : m + steps ≡ l
  pub up : ups f steps k ≡ s

under : (v : View) (f : Form) (l : ℕ) (u w : Visit) → Fits v f → Right f u → u.level ≡ l → In w (visits v l u) → Under f l w.level w.slot u.slot
unfolding visits ups
under v f zero u w g r e (inl q) = record { steps = 0; levels = omega (arith, ap (λ (x : Visit). x.level) q); up = ap (λ (x : Visit). x.slot) q }
under v f zero u w g r e (inr h) = absurd h
under v f (suc l) u w g r e (inl q) = record { steps = 0; levels = omega (arith, ap (λ (x : Visit). x.level) q); up = ap (λ (x : Visit). x.slot) q }
under v f (suc l) u w g r e (inr h) =
    let o : (j : ℕ) × (0 ≤ j) × (j < 0 + v.count u.slot) × In w (visits v l (kid v u l j)) = in_over v (visits v l) w u l 0 (v.count u.slot) h in
    let k : Right f (kid v u l o.0) × Stands v f u.slot o.0 (v.child u.slot o.0) = right-kid v f l o.0 u g r e (omega (arith, o.2)) in
    let b : Under f l w.level w.slot (v.child u.slot o.0) = under v f l (kid v u l o.0) w g k.0 refl o.3 in
    record { steps = suc b.steps; levels = omega (arith, b.levels); up = ap f.up b.up ∙ k.1.up }

apart-join : (xs ys : List Visit) → Apart xs → Apart ys → ((x y : Visit) → In x xs → In y ys → y.slot ≢ x.slot) → Apart (xs ++ ys)
apart-join [] ys a b f = b
apart-join (x ∷ xs) ys a b f = (λ w h. elim (in_parts w xs ys h) [ inl l ↦ a.0 w l | inr r ↦ f x w (inl refl) r ], apart-join xs ys a.1 b (λ p q i j. f p q (inr i) j))

apart-over : (v : View) (f : Form) (l : ℕ) (u : Visit) (i n : ℕ) → Fits v f → Right f u → u.level ≡ suc l → i + n ≤ v.count u.slot
    → ((j : ℕ) → j < v.count u.slot → Apart (visits v l (kid v u l j))) → Apart (over (visits v l) (kids v u l i n))
unfolding over kids
apart-over v f l u i zero g r e le each = tt
apart-over v f l u i (suc n) g r e le each = apart-join (visits v l (kid v u l i)) (over (visits v l) (kids v u l (i + 1) n)) (each i (omega arith)) (apart-over v f l u (i + 1) n g r e (omega arith) each) far
  where
    ki : Right f (kid v u l i) × Stands v f u.slot i (v.child u.slot i)
    ki = right-kid v f l i u g r e (omega arith)

    far : (x y : Visit) → In x (visits v l (kid v u l i)) → In y (over (visits v l) (kids v u l (i + 1) n)) → y.slot ≢ x.slot
    far x y ix iy same =
        let o : (j : ℕ) × (i + 1 ≤ j) × (j < i + 1 + n) × In y (visits v l (kid v u l j)) = in_over v (visits v l) y u l (i + 1) n iy in
        let kj : Right f (kid v u l o.0) × Stands v f u.slot o.0 (v.child u.slot o.0) = right-kid v f l o.0 u g r e (omega (arith, o.2)) in
        let rx : Right f x = right-all v f l (kid v u l i) x g ki.0 refl ix in
        let ry : Right f y = right-all v f l (kid v u l o.0) y g kj.0 refl o.3 in
        let ux : Under f l x.level x.slot (v.child u.slot i) = under v f l (kid v u l i) x g ki.0 refl ix in
        let uy : Under f l y.level y.slot (v.child u.slot o.0) = under v f l (kid v u l o.0) y g kj.0 refl o.3 in
        let steps : uy.steps ≡ ux.steps = omega (arith, ux.levels, uy.levels, rx.level, ry.level, ap f.level same) in
        let one : v.child u.slot o.0 ≡ v.child u.slot i = sym uy.up ∙ (λ t. ups f (steps t) (same t)) ∙ ux.up in
        omega (arith, ki.1.index, kj.1.index, ap f.index one, o.1)

apart-all : (v : View) (f : Form) (l : ℕ) (u : Visit) → Fits v f → Right f u → u.level ≡ l → Apart (visits v l u)
unfolding visits
apart-all v f zero u g r e = (λ w h. absurd h, tt)
apart-all v f (suc l) u g r e = (
  λ w h same.
      let o : (j : ℕ) × (0 ≤ j) × (j < 0 + v.count u.slot) × In w (visits v l (kid v u l j)) = in_over v (visits v l) w u l 0 (v.count u.slot) h in
      let k : Right f (kid v u l o.0) × Stands v f u.slot o.0 (v.child u.slot o.0) = right-kid v f l o.0 u g r e (omega (arith, o.2)) in
      let rw_ : Right f w = right-all v f l (kid v u l o.0) w g k.0 refl o.3 in
      omega (arith, lower v l (kid v u l o.0) w refl o.3, rw_.level, r.level, ap f.level same),
  apart-over v f l u 0 (v.count u.slot) g r e (omega arith) (λ j lt. apart-all v f l (kid v u l j) g (right-kid v f l j u g r e lt).0 refl),
)

-- where a form fits, the walk meets no fault
pub walk-fits : (v : View) (f : Form) → Fits v f → fault_of v ≡ None
walk-fits v f g = unclean v [] (walk v) (record { fault = fault; unseen = λ u i. refl; apart = apart-all v f v.height (start v) g at_top refl })
  where
    at_top : Right f (start v)
    at_top = record { inside = g.top; level = g.height; low = g.top_low; high = g.top_high }

    fault : (u : Visit) → In u (walk v) → v.fault u.slot u.level u.low u.high ≡ None
    fault u i =
        let r : Right f u = right-all v f v.height (start v) u g at_top refl i in
        rw (← r.level, ← r.low, ← r.high) (elim (cases_eq u.slot v.top) [
          | inl e ↦ subst (λ k. v.fault k (f.level k) (f.low k) (f.high k) ≡ None) (sym e) (rw (g.height, g.top_low, g.top_high) g.super)
          | inr ne ↦ g.whole u.slot r.inside ne
        ])
