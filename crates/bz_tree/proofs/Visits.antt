-- What a walk comes to: with a slot its children, and with a child its parent.
use Rattle.std.proofs.Common.{◌≡◌, ℕ, zero, suc, ◌+◌, ◌<◌, ◌≤◌, ◌⊎◌, List, [], ◌∷◌, ◌++◌, arith, refl, sym, ap, subst, inl, inr}
use Rattle.std.proofs.lemmas.Bool.{cases_eq}
use Rattle.bz_tree.specs.View.{View}
use Rattle.bz_tree.specs.Walk.{Visit, kid, kids, over, visits}

-- the walk comes by u
abbrev pub In : Visit → List Visit → Type 0
In u [] = ⊥
In u (x ∷ xs) = (u ≡ x) ⊎ In u xs

pub in_left : (u : Visit) (xs ys : List Visit) → In u xs → In u (xs ++ ys)
in_left u [] ys h = absurd h
in_left u (x ∷ xs) ys (inl e) = inl e
in_left u (x ∷ xs) ys (inr h) = inr (in_left u xs ys h)

pub in_right : (u : Visit) (xs ys : List Visit) → In u ys → In u (xs ++ ys)
in_right u [] ys h = h
in_right u (x ∷ xs) ys h = inr (in_right u xs ys h)

pub in_parts : (u : Visit) (xs ys : List Visit) → In u (xs ++ ys) → In u xs ⊎ In u ys
in_parts u [] ys h = inr h
in_parts u (x ∷ xs) ys (inl e) = inl (inl e)
in_parts u (x ∷ xs) ys (inr h) = elim (in_parts u xs ys h) [ inl a ↦ inl (inr a) | inr b ↦ inr b ]

-- what the walk below some kids comes by, it comes by below one of them
pub in_over : (v : View) (g : Visit → List Visit) (w u : Visit) (l i n : ℕ) → In w (over g (kids v u l i n)) → (j : ℕ) × (i ≤ j) × (j < i + n) × In w (g (kid v u l j))
unfolding over kids
in_over v g w u l i zero h = absurd h
in_over v g w u l i (suc n) h = elim (in_parts w (g (kid v u l i)) (over g (kids v u l (i + 1) n)) h) [
  | inl a ↦ (i, omega arith, omega arith, a)
  | inr b ↦ let r : (j : ℕ) × (i + 1 ≤ j) × (j < i + 1 + n) × In w (g (kid v u l j)) = in_over v g w u l (i + 1) n b in (r.0, omega (arith, r.1), omega (arith, r.2), r.3)
]

pub over_in : (v : View) (g : Visit → List Visit) (w u : Visit) (l i n j : ℕ) → i ≤ j → j < i + n → In w (g (kid v u l j)) → In w (over g (kids v u l i n))
unfolding over kids
over_in v g w u l i zero j a b h = absurd (omega arith)
over_in v g w u l i (suc n) j a b h = elim (cases_eq j i) [
  | inl e ↦ in_left w (g (kid v u l i)) (over g (kids v u l (i + 1) n)) (subst (λ x. In w (g (kid v u l x))) e h)
  | inr ne ↦ in_right w (g (kid v u l i)) (over g (kids v u l (i + 1) n)) (over_in v g w u l (i + 1) n j (omega arith) (omega arith) h)
]

pub head : (v : View) (l : ℕ) (u : Visit) → In u (visits v l u)
unfolding visits
head v zero u = inl refl
head v (suc l) u = inl refl

-- with a slot the walk comes by its children
pub closed : (v : View) (l m i : ℕ) (u w : Visit) → u.level ≡ l → In w (visits v l u) → w.level ≡ suc m → i < v.count w.slot → In (kid v w m i) (visits v l u)
unfolding visits
closed v zero m i u w e (inl q) lw lt = absurd (omega (arith, ap (λ (x : Visit). x.level) q))
closed v zero m i u w e (inr h) lw lt = absurd h
closed v (suc l) m i u w e (inl q) lw lt =
    let ml : m ≡ l = omega (arith, ap (λ (x : Visit). x.level) q) in
    inr (over_in v (visits v l) (kid v w m i) u l 0 (v.count u.slot) i (omega arith) (omega (arith, ap (λ (x : Visit). v.count x.slot) q))
    (subst (λ (x : Visit). In x (visits v l (kid v u l i))) (λ t. kid v (sym q t) (sym ml t) i) (head v l (kid v u l i))))
closed v (suc l) m i u w e (inr h) lw lt =
    let r : (j : ℕ) × (0 ≤ j) × (j < 0 + v.count u.slot) × In w (visits v l (kid v u l j)) = in_over v (visits v l) w u l 0 (v.count u.slot) h in
    inr (over_in v (visits v l) (kid v w m i) u l 0 (v.count u.slot) r.0 r.1 r.2 (closed v l m i (kid v u l r.0) w refl r.3 lw lt))

-- each slot but the first is a child of one by which the walk comes
pub record Child (v : View) (all : List Visit) (u : Visit) : Type 0 where
  pub parent : Visit
  pub level : ℕ
  pub index : ℕ
  pub there : In parent all
  pub above : parent.level ≡ suc level
  pub within : index < v.count parent.slot
  pub is : u ≡ kid v parent level index

pub comes : (v : View) (l : ℕ) (u w : Visit) → u.level ≡ l → In w (visits v l u) → (w ≡ u) ⊎ Child v (visits v l u) w
unfolding visits
comes v zero u w e (inl q) = inl q
comes v zero u w e (inr h) = absurd h
comes v (suc l) u w e (inl q) = inl q
comes v (suc l) u w e (inr h) =
    let r : (j : ℕ) × (0 ≤ j) × (j < 0 + v.count u.slot) × In w (visits v l (kid v u l j)) = in_over v (visits v l) w u l 0 (v.count u.slot) h in
    elim (comes v l (kid v u l r.0) w refl r.3) [
      | inl q ↦ inr (record { parent = u; level = l; index = r.0; there = inl refl; above = e; within = omega (arith, r.2); is = q })
      | inr c ↦ inr (record { parent = c.parent; level = c.level; index = c.index; there = inr (over_in v (visits v l) c.parent u l 0 (v.count u.slot) r.0 r.1 r.2 c.there); above = c.above; within = c.within; is = c.is })
    ]

pub lower : (v : View) (l : ℕ) (u w : Visit) → u.level ≡ l → In w (visits v l u) → w.level ≤ l
unfolding visits
lower v zero u w e (inl q) = omega (arith, ap (λ (x : Visit). x.level) q)
lower v zero u w e (inr h) = absurd h
lower v (suc l) u w e (inl q) = omega (arith, ap (λ (x : Visit). x.level) q)
lower v (suc l) u w e (inr h) =
    let r : (j : ℕ) × (0 ≤ j) × (j < 0 + v.count u.slot) × In w (visits v l (kid v u l j)) = in_over v (visits v l) w u l 0 (v.count u.slot) h in
    omega (arith, lower v l (kid v u l r.0) w refl r.3)
