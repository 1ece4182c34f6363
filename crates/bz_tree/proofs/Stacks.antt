-- A walk taken step by step, from a stack of visits.
use Rattle.std.proofs.Common.{◌≡◌, ℕ, zero, suc, ◌+◌, List, [], ◌∷◌, ◌++◌, refl, sym, ap, ◌∙◌}
use Rattle.bz_tree.specs.Stack.{pending}
use Rattle.bz_tree.specs.View.{View}
use Rattle.bz_tree.specs.Walk.{Visit, kid, kids, over, visits}

join_assoc : (xs ys zs : List Visit) → (xs ++ ys) ++ zs ≡ xs ++ (ys ++ zs)
join_assoc [] ys zs = refl
join_assoc (x ∷ xs) ys zs = ap (λ t. x ∷ t) (join_assoc xs ys zs)

pub pending-join : (v : View) (l i n : ℕ) (u : Visit) (us : List Visit) → pending v (kids v u l i n ++ us) ≡ over (visits v l) (kids v u l i n) ++ pending v us
unfolding pending kids over
pending-join v l i zero u us = refl
pending-join v l i (suc n) u us = ap (λ t. visits v l (kid v u l i) ++ t) (pending-join v l (i + 1) n u us) ∙ sym (join_assoc (visits v l (kid v u l i)) (over (visits v l) (kids v u l (i + 1) n)) (pending v us))

-- an inner slot without fault is taken off the stack, and its children are put there
pub pending-inner : (v : View) (l : ℕ) (u : Visit) (us : List Visit) → u.level ≡ suc l → pending v (u ∷ us) ≡ u ∷ pending v (kids v u l 0 (v.count u.slot) ++ us)
unfolding pending visits
pending-inner v l u us e = (λ t. visits v (e t) u ++ pending v us) ∙ ap (λ t. u ∷ t) (sym (pending-join v l 0 (v.count u.slot) u us))

pub pending-leaf : (v : View) (u : Visit) (us : List Visit) → u.level ≡ 0 → pending v (u ∷ us) ≡ u ∷ pending v us
unfolding pending visits
pending-leaf v u us e = λ t. visits v (e t) u ++ pending v us
