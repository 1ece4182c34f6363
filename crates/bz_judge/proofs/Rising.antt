-- Records that are taken leaf by leaf on a walk over a tree come in the order of their keys.
use Rattle.std.proofs.Common.{◌≡◌, ◌≢◌, ℕ, zero, suc, ◌+◌, ◌-◌, ◌<◌, ◌≤◌, ◌==◌, true, List, [], arith, refl, sym, ap, subst, inl, inr, append-nil}
use Rattle.std.specs.Prelude.{Some, None}
use Rattle.std.proofs.lemmas.Bool.{cases_eq}
use Rattle.bz_tree.specs.Content.{Pairs, pairs_of}
use Rattle.bz_tree.specs.Form.{IsHonest, Rises}
use Rattle.bz_tree.specs.Order.{is_above}
use Rattle.bz_tree.specs.View.{View, low_at, high_at}
use Rattle.bz_tree.specs.Walk.{Visit, kid, kids, over, visits, start, walk, IsTree}
use Rattle.bz_tree.proofs.CleanWalks.{Clean, clean}
use Rattle.bz_tree.proofs.Visits.{In, over_in}
use Rattle.bz_content.proofs.Honesty.{no}
use Rattle.bz_content.proofs.Reached.{is as same}
use Rattle.bz_judge.proofs.Joined.{Lies, lies-join}
use Rattle.bz_judge.proofs.Walks.{pairs-append}

-- the records of each leaf that breaks no rule come in the order of their keys, between the bounds of the leaf
pub record LeavesLie (v : View) (f : ℕ → Pairs) : Type 0 where
  pub leaf : (u : Visit) → u.level ≡ 0 → u.slot ≢ v.top → v.fault u.slot u.level u.low u.high ≡ None → Lies u.low u.high (f u.slot)

-- the visits are to nodes that break no rule
record AreClean (v : View) (us : List Visit) : Type 0 where
  node : (w : Visit) → In w us → w.slot ≢ v.top
  fault : (w : Visit) → In w us → v.fault w.slot w.level w.low w.high ≡ None

-- what is below the children of a node from child i on
lies-kids : (v : View) (f : ℕ → Pairs) (u : Visit) (l i n : ℕ) → Rises v u.slot u.low u.high → i + n ≡ v.count u.slot →
    ((j : ℕ) → i ≤ j → j < i + n → Lies (low_at v u.slot u.low j) (high_at v u.slot u.high j) (pairs_of f (visits v l (kid v u l j)))) →
    Lies (low_at v u.slot u.low i) u.high (pairs_of f (over (visits v l) (kids v u l i n)))
unfolding over kids pairs_of
lies-kids v f u l i zero rises all each = record { sorted = refl; low = tt; high = tt }
lies-kids v f u l i (suc zero) rises all each =
    let last : (i + 1 == v.count u.slot) ≡ true = subst (λ n. (i + 1 == n) ≡ true) all (same (i + 1)) in
    let h : Lies (low_at v u.slot u.low i) (high_at v u.slot u.high i) (pairs_of f (visits v l (kid v u l i))) = each i (omega arith) (omega arith) in
    let top : high_at v u.slot u.high i ≡ u.high = rw last refl in
    rw (append-nil (visits v l (kid v u l i))) (subst (λ x. Lies (low_at v u.slot u.low i) x (pairs_of f (visits v l (kid v u l i)))) top h)
lies-kids v f u l i (suc (suc n)) rises all each =
    let inner : high_at v u.slot u.high i ≡ Some (v.key u.slot (i + 1)) = rw (no (i + 1) (v.count u.slot) (omega arith)) refl in
    let later : low_at v u.slot u.low (i + 1) ≡ Some (v.key u.slot (i + 1)) = rw (no (i + 1) 0 (omega arith)) refl in
    let h : Lies (low_at v u.slot u.low i) (high_at v u.slot u.high i) (pairs_of f (visits v l (kid v u l i))) = each i (omega arith) (omega arith) in
    let g : Lies (low_at v u.slot u.low (i + 1)) u.high (pairs_of f (over (visits v l) (kids v u l (i + 1) (suc n)))) =
    lies-kids v f u l (i + 1) (suc n) rises (omega arith) (λ j from to. each j (omega arith) (omega arith)) in
    subst (Lies (low_at v u.slot u.low i) u.high) (sym (pairs-append f (visits v l (kid v u l i)) (over (visits v l) (kids v u l (i + 1) (suc n)))))
    (lies-join (low_at v u.slot u.low i) u.high (v.key u.slot (i + 1)) (pairs_of f (visits v l (kid v u l i))) (pairs_of f (over (visits v l) (kids v u l (i + 1) (suc n))))
    (subst (λ x. Lies (low_at v u.slot u.low i) x (pairs_of f (visits v l (kid v u l i)))) inner h) (subst (λ x. Lies x u.high (pairs_of f (over (visits v l) (kids v u l (i + 1) (suc n))))) later g)
    above (rises.last (i + 1) (omega arith) (omega arith)))
  where
    above : is_above (v.key u.slot (i + 1)) (low_at v u.slot u.low i) ≡ true
    above = elim (cases_eq i 0) [
      | inl e ↦ let t : (i == 0) ≡ true = ap (λ k. k == 0) e in rw t (rises.first (i + 1) (omega arith) (omega arith))
      | inr ne ↦ rw (no i 0 ne) (rises.rise i (i + 1) (omega arith) (omega arith) (omega arith))
    ]

lies-visits : (v : View) (f : ℕ → Pairs) → IsHonest v → LeavesLie v f → (l : ℕ) (u : Visit) → u.level ≡ l → AreClean v (visits v l u) → Lies u.low u.high (pairs_of f (visits v l u))
unfolding visits pairs_of
lies-visits v f honest leaves zero u e whole =
    let t : (u.level == 0) ≡ true = ap (λ k. k == 0) e in
    rw (t, append-nil (f u.slot)) (leaves.leaf u e (whole.node u (inl refl)) (whole.fault u (inl refl)))
lies-visits v f honest leaves (suc l) u e whole =
    rw (no u.level 0 (omega arith))
    (lies-kids v f u l 0 (v.count u.slot) (honest.rises u.slot u.level u.low u.high (whole.node u (inl refl)) (omega arith) (whole.fault u (inl refl))) (omega arith)
    (λ j from to. lies-visits v f honest leaves l (kid v u l j) refl (record {
      node = λ w there. whole.node w (inr (over_in v (visits v l) w u l 0 (v.count u.slot) j from to there));
      fault = λ w there. whole.fault w (inr (over_in v (visits v l) w u l 0 (v.count u.slot) j from to there));
    })))

lies-below : (v : View) (f : ℕ → Pairs) (h : ℕ) → IsTree v → LeavesLie v f → v.height ≡ suc h → Clean v [] (visits v (suc h) (start v)) → Lies None None (pairs_of f (visits v (suc h) (start v)))
unfolding visits pairs_of
lies-below v f h tree leaves height c =
    rw (no v.height 0 (omega arith))
    (lies-kids v f (start v) h 0 (v.count v.top) rises (omega arith)
    (λ j from to. lies-visits v f tree.honest leaves h (kid v (start v) h j) refl (record {
      node = λ w there. c.apart.0 w (over_in v (visits v h) w (start v) h 0 (v.count v.top) j from to there);
      fault = λ w there. c.fault w (inr (over_in v (visits v h) w (start v) h 0 (v.count v.top) j from to there));
    })))
  where
    rises : Rises v v.top None None
    rises = record {
      some = omega (arith, tree.one);
      rise = λ i j some less within. absurd (omega (arith, tree.one));
      first = λ i some within. refl;
      last = λ i some within. refl;
    }

-- the records of a whole tree
pub lies-walk : (v : View) (f : ℕ → Pairs) → IsTree v → LeavesLie v f → Lies None None (pairs_of f (walk v))
lies-walk v f tree leaves =
    let height : v.height ≡ suc (v.height - 1) = omega (arith, tree.tall) in
    subst (λ n. Lies None None (pairs_of f (visits v n (start v)))) (sym height)
    (lies-below v f (v.height - 1) tree leaves height (subst (λ n. Clean v [] (visits v n (start v))) height (clean v [] (walk v) tree.none)))
