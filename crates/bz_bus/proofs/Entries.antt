-- Laws of lists that grow at the front, and of the entries of one owner.
use Rattle.std.proofs.Common.{◌≡◌, ◌≢◌, ℕ, suc, ◌<◌, ◌≤◌, ◌⊎◌, ⊎_elim, List, [], ◌∷◌, ◌++◌, length, sym, ap, ◌∙◌, refl, subst, arith, append_assoc, length-append, eqb, ne_eqb}
use Rattle.std.specs.Prelude.{All}
use Rattle.std.proofs.lemmas.List.Elements.{filter-append}
use Rattle.bz_bus.specs.declared.TheConstants.{PASSES}
use Rattle.bz_bus.specs.Entries.{Extends, entries_of, MayLeave}

module _ {E : Type 0} where
  pub extends_self : (xs : List E) → Extends xs xs
  extends_self xs = ([], refl)

  pub extends_trans : (xs ys zs : List E) → Extends xs ys → Extends ys zs → Extends xs zs
  extends_trans xs ys zs p q = (q.0 ++ p.0, q.1 ∙ (ap (λ (w : List E). q.0 ++ w) p.1 ∙ sym (append_assoc q.0 p.0 xs)))

  shorter_by : (a b xs ys : List E) → a ++ xs ≡ b ++ ys → length xs ≤ length ys → Extends xs ys
  shorter_by a [] xs ys e h = (a, sym e)
  shorter_by [] (y ∷ b) xs ys e h = let l = ap length e in absurd (omega (arith, length-append b ys))
  shorter_by (x ∷ a) (y ∷ b) xs ys e h = (let tail : a ++ xs ≡ b ++ ys = cc in shorter_by a b xs ys tail h)

  -- of two parts of one list the longer extends the shorter
  pub extends_shorter : (xs ys whole : List E) → Extends xs whole → Extends ys whole → length xs ≤ length ys → Extends xs ys
  extends_shorter xs ys whole p q h = shorter_by p.0 q.0 xs ys (sym p.1 ∙ q.1) h

  nothing_before : (a xs : List E) → length (a ++ xs) ≤ length xs → a ++ xs ≡ xs
  nothing_before [] xs h = refl
  nothing_before (x ∷ a) xs h = absurd (omega (arith, length-append a xs))

  -- a part as long as the list is the list
  pub extends_whole : (xs whole : List E) → Extends xs whole → length whole ≤ length xs → xs ≡ whole
  extends_whole xs whole p h = sym (p.1 ∙ nothing_before p.0 xs (subst (λ (w : List E). length w ≤ length xs) p.1 h))

module _ {E : Type 0} (owner : E → ℕ) where
  abbrev Of : ℕ → List E → List E
  Of n xs = entries_of owner n xs

  pub none_added : (n : ℕ) (a xs : List E) → Of n (a ++ xs) ≡ Of n xs → Of n a ≡ []
  none_added n a xs e = empty (Of n a) (let l = ap length (sym (filter-append (λ (x : E). eqb (owner x) n) a xs) ∙ e) in omega (arith, length-append (Of n a) (Of n xs)))
    where
      empty : (zs : List E) → length zs ≡ 0 → zs ≡ []
      empty [] e = refl
      empty (z ∷ zs) e = absurd (omega arith)

  -- between a list and one with no further entry of n there is none either
  pub entries_between : (n : ℕ) (xs ys zs : List E) → Extends xs ys → Extends ys zs → Of n zs ≡ Of n xs → Of n ys ≡ Of n xs
  entries_between n xs ys zs p q e =
      let whole : zs ≡ (q.0 ++ p.0) ++ xs = q.1 ∙ (ap (λ (w : List E). q.0 ++ w) p.1 ∙ sym (append_assoc q.0 p.0 xs)) in
      let none : Of n (q.0 ++ p.0) ≡ [] = none_added n (q.0 ++ p.0) xs (ap (Of n) (sym whole) ∙ e) in
      let part : Of n p.0 ≡ [] = last_empty (Of n q.0) (Of n p.0) (sym (filter-append (λ (x : E). eqb (owner x) n) q.0 p.0) ∙ none) in
      ap (Of n) p.1 ∙ (filter-append (λ (x : E). eqb (owner x) n) p.0 xs ∙ ap (λ (w : List E). w ++ Of n xs) part)
    where
      last_empty : (xs bs : List E) → xs ++ bs ≡ [] → bs ≡ []
      last_empty [] bs e = e
      last_empty (x ∷ xs) bs e = cc

  skips : (n k : ℕ) (added found : List E) → All (λ (e : E). (owner e ≡ n) ⊎ (owner e ≡ PASSES)) added → k ≢ n → k ≢ PASSES → Of k (added ++ found) ≡ Of k found
  skips n k [] found all a b = refl
  skips n k (e ∷ es) found all a b =
      let ne : owner e ≢ k = ⊎_elim (λ q. λ r. a (sym r ∙ q)) (λ q. λ r. b (sym r ∙ q)) (all 0 e (omega arith)) in
      rw (ne_eqb (owner e) k ne) (skips n k es found (λ i d h. all (suc i) d (omega arith)) a b)

  -- a turn adds entries to no other pass
  pub leaves_others : (n k : ℕ) (found left : List E) → MayLeave owner n found left → k ≢ n → k < PASSES → Of k left ≡ Of k found
  leaves_others n k found left m a b = ap (Of k) m.is ∙ skips n k m.added found m.owned a (λ e. omega arith)

  pub leaves_extends : (n : ℕ) (found left : List E) → MayLeave owner n found left → Extends found left
  leaves_extends n found left m = (m.added, m.is)
