-- What a search among records answers, by the records.
use Rattle.std.proofs.Common.{◌≡◌, ◌≢◌, ◌⊎◌, ℕ, zero, suc, ◌<◌, ◌&&◌, if◌then◌else◌, Bool, true, false, List, arith, refl, sym, subst, ◌∙◌, inl, inr, Option}
use Rattle.std.specs.Prelude.{bytes_eq, Some, None}
use Rattle.std.proofs.lemmas.Bool.{cases_eq}
use Rattle.bz_word.specs.declared.meta.Meta.{Meta}
use Rattle.bz_slotted.specs.Page.{visible, extent_of}
use Rattle.bz_slotted.specs.Records.{key_in, payload_in, search_to}
use Rattle.bz_slotted.proofs.KeyFacts.{same-key, other-key}

-- a key that no visible record has is not found
pub search-none : (n : ℕ → ℕ) (meta : ℕ → Meta) (key : List ℕ) (k : ℕ) → ((i : ℕ) → i < k → visible (meta i) ≡ true → key_in n (extent_of (meta i)) ≢ key) → search_to n meta key k ≡ None
unfolding search_to
search-none n meta key zero h = refl
search-none n meta key (suc k) h = go (visible (meta k)) refl (search-none n meta key k (λ i l. h i (omega arith)))
  where
    go : (b : Bool) → visible (meta k) ≡ b → search_to n meta key k ≡ None → (if b && bytes_eq (key_in n (extent_of (meta k))) key then Some (payload_in n (extent_of (meta k))) else search_to n meta key k) ≡ None
    go true e r = rw (other-key (key_in n (extent_of (meta k))) key (h k (omega arith) e)) r
    go false e r = r

-- the record of a key is found, where no other has that key
pub search-one : (n : ℕ → ℕ) (meta : ℕ → Meta) (key : List ℕ) (k j : ℕ) → j < k → visible (meta j) ≡ true → key_in n (extent_of (meta j)) ≡ key
    → ((i : ℕ) → i < k → i ≢ j → visible (meta i) ≡ true → key_in n (extent_of (meta i)) ≢ key) → search_to n meta key k ≡ Some (payload_in n (extent_of (meta j)))
unfolding search_to
search-one n meta key zero j l v e h = absurd (omega arith)
search-one n meta key (suc k) j l v e h = elim (cases_eq j k) [
  | inl q ↦ subst (λ x. (if visible (meta x) && bytes_eq (key_in n (extent_of (meta x))) key then Some (payload_in n (extent_of (meta x))) else search_to n meta key k) ≡ Some (payload_in n (extent_of (meta j)))) q (rw (v, same-key (key_in n (extent_of (meta j))) key e) refl)
  | inr ne ↦ go (visible (meta k)) refl (λ x. ne (sym x)) (search-one n meta key k j (omega arith) v e (λ i l2. h i (omega arith)))
]
  where
    go : (b : Bool) → visible (meta k) ≡ b → k ≢ j → search_to n meta key k ≡ Some (payload_in n (extent_of (meta j))) → (if b && bytes_eq (key_in n (extent_of (meta k))) key then Some (payload_in n (extent_of (meta k))) else search_to n meta key k) ≡ Some (payload_in n (extent_of (meta j)))
    go true e2 ne r = rw (other-key (key_in n (extent_of (meta k))) key (h k (omega arith) ne e2)) r
    go false e2 ne r = r

-- two records are alike, or neither has the key
pub record AreAlike (f g : ℕ → ℕ) (a b : Meta) : Type 0 where
  pub same : a ≡ b
  pub words : visible b ≡ true → (key_in f (extent_of b) ≡ key_in g (extent_of b)) × (payload_in f (extent_of b) ≡ payload_in g (extent_of b))

pub record HaveNot (f g : ℕ → ℕ) (key : List ℕ) (a b : Meta) : Type 0 where
  pub one : visible a ≡ true → key_in f (extent_of a) ≢ key
  pub other : visible b ≡ true → key_in g (extent_of b) ≢ key

-- records that are alike, or do not matter for the key, answer alike
pub search-same : (f g : ℕ → ℕ) (a b : ℕ → Meta) (key : List ℕ) (k : ℕ) → ((i : ℕ) → i < k → AreAlike f g (a i) (b i) ⊎ HaveNot f g key (a i) (b i)) → search_to f a key k ≡ search_to g b key k
unfolding search_to
search-same f g a b key zero h = refl
search-same f g a b key (suc k) h = step (search-same f g a b key k (λ i l. h i (omega arith))) (h k (omega arith))
  where
    skip : (w : ℕ → ℕ) (m : Meta) (rest : Option (List ℕ)) → (visible m ≡ true → key_in w (extent_of m) ≢ key) → (if visible m && bytes_eq (key_in w (extent_of m)) key then Some (payload_in w (extent_of m)) else rest) ≡ rest
    skip w m rest q = go (visible m) refl
      where
        go : (t : Bool) → visible m ≡ t → (if t && bytes_eq (key_in w (extent_of m)) key then Some (payload_in w (extent_of m)) else rest) ≡ rest
        go true e = rw (other-key (key_in w (extent_of m)) key (q e)) refl
        go false e = refl

    alike : (m : Meta) (rest : Option (List ℕ)) → (visible m ≡ true → (key_in f (extent_of m) ≡ key_in g (extent_of m)) × (payload_in f (extent_of m) ≡ payload_in g (extent_of m)))
        → (if visible m && bytes_eq (key_in f (extent_of m)) key then Some (payload_in f (extent_of m)) else rest) ≡ (if visible m && bytes_eq (key_in g (extent_of m)) key then Some (payload_in g (extent_of m)) else rest)
    alike m rest q = go (visible m) refl
      where
        go : (t : Bool) → visible m ≡ t → (if t && bytes_eq (key_in f (extent_of m)) key then Some (payload_in f (extent_of m)) else rest) ≡ (if t && bytes_eq (key_in g (extent_of m)) key then Some (payload_in g (extent_of m)) else rest)
        go true e = rw ((q e).0, (q e).1) refl
        go false e = refl

    step : search_to f a key k ≡ search_to g b key k → AreAlike f g (a k) (b k) ⊎ HaveNot f g key (a k) (b k)
        → (if visible (a k) && bytes_eq (key_in f (extent_of (a k))) key then Some (payload_in f (extent_of (a k))) else search_to f a key k) ≡ (if visible (b k) && bytes_eq (key_in g (extent_of (b k))) key then Some (payload_in g (extent_of (b k))) else search_to g b key k)
    step r (inl x) = rw (r, x.same) (alike (b k) (search_to g b key k) x.words)
    step r (inr x) = skip f (a k) (search_to f a key k) x.one ∙ r ∙ sym (skip g (b k) (search_to g b key k) x.other)
