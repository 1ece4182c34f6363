-- What each change of a leaf changes of its answers.
use Rattle.std.proofs.Common.{◌≡◌, ◌≢◌, ◌⊎◌, ℕ, suc, ◌+◌, ◌<◌, true, false, List, arith, refl, sym, ap, subst, ◌∙◌, inl, inr, Option}
use Rattle.std.specs.Prelude.{Some, None}
use Rattle.std.proofs.lemmas.Bool.{cases_eq, true≢false}
use Rattle.bz_word.specs.declared.meta.Meta.{Meta}
use Rattle.bz_slotted.specs.Changes.{Rewrites, Reserves}
use Rattle.bz_slotted.specs.Page.{visible, extent_of, page}
use Rattle.bz_slotted.specs.Records.{key_in, payload_in, key_at, search_to, found}
use Rattle.bz_slotted.specs.Whole.{Whole}
use Rattle.bz_slotted.proofs.Growing.{Stays}
use Rattle.bz_slotted.proofs.Rewriting.{meta-other, meta-at, agree, block-of, block-new, key-other, key-new, whole-rewrite}
use Rattle.bz_slotted.proofs.Reserving.{meta-old, meta-last, agree-old, block-old}
use Rattle.bz_slotted.proofs.Searches.{AreAlike, HaveNot, search-none, search-one, search-same}
use Rattle.bz_slotted.proofs.Words.{key-same, payload-same}

pub found-stays : (r s n m : ℕ → ℕ) (words : ℕ) (key : List ℕ) → Stays r s n m words → found (page m) key ≡ found (page n) key
found-stays r s n m words key c = ap (search_to m (page m).meta key) c.count ∙ search-same m n (page m).meta (page n).meta key (page n).count (λ i l. inl (record {
  same = c.metas i l;
  words = λ v. (key-same m n (extent_of ((page n).meta i)) (c.agree i l v), payload-same m n (extent_of ((page n).meta i)) (c.agree i l v));
}))

pub found-reserve : (r s n m : ℕ → ℕ) (lo hi : Option (List ℕ)) (mt : Meta) (key : List ℕ) → Whole r (page n) lo hi → Reserves r s n m mt → found (page m) key ≡ found (page n) key
unfolding search_to
found-reserve r s n m lo hi mt key h c = ap (search_to m (page m).meta key) (c.count ∙ one (page n).count) ∙ rw hides (search-same m n (page m).meta (page n).meta key (page n).count each)
  where
    one : (k : ℕ) → k + 1 ≡ suc k
    one k = omega arith

    hides : visible ((page m).meta (page n).count) ≡ false
    hides = ap visible (meta-last r s n m lo hi mt h c (page n).count refl) ∙ c.hidden

    each : (i : ℕ) → i < (page n).count → AreAlike m n ((page m).meta i) ((page n).meta i) ⊎ HaveNot m n key ((page m).meta i) ((page n).meta i)
    each i l = inl (record {
      same = meta-old r s n m lo hi mt h c i (λ e. absurd (omega arith));
      words = λ v. let a = agree-old r s n m lo hi mt h c ((page n).meta i) (block-old r s n m lo hi mt h c i l v) in (key-same m n (extent_of ((page n).meta i)) a, payload-same m n (extent_of ((page n).meta i)) a);
    })

module _ (r s n m : ℕ → ℕ) (lo hi : Option (List ℕ)) (j : ℕ) (mt : Meta) (h : Whole r (page n) lo hi) (c : Rewrites r s n m lo hi j mt) where
  -- a rewritten record changes no answer for another key
  pub found-other : (key : List ℕ) → (visible mt ≡ true → key_in n (extent_of mt) ≢ key) → (visible ((page n).meta j) ≡ true → key_at (page n) j ≢ key) → found (page m) key ≡ found (page n) key
  found-other key not_new not_old = ap (search_to m (page m).meta key) c.count ∙ search-same m n (page m).meta (page n).meta key (page n).count each
    where
      each : (i : ℕ) → i < (page n).count → AreAlike m n ((page m).meta i) ((page n).meta i) ⊎ HaveNot m n key ((page m).meta i) ((page n).meta i)
      each i l = elim (cases_eq i j) [
        | inl e ↦ inr (record {
          one = λ v same. let vm : visible mt ≡ true = rw (meta-at r s n m lo hi j mt h c i e) at v in not_new vm (sym (key-new r s n m lo hi j mt h c i e vm) ∙ same);
          other = λ v same. not_old (subst (λ x. visible ((page n).meta x) ≡ true) e v) (ap (λ x. key_at (page n) x) (sym e) ∙ same);
        })
        | inr ne ↦ inl (record {
          same = meta-other r s n m lo hi j mt h c i ne;
          words = λ v. let a = agree r s n m lo hi j mt h c ((page n).meta i) (block-of r s n m lo hi j mt h c i l v) in (key-same m n (extent_of ((page n).meta i)) a, payload-same m n (extent_of ((page n).meta i)) a);
        })
      ]

  -- the record that became visible, or took the place of another, is found
  pub found-new : visible mt ≡ true → found (page m) (key_in n (extent_of mt)) ≡ Some (payload_in n (extent_of mt))
  found-new v =
      let w : Whole s (page m) lo hi = whole-rewrite r s n m lo hi j mt h c in
      let at : (page m).meta j ≡ mt = meta-at r s n m lo hi j mt h c j refl in
      let key : key_at (page m) j ≡ key_in n (extent_of mt) = key-new r s n m lo hi j mt h c j refl v in
      let within : j < (page m).count = omega (arith, c.count, c.inside) in
      let vj : visible ((page m).meta j) ≡ true = ap visible at ∙ v in
      search-one m (page m).meta (key_in n (extent_of mt)) (page m).count j within vj key (λ i l ne vi e. w.distinct i j l within ne vi vj (e ∙ sym key))
      ∙ ap (λ x. Some (payload_in m (extent_of x))) at ∙ ap (λ (x : List ℕ). Some x) (payload-same m n (extent_of mt) (agree r s n m lo hi j mt h c mt (block-new r s n m lo hi j mt h c v)))

  -- the key of a record that went is found no longer
  pub found-gone : visible ((page n).meta j) ≡ true → visible mt ≡ false → found (page m) (key_at (page n) j) ≡ None
  found-gone v hid = search-none m (page m).meta (key_at (page n) j) (page m).count none
    where
      none : (i : ℕ) → i < (page m).count → visible ((page m).meta i) ≡ true → key_at (page m) i ≢ key_at (page n) j
      none i l vi same = elim (cases_eq i j) [
        | inl e ↦ absurd (true≢false (sym vi ∙ ap visible (meta-at r s n m lo hi j mt h c i e) ∙ hid))
        | inr ne ↦ let vn : visible ((page n).meta i) ≡ true = rw (meta-other r s n m lo hi j mt h c i ne) at vi in
            h.distinct i j (omega (arith, c.count)) c.inside ne vn v (sym (key-other r s n m lo hi j mt h c i ne (omega (arith, c.count)) vn) ∙ same)
      ]
