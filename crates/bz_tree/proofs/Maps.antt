-- The content as a map answers what the descent finds.
use Rattle.std.proofs.Common.{◌≡◌, ℕ, ◌<◌, ◌==◌, if◌then◌else◌, ◌⊎◌, Bool, true, false, List, [], ◌∷◌, ◌++◌, arith, refl, sym, ap, subst, ◌∙◌, inl, inr, Option}
use Rattle.std.specs.Prelude.{Some, None}
use Rattle.std.proofs.lemmas.Bool.Decides.{nat_tests}
use Rattle.std.proofs.lemmas.Bool.{cases_eq}
use Rattle.std.specs.Cmp.Lexicographic.{slice_cmp}
use Rattle.std.specs.Ordering.{nat_cmp, eq_by_cmp}
use Rattle.std.proofs.lemmas.Cmp.{nat_list_cmp_total}
use Rattle.std.specs.FinMap.{get, get-from_entries, find as look}
use Rattle.bz_tree.proofs.CleanWalks.{At, Clean, clean, find-in, has-at, in-has}
use Rattle.bz_tree.proofs.Contents.{content-union}
use Rattle.bz_tree.proofs.Descents.{leaf-found}
use Rattle.bz_tree.proofs.Visits.{In}
use Rattle.bz_tree.proofs.WalkForms.{fits-walk}
use Rattle.bz_tree.specs.Content.{Pairs, map_of, pairs_of}
use Rattle.bz_tree.specs.Descent.{content, leaf_of}
use Rattle.bz_tree.specs.Form.{Fits, Holds, IsHonest}
use Rattle.bz_tree.specs.View.{View}
use Rattle.bz_tree.specs.Walk.{Visit, fault_of, form_of, visit_to, walk}

abbrev or_else : Option (List ℕ) → Option (List ℕ) → Option (List ℕ)
or_else (Some x) rest = Some x
or_else None rest = rest

look-join : (q : List ℕ) (xs ys : Pairs) → look (slice_cmp nat_cmp) q (xs ++ ys) ≡ or_else (look (slice_cmp nat_cmp) q xs) (look (slice_cmp nat_cmp) q ys)
look-join q [] ys = refl
look-join q (e ∷ es) ys = go (eq_by_cmp (slice_cmp nat_cmp) q e.0) refl (look-join q es ys)
  where
    go : (b : Bool) → eq_by_cmp (slice_cmp nat_cmp) q e.0 ≡ b → look (slice_cmp nat_cmp) q (es ++ ys) ≡ or_else (look (slice_cmp nat_cmp) q es) (look (slice_cmp nat_cmp) q ys)
        → look (slice_cmp nat_cmp) q ((e ∷ es) ++ ys) ≡ or_else (look (slice_cmp nat_cmp) q (e ∷ es)) (look (slice_cmp nat_cmp) q ys)
    go true t ih = rw t refl
    go false t ih = rw t ih

-- each part says nothing of the key, or what the whole says
abbrev Part : Option (List ℕ) → Option (List ℕ) → Type 0
Part c x = (x ≡ None) ⊎ (x ≡ c)

join-part : (c x y : Option (List ℕ)) → Part c x → Part c y → Part c (or_else x y)
join-part c x y (inl e) h = rw e h
join-part None x y (inr e) h = rw e h
join-part (Some d) x y (inr e) h = inr (rw e refl)

join-first : (c x y : Option (List ℕ)) → x ≡ c → Part c y → or_else x y ≡ c
join-first None x y e (inl h) = rw (e, h) refl
join-first None x y e (inr h) = rw (e, h) refl
join-first (Some d) x y e h = rw e refl

join-rest : (c x y : Option (List ℕ)) → Part c x → y ≡ c → or_else x y ≡ c
join-rest c x y (inl e) h = rw (e, h) refl
join-rest None x y (inr e) h = rw (e, h) refl
join-rest (Some d) x y (inr e) h = rw e refl

first-part : (pairs : ℕ → Pairs) (q : List ℕ) (c : Option (List ℕ)) (u : Visit) → (u.level ≡ 0 → Part c (look (slice_cmp nat_cmp) q (pairs u.slot))) → Part c (look (slice_cmp nat_cmp) q (if u.level == 0 then pairs u.slot else []))
first-part pairs q c u h = elim (cases_eq u.level 0) [ inl e ↦ let t : (u.level == 0) ≡ true = grind (arith, nat_tests) in rw t (h e) | inr ne ↦ let t : (u.level == 0) ≡ false = grind (arith, nat_tests) in rw t (inl refl) ]

all-part : (pairs : ℕ → Pairs) (q : List ℕ) (c : Option (List ℕ)) (us : List Visit) → ((u : Visit) → In u us → u.level ≡ 0 → Part c (look (slice_cmp nat_cmp) q (pairs u.slot))) → Part c (look (slice_cmp nat_cmp) q (pairs_of pairs us))
unfolding pairs_of
all-part pairs q c [] h = inl refl
all-part pairs q c (u ∷ us) h = rw (look-join q (if u.level == 0 then pairs u.slot else []) (pairs_of pairs us))
    (join-part c _ _ (first-part pairs q c u (h u (inl refl))) (all-part pairs q c us (λ w i. h w (inr i))))

has-it : (pairs : ℕ → Pairs) (q : List ℕ) (c : Option (List ℕ)) (us : List Visit) (k : Visit) → ((u : Visit) → In u us → u.level ≡ 0 → Part c (look (slice_cmp nat_cmp) q (pairs u.slot)))
    → In k us → k.level ≡ 0 → look (slice_cmp nat_cmp) q (pairs k.slot) ≡ c → look (slice_cmp nat_cmp) q (pairs_of pairs us) ≡ c
unfolding pairs_of
has-it pairs q c [] k h i l e = absurd i
has-it pairs q c (u ∷ us) k h (inl s) l e = look-join q (if u.level == 0 then pairs u.slot else []) (pairs_of pairs us)
    ∙ join-first c _ _ (let t : (u.level == 0) ≡ true = grind (arith, nat_tests, ap (λ (x : Visit). x.level) s) in rw t (subst (λ (x : Visit). look (slice_cmp nat_cmp) q (pairs x.slot) ≡ c) s e)) (all-part pairs q c us (λ w i. h w (inr i)))
has-it pairs q c (u ∷ us) k h (inr i) l e = look-join q (if u.level == 0 then pairs u.slot else []) (pairs_of pairs us)
    ∙ join-rest c _ _ (first-part pairs q c u (h u (inl refl))) (has-it pairs q c us k (λ w j. h w (inr j)) i l e)

-- the map has at each key what the descent finds
pub get-map : (v : View) (pairs : ℕ → Pairs) (key : List ℕ) → IsHonest v → v.count v.top ≡ 1 → 0 < v.height → fault_of v ≡ None
    → ((k : ℕ) → (form_of (walk v)).inside k ≡ true → (form_of (walk v)).level k ≡ 0 → look (slice_cmp nat_cmp) key (pairs k) ≡ v.found k key)
    → get (map_of v pairs) key ≡ content v key
get-map v pairs key ho one tall none same = get-from_entries nat_list_cmp_total (pairs_of pairs (walk v)) key
    ∙ has-it pairs key (content v key) (walk v) (visit_to (walk v) (leaf_of v key)) part at.there l.leaf (ap (λ k. look (slice_cmp nat_cmp) key (pairs k)) at.slot ∙ same (leaf_of v key) l.inside l.leaf)
  where
    g : Fits v (form_of (walk v))
    g = fits-walk v one tall none

    l : Holds (form_of (walk v)) key (leaf_of v key)
    l = leaf-found v (form_of (walk v)) key ho g

    at : At (walk v) (leaf_of v key)
    at = has-at (walk v) (leaf_of v key) l.inside

    c : Clean v [] (walk v)
    c = clean v [] (walk v) none

    part : (u : Visit) → In u (walk v) → u.level ≡ 0 → Part (content v key) (look (slice_cmp nat_cmp) key (pairs u.slot))
    part u i z = rw (same u.slot inside leaf) (go (v.found u.slot key) refl)
      where
        inside : (form_of (walk v)).inside u.slot ≡ true
        inside = in-has (walk v) u i

        leaf : (form_of (walk v)).level u.slot ≡ 0
        leaf = ap (λ (x : Visit). x.level) (find-in (walk v) u c.apart i) ∙ z

        go : (x : Option (List ℕ)) → v.found u.slot key ≡ x → (v.found u.slot key ≡ None) ⊎ (v.found u.slot key ≡ content v key)
        go None e = inl e
        go (Some d) e = inr (sym (content-union v (form_of (walk v)) u.slot key ho g inside leaf (λ q. absurd (some_none d (sym e ∙ q)))))
          where
            some_none : (d : List ℕ) → Some d ≡ None → ⊥
            some_none d q = absurd (cc)
