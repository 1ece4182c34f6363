-- A merge keeps the content.
use Rattle.std.proofs.Common.{◌≡◌, ℕ, zero, suc, ◌+◌, ◌<◌, ◌==◌, if◌then◌else◌, Bool, true, false, List, arith, refl, sym, ap, subst, ◌∙◌, inl, inr}
use Rattle.std.specs.Prelude.{not, Some}
use Rattle.std.proofs.lemmas.Bool.Decides.{nat_tests}
use Rattle.bz_tree.proofs.Contents.{Says, content-graft}
use Rattle.bz_tree.proofs.Descents.{Home, home, rises}
use Rattle.bz_tree.proofs.MergeForms.{MergeForm}
use Rattle.bz_tree.proofs.Merges.{graft-merge, is_three, three}
use Rattle.bz_tree.proofs.OrderLaws.{at_least-later, below-earlier, before-trans}
use Rattle.bz_tree.specs.Descent.{content}
use Rattle.bz_tree.specs.Form.{Fits, Form, Holds, IsHonest, Rises, Stands}
use Rattle.bz_tree.specs.Merge.{Merge}
use Rattle.bz_tree.specs.Order.{is_at_least, is_before, is_below}
use Rattle.bz_tree.specs.View.{View}

-- the merged leaf says of a key what the one of the two said that holds it
pub content-merge : (v w : View) (f h : Form) (a b q c : ℕ) (sep key : List ℕ) → IsHonest v → IsHonest w → Fits v f → Merge v w f a b q c sep → MergeForm v f h a b q c
    → (Holds f key a → w.found c key ≡ v.found a key) → (Holds f key b → w.found c key ≡ v.found b key) → content w key ≡ content v key
content-merge v w f h a b q c sep key hv hw g s t left right =
    content-graft v w f h (three a b (f.up a)) (f.up (f.up a)) (f.index (f.up a)) q key hv hw g (graft-merge v w f h a b q c sep g s t) carries
  where
    oa : Home v f a
    oa = home v f a g s.inside s.not_top

    ob : Home v f b
    ob = home v f b g s.inside_b s.not_top_b

    sb : Stands v f (f.up a) (f.index b) b
    sb = subst (λ k. Stands v f k (f.index b) b) s.same_up ob.stands

    wb : f.index b < v.count (f.up a)
    wb = subst (λ k. f.index b < v.count k) s.same_up ob.hangs.within

    rs : Rises v (f.up a) (f.low (f.up a)) (f.high (f.up a))
    rs = rises v f (f.up a) hv g oa.hangs.inside oa.hangs.inner

    mid_b : f.low b ≡ Some (v.key (f.up a) (f.index b))
    mid_b = sb.low ∙ grind (arith, nat_tests, s.next)

    mid_a : f.high a ≡ Some (v.key (f.up a) (f.index b))
    mid_a = oa.stands.high ∙ grind (arith, nat_tests, s.next, wb, ap (v.key (f.up a)) s.next)

    carries : (k : ℕ) → Holds f key k → three a b (f.up a) k ≡ true → (n : ℕ) × Says v w h key k n
    carries k at gone = elim (is_three a b (f.up a) k gone) [
      | inl e ↦ let fa : Holds f key a = subst (λ x. Holds f key x) e at in
          (c, record { there = record { inside = t.c_at.inside; leaf = t.c_at.level; low = rw t.c_at.low fa.low; high = rw t.c_at.high (wider_high (rw mid_a at fa.high)) }; same = left fa ∙ ap (λ x. v.found x key) (sym e) })
      | inr o ↦ elim o [
        | inl e ↦ let fb : Holds f key b = subst (λ x. Holds f key x) e at in
            (c, record { there = record { inside = t.c_at.inside; leaf = t.c_at.level; low = rw t.c_at.low (wider_low (rw mid_b at fb.low)); high = rw t.c_at.high fb.high }; same = right fb ∙ ap (λ x. v.found x key) (sym e) })
        | inr e ↦ absurd (omega (arith, at.leaf, oa.hangs.inner, ap f.level e))
      ]
    ]
      where
        wider_high : is_before key (v.key (f.up a) (f.index b)) ≡ true → is_below key (f.high b) ≡ true
        wider_high l = rw sb.high (go (f.index b + 1 == v.count (f.up a)) refl)
          where
            go : (x : Bool) → (f.index b + 1 == v.count (f.up a)) ≡ x → is_below key (if x then f.high (f.up a) else Some (v.key (f.up a) (f.index b + 1))) ≡ true
            go true e = below-earlier key (v.key (f.up a) (f.index b)) (f.high (f.up a)) l (rs.last (f.index b) (omega (arith, s.next)) wb)
            go false e = before-trans key (v.key (f.up a) (f.index b)) (v.key (f.up a) (f.index b + 1)) l (rs.rise (f.index b) (f.index b + 1) (omega (arith, s.next)) (omega arith) (grind (arith, nat_tests, wb)))

        wider_low : not (is_before key (v.key (f.up a) (f.index b))) ≡ true → is_at_least key (f.low a) ≡ true
        wider_low l = rw oa.stands.low (go (f.index a) refl)
          where
            go : (x : ℕ) → f.index a ≡ x → is_at_least key (if x == 0 then f.low (f.up a) else Some (v.key (f.up a) x)) ≡ true
            go zero e = at_least-later key (v.key (f.up a) (f.index b)) (f.low (f.up a)) l (rs.first (f.index b) (omega (arith, s.next)) wb)
            go (suc x) e = let n : (suc x == 0) ≡ false = grind (arith, nat_tests) in rw n (at_least-later key (v.key (f.up a) (f.index b)) (Some (v.key (f.up a) (suc x))) l (rs.rise (suc x) (f.index b) (omega arith) (omega (arith, s.next)) wb))
