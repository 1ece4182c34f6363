-- A split keeps the content.
use Rattle.std.proofs.Common.{◌≡◌, ℕ, Bool, true, false, List, arith, refl, sym, ap, subst, ◌∙◌, inl, inr}
use Rattle.std.proofs.lemmas.Bool.Decides.{nat_tests}
use Rattle.std.proofs.lemmas.Bool.{cases_eq}
use Rattle.bz_tree.proofs.AfterSplits.{SplitForm}
use Rattle.bz_tree.proofs.Contents.{Says, content-graft}
use Rattle.bz_tree.proofs.Descents.{Home, home}
use Rattle.bz_tree.proofs.Splits.{graft-split, pair}
use Rattle.bz_tree.specs.Descent.{content}
use Rattle.bz_tree.specs.Form.{Fits, Form, Holds, IsHonest}
use Rattle.bz_tree.specs.Order.{is_before}
use Rattle.bz_tree.specs.Split.{Split}
use Rattle.bz_tree.specs.View.{View}

-- a split keeps the content: of a leaf, the left half says of each key below sep what the leaf said, the right half of each other key
pub content-split : (v w : View) (f h : Form) (a q l r m : ℕ) (sep key : List ℕ) → IsHonest v → IsHonest w → Fits v f → Split v w f a q l r m sep → SplitForm v f h a q l r m sep
    → (f.level a ≡ 0 → is_before key sep ≡ true → w.found l key ≡ v.found a key) → (f.level a ≡ 0 → is_before key sep ≡ false → w.found r key ≡ v.found a key) → content w key ≡ content v key
content-split v w f h a q l r m sep key hv hw g s t left right =
    content-graft v w f h (pair a (f.up a)) (f.up (f.up a)) (f.index (f.up a)) q key hv hw g (graft-split v w f h a q l r m sep g s t) carries
  where
    oa : Home v f a
    oa = home v f a g s.inside s.not_top

    carries : (k : ℕ) → Holds f key k → pair a (f.up a) k ≡ true → (n : ℕ) × Says v w h key k n
    carries k at gone = elim (cases_eq k a) [
      | inl e ↦ go (is_before key sep) refl (subst (λ x. Holds f key x) e at) e
      | inr ne ↦ let e : k ≡ f.up a = grind (arith, nat_tests) in absurd (omega (arith, at.leaf, oa.hangs.inner, ap f.level e))
    ]
      where
        go : (b : Bool) → is_before key sep ≡ b → Holds f key a → k ≡ a → (n : ℕ) × Says v w h key k n
        go true q fa e = (l, record { there = record { inside = t.l_at.inside; leaf = t.l_at.level ∙ fa.leaf; low = rw t.l_at.low fa.low; high = rw t.l_at.high q }; same = left fa.leaf q ∙ ap (λ x. v.found x key) (sym e) })
        go false q fa e = (r, record { there = record { inside = t.r_at.inside; leaf = t.r_at.level ∙ fa.leaf; low = rw (t.r_at.low, q) refl; high = rw t.r_at.high fa.high }; same = right fa.leaf q ∙ ap (λ x. v.found x key) (sym e) })
