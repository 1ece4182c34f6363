-- The law of merges, over trees.
use Rattle.std.proofs.Common.{◌≡◌, ℕ, ◌⊎◌, true, [], ◌∷◌, arith, refl, ap, ◌∙◌, inl, inr}
use Rattle.std.proofs.lemmas.Bool.Decides.{nat_tests}
use Rattle.std.proofs.lemmas.Bool.{cases_eq}
use Rattle.bz_tree.specs.Form.{Form, Fits}
use Rattle.bz_tree.specs.Walk.{form, is_among}
use Rattle.bz_tree.specs.SwapLaws.{MergesKeepTheContent}
use Rattle.bz_tree.proofs.Descents.{Home, home}
use Rattle.bz_tree.proofs.Grafts.{Graft}
use Rattle.bz_tree.proofs.LinkSwaps.{fits-graft}
use Rattle.bz_tree.proofs.MergeContents.{content-merge}
use Rattle.bz_tree.proofs.MergeForms.{MergeForm, merge_form, merge-form}
use Rattle.bz_tree.proofs.Merges.{three, graft-merge}
use Rattle.bz_tree.proofs.Regrowths.{Lists, regrown}
use Rattle.bz_tree.proofs.TreeForms.{fits}
use Rattle.bz_tree.proofs.Trees.{among-first, among-later, not-among}

two-cases : (a b j : ℕ) → is_among (a ∷ b ∷ []) j ≡ true → (j ≡ a) ⊎ (j ≡ b)
two-cases a b j e = elim (cases_eq j a) [ inl q ↦ inl q | inr na ↦ inr (grind (arith, nat_tests)) ]

pub merges : MergesKeepTheContent
merges v w a b q c sep t hw s qc (left, right) =
    regrown v w h (three a b (f.up a)) (a ∷ b ∷ f.up a ∷ []) (q ∷ c ∷ []) (f.up (f.up a)) (f.index (f.up a)) q hw
    (fits-graft v w f h (three a b (f.up a)) (f.up (f.up a)) (f.index (f.up a)) q g x) x lists
    (λ key. content-merge v w f h a b q c sep key t.honest hw g s n (left key) (right key))
  where
    f : Form
    f = form v

    g : Fits v f
    g = fits v t

    h : Form
    h = merge_form f a b q c

    oa : Home v f a
    oa = home v f a g s.inside s.not_top

    ob : Home v f b
    ob = home v f b g s.inside_b s.not_top_b

    op : Home v f (f.up a)
    op = home v f (f.up a) g oa.hangs.inside s.deep

    n : MergeForm v f h a b q c
    n = merge-form v f a b q c (λ e. absurd (omega (arith, op.stands.level, ap f.level e))) s.next s.fresh_q s.fresh_c qc
        (λ j i nt e. absurd (omega (arith, (home v f j g i nt).hangs.inner, s.leaf, ap f.level e)))
        (λ j i nt e. absurd (omega (arith, (home v f j g i nt).hangs.inner, s.leaf, ap f.level e, oa.stands.level, ob.stands.level, ap f.level s.same_up))) s.same_up

    x : Graft v w f h (three a b (f.up a)) (f.up (f.up a)) (f.index (f.up a)) q
    x = graft-merge v w f h a b q c sep g s n

    lists : Lists v f h (three a b (f.up a)) (a ∷ b ∷ f.up a ∷ []) (q ∷ c ∷ [])
    lists = record {
      cut_only = λ j e. grind (arith, nat_tests);
      placed = λ j e. elim (two-cases q c j e) [ inl p ↦ ap h.inside p ∙ n.q_at.inside | inr p ↦ ap h.inside p ∙ n.c_at.inside ];
      only = λ j i. elim (n.only j i) [
        | inl p ↦ inl (among-first q j (c ∷ []) p)
        | inr o ↦ elim o [
          | inl p ↦ inl (among-later q j (c ∷ []) (among-first c j [] p))
          | inr k ↦ inr (k.0, not-among a j (b ∷ f.up a ∷ []) k.1 (not-among b j (f.up a ∷ []) k.2 (not-among (f.up a) j [] k.3 refl)))
        ]
      ];
    }
