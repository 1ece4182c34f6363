-- The law of merges of inner slots, over trees.
use Rattle.std.proofs.Common.{◌≡◌, ℕ, ◌⊎◌, true, List, [], ◌∷◌, arith, refl, ap, ◌∙◌, inl, inr}
use Rattle.std.proofs.lemmas.Bool.Decides.{nat_tests}
use Rattle.std.proofs.lemmas.Bool.{cases_eq}
use Rattle.bz_tree.specs.Form.{Form, Fits, Holds}
use Rattle.bz_tree.specs.Walk.{form, is_among}
use Rattle.bz_tree.proofs.Descents.{Home, home}
use Rattle.bz_tree.proofs.Grafts.{Graft}
use Rattle.bz_tree.proofs.LinkSwaps.{fits-graft}
use Rattle.bz_tree.proofs.Contents.{content-graft}
use Rattle.bz_tree.proofs.Merges.{three, is_three}
use Rattle.bz_tree.proofs.Regrowths.{Lists, regrown}
use Rattle.bz_tree.proofs.TreeForms.{fits}
use Rattle.bz_tree.proofs.Trees.{among-first, among-later, not-among}
use Rattle.bz_levels.specs.Laws.{InnerMergesKeepTheContent}
use Rattle.bz_levels.proofs.JoinForms.{JoinForm, join_form, join-form}
use Rattle.bz_levels.proofs.Joins.{graft-join}

two-cases : (a b j : ℕ) → is_among (a ∷ b ∷ []) j ≡ true → (j ≡ a) ⊎ (j ≡ b)
two-cases a b j e = elim (cases_eq j a) [ inl q ↦ inl q | inr na ↦ inr (grind (arith, nat_tests)) ]

pub inner-merges : InnerMergesKeepTheContent
inner-merges v w a b q c sep t hw s qc =
    regrown v w h (three a b (f.up a)) (a ∷ b ∷ f.up a ∷ []) (q ∷ c ∷ []) (f.up (f.up a)) (f.index (f.up a)) q hw
    (fits-graft v w f h (three a b (f.up a)) (f.up (f.up a)) (f.index (f.up a)) q g x) x lists
    (λ key. content-graft v w f h (three a b (f.up a)) (f.up (f.up a)) (f.index (f.up a)) q key t.honest hw g x (λ k at gone. absurd (no-leaf key k at gone)))
  where
    f : Form
    f = form v

    g : Fits v f
    g = fits v t

    h : Form
    h = join_form f a b q c (v.count a)

    oa : Home v f a
    oa = home v f a g s.inside s.not_top

    ob : Home v f b
    ob = home v f b g s.inside_b s.not_top_b

    op : Home v f (f.up a)
    op = home v f (f.up a) g oa.hangs.inside s.deep

    level_b : f.level b ≡ f.level a
    level_b = omega (arith, oa.stands.level, ob.stands.level, ap f.level s.same_up)

    n : JoinForm v f h a b q c (v.count a)
    n = join-form v f a b q c (v.count a) (λ e. absurd (omega (arith, oa.stands.level, ap f.level e))) (λ e. absurd (omega (arith, oa.stands.level, level_b, ap f.level e))) (λ e. absurd (omega (arith, op.stands.level, ap f.level e)))
        (λ e. absurd (omega (arith, oa.stands.level, op.stands.level, ap f.level e))) (λ e. absurd (omega (arith, oa.stands.level, op.stands.level, level_b, ap f.level e))) (λ e. absurd (omega (arith, s.next, ap f.index e)))
        s.next s.fresh_q s.fresh_c qc s.same_up

    x : Graft v w f h (three a b (f.up a)) (f.up (f.up a)) (f.index (f.up a)) q
    x = graft-join v w f h a b q c sep g s n

    -- no slot that goes is a leaf
    no-leaf : (key : List ℕ) (k : ℕ) → Holds f key k → three a b (f.up a) k ≡ true → ⊥
    no-leaf key k at gone = elim (is_three a b (f.up a) k gone) [
      | inl e ↦ omega (arith, at.leaf, s.inner, ap f.level e)
      | inr o ↦ elim o [ inl e ↦ omega (arith, at.leaf, s.inner, level_b, ap f.level e) | inr e ↦ omega (arith, at.leaf, oa.hangs.inner, ap f.level e) ]
    ]

    lists : Lists v f h (three a b (f.up a)) (a ∷ b ∷ f.up a ∷ []) (q ∷ c ∷ [])
    lists = record {
      cut_only = λ j e. grind (arith, nat_tests);
      placed = λ j e. elim (two-cases q c j e) [ inl p ↦ ap h.inside p ∙ n.q_at.inside | inr p ↦ ap h.inside p ∙ n.c_at.inside ];
      only = λ j i. elim (n.only j i) [
        | inl p ↦ inl (among-first q j (c ∷ []) p)
        | inr o ↦ elim o [
          | inl p ↦ inl (among-later q j (c ∷ []) (among-first c j [] p))
          | inr k ↦ inr (k.0, not-among a j (b ∷ f.up a ∷ []) k.1 (not-among b j (f.up a ∷ []) k.2 (not-among (f.up a) j [] k.3 refl)))
        ]
      ];
    }
