-- The laws of the swaps that turn a link, over trees.
use Rattle.std.proofs.Common.{◌≡◌, ◌≢◌, ℕ, ◌==◌, ◌⊎◌, true, false, List, [], ◌∷◌, arith, refl, ap, ◌∙◌, inl, inr}
use Rattle.std.proofs.lemmas.Bool.Decides.{nat_tests}
use Rattle.std.proofs.lemmas.Bool.{cases_eq}
use Rattle.bz_tree.specs.Form.{Form, Fits}
use Rattle.bz_tree.specs.Walk.{form, is_among}
use Rattle.bz_tree.specs.SwapLaws.{ConsolidationsKeepTheContent, SplitsKeepTheContent, RootSplitsKeepTheContent}
use Rattle.bz_tree.proofs.AfterSplits.{SplitForm, RootForm}
use Rattle.bz_tree.proofs.Descents.{Home, home}
use Rattle.bz_tree.proofs.Grafts.{Graft}
use Rattle.bz_tree.proofs.LinkSwaps.{fits-graft}
use Rattle.bz_tree.proofs.Regrowths.{Lists, regrown}
use Rattle.bz_tree.proofs.Renewals.{Renewed, renewed, renewed-form, graft-renew, content-renew}
use Rattle.bz_tree.proofs.RootForms.{root_form, root-form}
use Rattle.bz_tree.proofs.RootSplits.{graft-root, content-root}
use Rattle.bz_tree.proofs.SplitContents.{content-split}
use Rattle.bz_tree.proofs.SplitForms.{split_form, split-form}
use Rattle.bz_tree.proofs.Splits.{pair, graft-split}
use Rattle.bz_tree.proofs.TreeForms.{fits}

pub consolidations : ConsolidationsKeepTheContent
consolidations v w old new t hw s same =
    regrown v w h (λ j. j == old) (old ∷ []) (new ∷ []) (f.up old) (f.index old) new hw (fits-graft v w f h (λ j. j == old) (f.up old) (f.index old) new g r) r lists
    (λ key. content-renew v w f h old new key t.honest hw g s n (same key))
  where
    f : Form
    f = form v

    g : Fits v f
    g = fits v t

    h : Form
    h = renewed f old new

    n : Renewed f h old new
    n = renewed-form f old new s.fresh

    r : Graft v w f h (λ j. j == old) (f.up old) (f.index old) new
    r = graft-renew v w f h old new g s n

    lists : Lists v f h (λ j. j == old) (old ∷ []) (new ∷ [])
    lists = record {
      cut_only = λ j e. grind (arith, nat_tests);
      placed = λ j e. let q : j ≡ new = grind (arith, nat_tests) in ap h.inside q ∙ n.placed.inside;
      only = λ j i. elim (n.only j i) [ inl e ↦ inl (grind (arith, nat_tests)) | inr (was, far) ↦ inr (was, grind (arith, nat_tests)) ];
    }

-- slot j is one of three
pub three-cases : (a b c j : ℕ) → is_among (a ∷ b ∷ c ∷ []) j ≡ true → (j ≡ a) ⊎ ((j ≡ b) ⊎ (j ≡ c))
three-cases a b c j e = elim (cases_eq j a) [
  | inl q ↦ inl q
  | inr na ↦ inr (elim (cases_eq j b) [ inl q ↦ inl q | inr nb ↦ inr (grind (arith, nat_tests)) ])
]

pub among-first : (a j : ℕ) (rest : List ℕ) → j ≡ a → is_among (a ∷ rest) j ≡ true
among-first a j rest e = grind (arith, nat_tests)

pub among-later : (a j : ℕ) (rest : List ℕ) → is_among rest j ≡ true → is_among (a ∷ rest) j ≡ true
among-later a j rest e = grind (arith, nat_tests)

pub not-among : (a j : ℕ) (rest : List ℕ) → j ≢ a → is_among rest j ≡ false → is_among (a ∷ rest) j ≡ false
not-among a j rest n e = grind (arith, nat_tests)

pub splits : SplitsKeepTheContent
splits v w a q l r m sep t hw s three (left, right) =
    regrown v w h (pair a (f.up a)) (a ∷ f.up a ∷ []) (q ∷ l ∷ r ∷ []) (f.up (f.up a)) (f.index (f.up a)) q hw
    (fits-graft v w f h (pair a (f.up a)) (f.up (f.up a)) (f.index (f.up a)) q g x) x lists
    (λ key. content-split v w f h a q l r m sep key t.honest hw g s n (left key) (right key))
  where
    f : Form
    f = form v

    g : Fits v f
    g = fits v t

    h : Form
    h = split_form f a q l r m sep

    oa : Home v f a
    oa = home v f a g s.inside s.not_top

    op : Home v f (f.up a)
    op = home v f (f.up a) g oa.hangs.inside s.deep

    n : SplitForm v f h a q l r m sep
    n = split-form v f a q l r m sep (λ e. absurd (omega (arith, oa.stands.level, ap f.level e))) (λ e. absurd (omega (arith, op.stands.level, ap f.level e)))
        (λ e. absurd (omega (arith, oa.stands.level, op.stands.level, ap f.level e))) s.fresh_q s.fresh_l s.fresh_r three.q_l three.q_r three.l_r

    x : Graft v w f h (pair a (f.up a)) (f.up (f.up a)) (f.index (f.up a)) q
    x = graft-split v w f h a q l r m sep g s n

    lists : Lists v f h (pair a (f.up a)) (a ∷ f.up a ∷ []) (q ∷ l ∷ r ∷ [])
    lists = record {
      cut_only = λ j e. grind (arith, nat_tests);
      placed = λ j e. elim (three-cases q l r j e) [
        | inl p ↦ ap h.inside p ∙ n.q_at.inside
        | inr o ↦ elim o [ inl p ↦ ap h.inside p ∙ n.l_at.inside | inr p ↦ ap h.inside p ∙ n.r_at.inside ]
      ];
      only = λ j i. elim (n.only j i) [
        | inl p ↦ inl (among-first q j (l ∷ r ∷ []) p)
        | inr o ↦ elim o [
          | inl p ↦ inl (among-later q j (l ∷ r ∷ []) (among-first l j (r ∷ []) p))
          | inr o2 ↦ elim o2 [
            | inl p ↦ inl (among-later q j (l ∷ r ∷ []) (among-later l j (r ∷ []) (among-first r j [] p)))
            | inr k ↦ inr (k.0, not-among a j (f.up a ∷ []) k.1 (not-among (f.up a) j [] k.2 refl))
          ]
        ]
      ];
    }

pub root-splits : RootSplitsKeepTheContent
root-splits v w a q l r m sep t hw s three (left, right) =
    regrown v w h (λ j. j == a) (a ∷ []) (q ∷ l ∷ r ∷ []) v.top 0 q hw (fits-graft v w f h (λ j. j == a) v.top 0 q g x) x lists
    (λ key. content-root v w f h a q l r m sep key t.honest hw g s n (left key) (right key))
  where
    f : Form
    f = form v

    g : Fits v f
    g = fits v t

    h : Form
    h = root_form v.top v.height f a q l r m sep

    oa : Home v f a
    oa = home v f a g s.inside s.not_top

    n : RootForm v w f h a q l r m sep
    n = root-form v w f a q l r m sep s.height g.top s.not_top (λ e. absurd (omega (arith, oa.stands.level, ap f.level e))) s.fresh_q s.fresh_l s.fresh_r three.q_l three.q_r three.l_r

    x : Graft v w f h (λ j. j == a) v.top 0 q
    x = graft-root v w f h a q l r m sep g s n

    lists : Lists v f h (λ j. j == a) (a ∷ []) (q ∷ l ∷ r ∷ [])
    lists = record {
      cut_only = λ j e. grind (arith, nat_tests);
      placed = λ j e. elim (three-cases q l r j e) [
        | inl p ↦ ap h.inside p ∙ n.q_at.inside
        | inr o ↦ elim o [ inl p ↦ ap h.inside p ∙ n.l_at.inside | inr p ↦ ap h.inside p ∙ n.r_at.inside ]
      ];
      only = λ j i. elim (n.only j i) [
        | inl p ↦ inl (among-first q j (l ∷ r ∷ []) p)
        | inr o ↦ elim o [
          | inl p ↦ inl (among-later q j (l ∷ r ∷ []) (among-first l j (r ∷ []) p))
          | inr o2 ↦ elim o2 [
            | inl p ↦ inl (among-later q j (l ∷ r ∷ []) (among-later l j (r ∷ []) (among-first r j [] p)))
            | inr k ↦ inr (k.0, not-among a j [] k.1 refl)
          ]
        ]
      ];
    }
