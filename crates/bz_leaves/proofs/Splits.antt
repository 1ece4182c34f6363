-- The halves of a leaf are two leaves in the place of one; those of an inner node are none.
use Rattle.std.proofs.Common.{◌≡◌, ◌≢◌, ℕ, ◌+◌, ◌<◌, ◌⊎◌, true, false, List, [], ◌∷◌, arith, refl, sym, ap, ◌∙◌, inl, inr}
use Rattle.std.proofs.lemmas.Bool.{cases_eq}
use Rattle.std.proofs.lemmas.Bool.Decides.{nat_tests}
use Rattle.bz_layout.specs.declared.config.Config.{Config}
use Rattle.bz_tree.proofs.Descents.{home}
use Rattle.bz_tree.proofs.TreeForms.{fits}
use Rattle.bz_tree.proofs.Trees.{among-first, among-later, not-among, three-cases}
use Rattle.bz_tree.specs.Form.{Form}
use Rattle.bz_tree.specs.Outcomes.{Regrows}
use Rattle.bz_tree.specs.Split.{AreThree}
use Rattle.bz_tree.specs.Walk.{is_among, IsTree}
use Rattle.bz_slotted.specs.Readers.{level_of}
use Rattle.bz_content.proofs.Reached.{level-at, level-is, root-below, root-stands}
use Rattle.bz_content.specs.Image.{Image, node, root}
use Rattle.bz_content.specs.Swaps.{form_in}
use Rattle.bz_content.specs.View.{view_of}
use Rattle.bz_content.proofs.Proved.{root_splits_keep_the_content, splits_keep_the_content}
use Rattle.bz_leaves.proofs.Consolidations.{only-one}
use Rattle.bz_leaves.proofs.Exchanges.{AreTheLeaves, leaf-is, leaves-exchanged, new-level, new-slot, no-leaf, old-slot}
use Rattle.bz_leaves.specs.Laws.{AsManyLeaves, OneLeafMore, SplitsAddLeaves, LeafSplitsAddOne, RootLeafSplitsAddOne}
use Rattle.bz_leaves.specs.Leaves.{leaf_count}

pub two-cases : (a b j : ℕ) → is_among (a ∷ b ∷ []) j ≡ true → (j ≡ a) ⊎ (j ≡ b)
two-cases a b j e = elim (cases_eq j a) [ inl q ↦ inl q | inr n ↦ inr (grind (arith, nat_tests)) ]

-- for a node that stands at this level, and other slots above it, come a higher node q and its halves l and r
module _ (c : Config) (x y : Image) (a q l r level : ℕ) (above : List ℕ) (t : IsTree (view_of c x)) (g : Regrows (view_of c x) (view_of c y) (a ∷ above) (q ∷ l ∷ r ∷ []))
    (inside : (form_in c x).inside a ≡ true) (below : a ≢ c.nodes) (at : (form_in c x).level a ≡ level) (high : (j : ℕ) → is_among above j ≡ true → level < (form_in c x).level j)
    (fresh_q : (form_in c x).inside q ≡ false) (fresh_l : (form_in c x).inside l ≡ false) (fresh_r : (form_in c x).inside r ≡ false) (three : AreThree q l r)
    (said_q : level < level_of (node c y.words q)) (said_l : level_of (node c y.words l) ≡ level) (said_r : level_of (node c y.words r) ≡ level) where
  abbrev f : Form
  f = form_in c x

  abbrev h : Form
  h = form_in c y

  q-among : is_among (q ∷ l ∷ r ∷ []) q ≡ true
  q-among = among-first q q (l ∷ r ∷ []) refl

  l-among : is_among (q ∷ l ∷ r ∷ []) l ≡ true
  l-among = among-later q l (l ∷ r ∷ []) (among-first l l (r ∷ []) refl)

  r-among : is_among (q ∷ l ∷ r ∷ []) r ≡ true
  r-among = among-later q r (l ∷ r ∷ []) (among-later l r (r ∷ []) (among-first r r [] refl))

  q-at : level < h.level q
  q-at = omega (arith, said_q, new-level c x y (a ∷ above) (q ∷ l ∷ r ∷ []) t g q q-among fresh_q)

  l-at : h.level l ≡ level
  l-at = new-level c x y (a ∷ above) (q ∷ l ∷ r ∷ []) t g l l-among fresh_l ∙ said_l

  r-at : h.level r ≡ level
  r-at = new-level c x y (a ∷ above) (q ∷ l ∷ r ∷ []) t g r r-among fresh_r ∙ said_r

  gone-cases : (j : ℕ) → is_among (a ∷ above) j ≡ true → (j ≡ a) ⊎ (is_among above j ≡ true)
  gone-cases j e = elim (cases_eq j a) [ inl p ↦ inl p | inr n ↦ inr (grind (arith, nat_tests)) ]

  leaf-halves : level ≡ 0 → AreTheLeaves f h (a ∷ above) (q ∷ l ∷ r ∷ []) (a ∷ []) (l ∷ r ∷ [])
  leaf-halves flat = record {
    out = λ j e. among-first a j above (only-one a j e);
    out_all = λ j e z. elim (gone-cases j e) [ inl p ↦ among-first a j [] p | inr more ↦ absurd (omega (arith, high j more, z)) ];
    come = λ j e. among-later q j (l ∷ r ∷ []) e;
    come_flat = λ j e. elim (two-cases l r j e) [ inl p ↦ ap h.level p ∙ (l-at ∙ flat) | inr p ↦ ap h.level p ∙ (r-at ∙ flat) ];
    come_all = λ j e z. elim (three-cases q l r j e) [
      | inl p ↦ absurd (omega (arith, q-at, z, ap h.level p))
      | inr o ↦ elim o [ inl p ↦ among-first l j (r ∷ []) p | inr p ↦ among-later l j (r ∷ []) (among-first r j [] p) ]
    ];
  }

  leaf-added : level ≡ 0 → OneLeafMore c x y
  leaf-added flat = omega (arith, exchanged)
    where
      exchanged : leaf_count c y + 1 ≡ leaf_count c x + 2
      exchanged = leaves-exchanged c x y (a ∷ above) (q ∷ l ∷ r ∷ []) t g (a ∷ []) (l ∷ r ∷ []) (leaf-halves flat)
          (old-slot c x y (a ∷ above) (q ∷ l ∷ r ∷ []) t g a inside below, (leaf-is c x a inside (at ∙ flat), (refl, tt))) (
            new-slot c x y (a ∷ above) (q ∷ l ∷ r ∷ []) t g l l-among fresh_l,
            (no-leaf c x l fresh_l, (not-among r l [] three.l_r refl, (new-slot c x y (a ∷ above) (q ∷ l ∷ r ∷ []) t g r r-among fresh_r, (no-leaf c x r fresh_r, (refl, tt))))),
          )

  inner-halves : 0 < level → AreTheLeaves f h (a ∷ above) (q ∷ l ∷ r ∷ []) [] []
  inner-halves deep = record {
    out = λ j e. absurd (cc);
    out_all = λ j e z. elim (gone-cases j e) [ inl p ↦ absurd (omega (arith, at, deep, z, ap f.level p)) | inr more ↦ absurd (omega (arith, high j more, z)) ];
    come = λ j e. absurd (cc);
    come_flat = λ j e. absurd (cc);
    come_all = λ j e z. elim (three-cases q l r j e) [
      | inl p ↦ absurd (omega (arith, q-at, z, ap h.level p))
      | inr o ↦ elim o [ inl p ↦ absurd (omega (arith, l-at, deep, z, ap h.level p)) | inr p ↦ absurd (omega (arith, r-at, deep, z, ap h.level p)) ]
    ];
  }

  inner-kept : 0 < level → AsManyLeaves c x y
  inner-kept deep = omega (arith, exchanged)
    where
      exchanged : leaf_count c y + 0 ≡ leaf_count c x + 0
      exchanged = leaves-exchanged c x y (a ∷ above) (q ∷ l ∷ r ∷ []) t g [] [] (inner-halves deep) tt tt

  pub halved : SplitsAddLeaves c x y level
  halved = record { leaf = leaf-added; inner = inner-kept }

pub splits : LeafSplitsAddOne
splits c x y a q l r m sep t s =
    halved c x y a q l r (f.level a) (f.up a ∷ []) t (splits_keep_the_content c x y a q l r m sep t s) s.inside s.not_top refl (λ j e. omega (arith, up, ap f.level (only-one (f.up a) j e)))
    s.fresh_q s.fresh_l s.fresh_r s.three (omega (arith, up, level-is c.nodes (f.level (f.up a)) (node c y.raw q) (node c y.words q) _ _ s.whole_q))
    (level-is c.nodes (f.level a) (node c y.raw l) (node c y.words l) _ _ s.whole_l) (level-is c.nodes (f.level a) (node c y.raw r) (node c y.words r) _ _ s.whole_r)
  where
    f : Form
    f = form_in c x

    up : f.level a + 1 ≡ f.level (f.up a)
    up = (home (view_of c x) f a (fits (view_of c x) t) s.inside s.not_top).stands.level

pub root-splits : RootLeafSplitsAddOne
root-splits c x y q l r m sep t s =
    halved c x y a q l r level [] t (root_splits_keep_the_content c x y q l r m sep t s) inside below (sym (level-at c x a (fits (view_of c x) t) inside below)) (λ j e. absurd (cc))
    s.fresh_q s.fresh_l s.fresh_r s.three (omega (arith, level-is c.nodes (level + 1) (node c y.raw q) (node c y.words q) _ _ s.whole_q))
    (level-is c.nodes level (node c y.raw l) (node c y.words l) _ _ s.whole_l) (level-is c.nodes level (node c y.raw r) (node c y.words r) _ _ s.whole_r)
  where
    a : ℕ
    a = root x.words

    level : ℕ
    level = level_of (node c x.words a)

    inside : (form_in c x).inside a ≡ true
    inside = (root-stands c x (fits (view_of c x) t)).inside

    below : a ≢ c.nodes
    below = root-below c x (fits (view_of c x) t)
