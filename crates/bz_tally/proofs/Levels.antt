-- The swaps by which a level goes leave the number of leaves: neither a slot that goes nor one that comes is a leaf.
use Rattle.std.proofs.Common.{◌≡◌, ◌≢◌, ℕ, ◌+◌, ◌<◌, true, List, [], ◌∷◌, arith, refl, sym, ap, ◌∙◌, inl, inr}
use Rattle.bz_layout.specs.declared.config.Config.{Config}
use Rattle.bz_tree.proofs.Descents.{Home, home}
use Rattle.bz_tree.proofs.TreeForms.{fits}
use Rattle.bz_tree.proofs.Trees.{among-first, among-later, three-cases}
use Rattle.bz_tree.specs.Form.{Fits, Form}
use Rattle.bz_tree.specs.Outcomes.{Regrows}
use Rattle.bz_tree.specs.Walk.{is_among, IsTree}
use Rattle.bz_content.proofs.Reached.{level-at, level-is, root-below, root-stands}
use Rattle.bz_content.specs.Image.{Image, node, root}
use Rattle.bz_content.specs.Swaps.{form_in}
use Rattle.bz_content.specs.View.{view_of}
use Rattle.bz_leaves.proofs.Consolidations.{only-one}
use Rattle.bz_leaves.proofs.Exchanges.{AreTheLeaves, leaves-exchanged, new-level}
use Rattle.bz_leaves.proofs.Splits.{two-cases}
use Rattle.bz_leaves.specs.Laws.{AsManyLeaves}
use Rattle.bz_leaves.specs.Leaves.{leaf_count}
use Rattle.bz_levels.proofs.Proved.{inner_joins_keep_the_content, lowered_roots_keep_the_content}
use Rattle.bz_levels.specs.Restructures.{JoinsInner, LowersRoot}

-- slots above leaves go, and slots above leaves come
module _ (c : Config) (x y : Image) (gone new : List ℕ) (t : IsTree (view_of c x)) (r : Regrows (view_of c x) (view_of c y) gone new)
    (high : (j : ℕ) → is_among gone j ≡ true → 0 < (form_in c x).level j) (come : (j : ℕ) → is_among new j ≡ true → 0 < (form_in c y).level j) where
  no-leaves : AreTheLeaves (form_in c x) (form_in c y) gone new [] []
  no-leaves = record {
    out = λ j e. absurd (cc);
    out_all = λ j e z. absurd (omega (arith, high j e, z));
    come = λ j e. absurd (cc);
    come_flat = λ j e. absurd (cc);
    come_all = λ j e z. absurd (omega (arith, come j e, z));
  }

  exchanged : leaf_count c y + 0 ≡ leaf_count c x + 0
  exchanged = leaves-exchanged c x y gone new t r [] [] no-leaves tt tt

  as-many : AsManyLeaves c x y
  as-many = omega (arith, exchanged)

-- a merge of two inner nodes
module _ (c : Config) (x y : Image) (a b q m : ℕ) (sep : List ℕ) (t : IsTree (view_of c x)) (s : JoinsInner c x y a b q m sep) where
  abbrev f : Form
  f = form_in c x

  abbrev h : Form
  h = form_in c y

  abbrev gone : List ℕ
  gone = a ∷ b ∷ (form_in c x).up a ∷ []

  abbrev new : List ℕ
  new = q ∷ m ∷ []

  g : Fits (view_of c x) f
  g = fits (view_of c x) t

  pub joined-regrows : Regrows (view_of c x) (view_of c y) (a ∷ b ∷ (form_in c x).up a ∷ []) (q ∷ m ∷ [])
  joined-regrows = inner_joins_keep_the_content c x y a b q m sep t s

  -- the superblock is its own parent, and the parent of a is not
  a-below : a ≢ c.nodes
  a-below e = s.deep (ap f.up e ∙ g.top_up)

  b-below : b ≢ c.nodes
  b-below e = s.deep (sym s.same_up ∙ (ap f.up e ∙ g.top_up))

  oa : Home (view_of c x) f a
  oa = home (view_of c x) f a g s.inside a-below

  ob : Home (view_of c x) f b
  ob = home (view_of c x) f b g s.inside_b b-below

  b-high : 0 < f.level b
  b-high = omega (arith, s.inner, oa.stands.level, ob.stands.level, ap f.level s.same_up)

  pub joined-high : (j : ℕ) → is_among (a ∷ b ∷ (form_in c x).up a ∷ []) j ≡ true → 0 < (form_in c x).level j
  joined-high j e = elim (three-cases a b (f.up a) j e) [
    | inl p ↦ omega (arith, s.inner, ap f.level p)
    | inr o ↦ elim o [ inl p ↦ omega (arith, b-high, ap f.level p) | inr p ↦ omega (arith, oa.stands.level, ap f.level p) ]
  ]

  q-high : 0 < h.level q
  q-high = omega (arith, oa.stands.level, new-level c x y gone new t joined-regrows q (among-first q q (m ∷ []) refl) s.fresh_q, level-is c.nodes (f.level (f.up a)) (node c y.raw q) (node c y.words q) _ _ s.whole_q)

  m-high : 0 < h.level m
  m-high = omega (arith, s.inner, new-level c x y gone new t joined-regrows m (among-later q m (m ∷ []) (among-first m m [] refl)) s.fresh_m, level-is c.nodes (f.level a) (node c y.raw m) (node c y.words m) _ _ s.whole_m)

  pub joined-as-many : AsManyLeaves c x y
  joined-as-many = as-many c x y gone new t joined-regrows joined-high (λ j e. elim (two-cases q m j e) [ inl p ↦ omega (arith, q-high, ap h.level p) | inr p ↦ omega (arith, m-high, ap h.level p) ])

-- a lowering of the root
module _ (c : Config) (x y : Image) (to : ℕ) (t : IsTree (view_of c x)) (s : LowersRoot c x y to) where
  abbrev old : ℕ
  old = root x.words

  at : Fits (view_of c x) (form_in c x)
  at = fits (view_of c x) t

  pub lowered-regrows : Regrows (view_of c x) (view_of c y) (root x.words ∷ []) []
  lowered-regrows = lowered_roots_keep_the_content c x y to t s

  root-high : 0 < (form_in c x).level old
  root-high = omega (arith, s.inner, level-at c x old at (root-stands c x at).inside (root-below c x at))

  pub lowered-high : (j : ℕ) → is_among (root x.words ∷ []) j ≡ true → 0 < (form_in c x).level j
  lowered-high j e = omega (arith, root-high, ap (form_in c x).level (only-one old j e))

  pub lowered-as-many : AsManyLeaves c x y
  lowered-as-many = as-many c x y (old ∷ []) [] t lowered-regrows lowered-high (λ j e. absurd (cc))
