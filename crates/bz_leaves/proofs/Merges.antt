-- The merged leaf is one in the place of two.
use Rattle.std.proofs.Common.{◌≡◌, ◌≢◌, ℕ, ◌+◌, ◌<◌, true, List, [], ◌∷◌, arith, refl, sym, ap, ◌∙◌, inl, inr}
use Rattle.bz_tree.proofs.Descents.{Home, home}
use Rattle.bz_tree.proofs.TreeForms.{fits}
use Rattle.bz_tree.proofs.Trees.{among-first, among-later, not-among, three-cases}
use Rattle.bz_tree.specs.Form.{Fits, Form}
use Rattle.bz_tree.specs.Outcomes.{Regrows}
use Rattle.bz_tree.specs.Walk.{is_among}
use Rattle.bz_content.proofs.Reached.{level-is}
use Rattle.bz_content.specs.Image.{node}
use Rattle.bz_content.specs.Swaps.{form_in}
use Rattle.bz_content.specs.View.{view_of}
use Rattle.bz_content.proofs.Proved.{merges_keep_the_content}
use Rattle.bz_leaves.proofs.Consolidations.{only-one}
use Rattle.bz_leaves.proofs.Exchanges.{AreTheLeaves, leaf-is, leaves-exchanged, new-level, new-slot, no-leaf, not-top, old-slot}
use Rattle.bz_leaves.proofs.Splits.{two-cases}
use Rattle.bz_leaves.specs.Laws.{MergesTakeOne}
use Rattle.bz_leaves.specs.Leaves.{leaf_count}

pub merges : MergesTakeOne
merges c x y a d q m sep t s = omega (arith, exchanged)
  where
    gone : List ℕ
    gone = a ∷ d ∷ (form_in c x).up a ∷ []

    new : List ℕ
    new = q ∷ m ∷ []

    f : Form
    f = form_in c x

    h : Form
    h = form_in c y

    g : Fits (view_of c x) f
    g = fits (view_of c x) t

    r : Regrows (view_of c x) (view_of c y) gone new
    r = merges_keep_the_content c x y a d q m sep t s

    a_below : a ≢ c.nodes
    a_below = not-top c x a t s.leaf

    -- the superblock is its own parent, and the parent of a is not
    d_below : d ≢ c.nodes
    d_below e = s.deep (sym s.same_up ∙ ap f.up e ∙ g.top_up)

    oa : Home (view_of c x) f a
    oa = home (view_of c x) f a g s.inside a_below

    od : Home (view_of c x) f d
    od = home (view_of c x) f d g s.inside_b d_below

    d_flat : f.level d ≡ 0
    d_flat = omega (arith, oa.stands.level, od.stands.level, s.leaf, ap f.level s.same_up)

    apart : a ≢ d
    apart e = absurd (omega (arith, s.next, ap f.index e))

    q_among : is_among new q ≡ true
    q_among = among-first q q (m ∷ []) refl

    m_among : is_among new m ≡ true
    m_among = among-later q m (m ∷ []) (among-first m m [] refl)

    q_high : 0 < h.level q
    q_high = omega (arith, oa.stands.level, new-level c x y gone new t r q q_among s.fresh_q, level-is c.nodes (f.level (f.up a)) (node c y.raw q) (node c y.words q) _ _ s.whole_q)

    m_flat : h.level m ≡ 0
    m_flat = new-level c x y gone new t r m m_among s.fresh_m ∙ level-is c.nodes 0 (node c y.raw m) (node c y.words m) _ _ s.whole_m

    leaves : AreTheLeaves f h gone new (a ∷ d ∷ []) (m ∷ [])
    leaves = record {
      out = λ j e. elim (two-cases a d j e) [ inl p ↦ among-first a j (d ∷ f.up a ∷ []) p | inr p ↦ among-later a j (d ∷ f.up a ∷ []) (among-first d j (f.up a ∷ []) p) ];
      out_all = λ j e z. elim (three-cases a d (f.up a) j e) [
        | inl p ↦ among-first a j (d ∷ []) p
        | inr o ↦ elim o [ inl p ↦ among-later a j (d ∷ []) (among-first d j [] p) | inr p ↦ absurd (omega (arith, oa.stands.level, z, ap f.level p)) ]
      ];
      come = λ j e. among-later q j (m ∷ []) e;
      come_flat = λ j e. ap h.level (only-one m j e) ∙ m_flat;
      come_all = λ j e z. elim (two-cases q m j e) [ inl p ↦ absurd (omega (arith, q_high, z, ap h.level p)) | inr p ↦ among-first m j [] p ];
    }

    exchanged : leaf_count c y + 2 ≡ leaf_count c x + 1
    exchanged = leaves-exchanged c x y gone new t r (a ∷ d ∷ []) (m ∷ []) leaves (
      old-slot c x y gone new t r a s.inside a_below,
      (leaf-is c x a s.inside s.leaf, (not-among d a [] apart refl, (old-slot c x y gone new t r d s.inside_b d_below, (leaf-is c x d s.inside_b d_flat, (refl, tt))))),
    )
        (new-slot c x y gone new t r m m_among s.fresh_m, (no-leaf c x m s.fresh_m, (refl, tt)))
