-- The laws of swaps that turn no link.
use Rattle.std.proofs.Common.{◌≡◌, ℕ, List, [], arith, sym, ap, ◌∙◌}
use Rattle.bz_tree.specs.View.{View}
use Rattle.bz_tree.specs.Form.{Form, Fits, IsHonest, Holds}
use Rattle.bz_tree.specs.Descent.{leaf_of, content}
use Rattle.bz_tree.specs.Walk.{form, IsTree}
use Rattle.bz_tree.specs.LeafSwap.{LeafSwap}
use Rattle.bz_tree.specs.Outcomes.{SameTree}
use Rattle.bz_tree.specs.SwapLaws.{UnreachedSlotsDoNotMatter, LeafSwapsKeepTheTree}
use Rattle.bz_tree.proofs.Descents.{leaf-found, leaf-unique}
use Rattle.bz_tree.proofs.LeafSwaps.{fits-leaf, content-leaf}
use Rattle.bz_tree.proofs.SameWalks.{walk-same}
use Rattle.bz_tree.proofs.TreeForms.{fits}
use Rattle.bz_tree.proofs.WalkBack.{walk-fits}

-- an image that a form fits is a tree
pub tree : (w : View) (h : Form) → IsHonest w → Fits w h → IsTree w
tree w h honest g = record { honest = honest; one = g.top_one; tall = g.tall; none = walk-fits w h g }

-- a swap that changes at most one leaf
same-tree : (v w : View) (k : ℕ) → IsTree v → IsHonest w → LeafSwap v w (form v) k → SameTree v w
same-tree v w k t hw c = record {
  tree = tree w (form v) hw after;
  walk = walk-same v w (form v) g c.same_top (λ j i l. c.others j i (λ e. absurd (omega (arith, c.leaf, ap (form v).level e))));
  leaf = λ key. let h : Holds (form v) key (leaf_of v key) = leaf-found v (form v) key t.honest g in
      leaf-unique w (form v) key (leaf_of v key) hw after h;
}
  where
    g : Fits v (form v)
    g = fits v t

    after : Fits w (form v)
    after = fits-leaf v w (form v) k g c

pub leaf-swaps : LeafSwapsKeepTheTree
leaf-swaps v w k t hw c = (same-tree v w k t hw c, λ key. content-leaf v w (form v) k key t.honest hw (fits v t) c)

-- where all reached slots are the same, a leaf of the tree is changed to itself
pub unreached-slots : UnreachedSlotsDoNotMatter
unreached-slots v w t hw top same = (s, record { tree = s.tree; content = content_same })
  where
    g : Fits v (form v)
    g = fits v t

    l : Holds (form v) [] (leaf_of v [])
    l = leaf-found v (form v) [] t.honest g

    c : LeafSwap v w (form v) (leaf_of v [])
    c = record {
      same_top = top;
      inside = l.inside;
      leaf = l.leaf;
      whole = (same (leaf_of v []) l.inside).fault 0 ((form v).low (leaf_of v [])) ((form v).high (leaf_of v []))
          (ap (λ n. v.fault (leaf_of v []) n ((form v).low (leaf_of v [])) ((form v).high (leaf_of v []))) (sym l.leaf)
          ∙ g.whole (leaf_of v []) l.inside (λ e. absurd (omega (arith, g.tall, g.height, l.leaf, ap (form v).level e))));
      others = λ j i n. same j i;
    }

    s : SameTree v w
    s = same-tree v w (leaf_of v []) t hw c

    content_same : (key : List ℕ) → content w key ≡ content v key
    content_same key =
        let at : Holds (form v) key (leaf_of v key) = leaf-found v (form v) key t.honest g in
        ap (λ k. w.found k key) (s.leaf key) ∙ (same (leaf_of v key) at.inside).found key
