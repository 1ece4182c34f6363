-- The halves of the key's leaf have room, below an inner node and at the root.
use Rattle.std.proofs.Common.{◌≡◌, ◌≢◌, ℕ, ◌+◌, List, [], ◌∷◌, arith, refl, sym, ap, ◌∙◌}
use Rattle.bz_layout.specs.declared.config.Config.{Config}
use Rattle.bz_tree.proofs.TreeForms.{fits}
use Rattle.bz_tree.proofs.Trees.{among-first}
use Rattle.bz_tree.specs.Descent.{leaf_of}
use Rattle.bz_tree.specs.Form.{Form, Hangs}
use Rattle.bz_tree.specs.Walk.{IsTree}
use Rattle.bz_slotted.specs.Readers.{level_of}
use Rattle.bz_content.proofs.Reached.{is, level-is}
use Rattle.bz_content.specs.Image.{Image, node, root}
use Rattle.bz_content.specs.Swaps.{form_in}
use Rattle.bz_content.specs.View.{view_of}
use Rattle.bz_content.proofs.Proved.{root_splits_keep_the_content, splits_keep_the_content}
use Rattle.bz_stage.proofs.Anew.{leaf-anew, of-three}
use Rattle.bz_stage.proofs.Paths.{leaf-on-path, root-on-path}
use Rattle.bz_stage.specs.Laws.{LeafSplitsGiveRoom, RootLeafSplitsGiveRoom}
use Rattle.bz_stage.specs.Paths.{on_path}
use Rattle.bz_stage.specs.Stages.{root_level}
use Rattle.bz_stage.specs.Swaps.{IsRoomyLeaf}

pub leaf-splits : LeafSplitsGiveRoom
leaf-splits c x y key words q l r m sep t s left right few =
    leaf-anew c x y key words (a ∷ f.up a ∷ []) (q ∷ l ∷ r ∷ []) t (splits_keep_the_content c x y a q l r m sep t s) (among-first a a (f.up a ∷ []) refl)
    (of-three c y (λ j. IsRoomyLeaf c y j) q l r 0 above left right) few
  where
    a : ℕ
    a = leaf_of (view_of c x) key

    f : Form
    f = form_in c x

    hangs : Hangs (view_of c x) f a
    hangs = (fits (view_of c x) t).hangs a s.inside s.not_top

    -- the new parent is no leaf
    above : level_of (node c y.words q) ≢ 0
    above e = absurd (omega (arith, e, hangs.inner, level-is c.nodes (f.level (f.up a)) (node c y.raw q) (node c y.words q) _ _ s.whole_q))

-- the slot on the way to a key at the root's level
pub root-is : (c : Config) (x : Image) (key : List ℕ) → IsTree (view_of c x) → on_path (view_of c x) key (root_level c x) ≡ root x.words
root-is c x key t = root-on-path (view_of c x) (form_in c x) key (root_level c x) t.honest (fits (view_of c x) t) refl ∙ child
  where
    child : (view_of c x).child c.nodes 0 ≡ root x.words
    child = rw (is c.nodes) refl

pub root-leaf-splits : RootLeafSplitsGiveRoom
root-leaf-splits c x y key words q l r m sep t flat s left right few =
    leaf-anew c x y key words (root x.words ∷ []) (q ∷ l ∷ r ∷ []) t (root_splits_keep_the_content c x y q l r m sep t s) (among-first (root x.words) (leaf_of (view_of c x) key) [] leaf)
    (of-three c y (λ j. IsRoomyLeaf c y j) q l r 0 above left right) few
  where
    leaf : leaf_of (view_of c x) key ≡ root x.words
    leaf = leaf-on-path (view_of c x) key ∙ ap (on_path (view_of c x) key) (sym flat) ∙ root-is c x key t

    above : level_of (node c y.words q) ≢ 0
    above e = absurd (omega (arith, e, level-is c.nodes (root_level c x + 1) (node c y.raw q) (node c y.words q) _ _ s.whole_q))
