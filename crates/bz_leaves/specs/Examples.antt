-- Leaves counted, in a small tree of two levels and in fresh memory.
use Rattle.std.specs.Prelude.{◌≡◌, true, false, [], ◌∷◌}
use Rattle.bz_content.specs.Content.{view_in}
use Rattle.bz_content.specs.TwoLevels.{tree_with}
use Rattle.bz_content.specs.WorkedInsert.{small}
use Rattle.bz_leaves.specs.Leaves.{is_leaf, leaves_in}

-- of the sixteen slots the root is slot 1, and its children are 0 and 2
pub record LeavesAreTold : Type 0 where
  pub left : is_leaf (view_in small (tree_with [])) 0 ≡ true
  pub root : is_leaf (view_in small (tree_with [])) 1 ≡ false
  pub right : is_leaf (view_in small (tree_with [])) 2 ≡ true
  pub unused : is_leaf (view_in small (tree_with [])) 3 ≡ false
  pub two : leaves_in small (tree_with []) ≡ 2
  -- a frozen leaf is one still
  pub frozen : leaves_in small (tree_with ((1040, 0x1010080000000002) ∷ [])) ≡ 2
  -- the right leaf alone as the root: the left one is no leaf of the tree any longer
  pub alone : leaves_in small (tree_with ((1, 3) ∷ (1553, 0) ∷ (1554, 0) ∷ [])) ≡ 1
