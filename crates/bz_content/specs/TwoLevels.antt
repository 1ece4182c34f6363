-- A small tree of two levels: what is read of it, and what is told of it with one word or two wrong.
use Rattle.std.specs.Prelude.{◌≡◌, ℕ, ◌+◌, ◌*◌, ◌^◌, List, [], ◌∷◌, ◌++◌, Some, None}
use Rattle.bz_tree.specs.declared.rule.ShapeRule.{ShapeRule}
use Rattle.bz_tree.specs.declared.rule.ShapeRule.TheVariants.{Twice, Level, Fence, Status, Key, Child}
use Rattle.bz_content.specs.Content.{image_fault, content_in, leaf_in, leaf_end_in}
use Rattle.bz_content.specs.WorkedInsert.{small, word_at, leaf, pair}

-- slot 1, the root, has the children 0 and 2, parted by the key `m`
abbrev pub root_node : List (ℕ × ℕ)
root_node =
    (1296, 2 * 2 ^ 52 + 3 * 2 ^ 42) ∷ (1297, 1 + 2 * 2 ^ 24) ∷ (1314, 2 ^ 60 + 255 * 2 ^ 32 + 7) ∷ (1315, 2 ^ 60 + 253 * 2 ^ 32 + 2 ^ 16 + 8)
    ∷ (1549, 0x006D000000000000) ∷ (1550, 3) ∷ (1551, 1) ∷ []

-- slot 0, the left leaf, ends at `m` and has the key `a` with the payload `1`
abbrev pub left_leaf : List (ℕ × ℕ)
left_leaf = (1041, 2 ^ 16) ∷ (1050, 0x006D000000000000) ∷ leaf 0x0010080000000002 0x100000FE00010002 ++ pair

-- slot 2, the right leaf, begins at `m` and has the key `z` with the payload `2`
abbrev pub right_leaf : List (ℕ × ℕ)
right_leaf =
    (1552, 0x0010080000000002) ∷ (1553, 2 ^ 8) ∷ (1554, 0x006D000000000000) ∷ (1570, 0x100000FE00010002)
    ∷ (1806, 0x007A000000000000) ∷ (1807, 0x0032000000000000) ∷ []

-- the tree, but for these words
abbrev pub tree_with : List (ℕ × ℕ) → ℕ → ℕ
tree_with words = word_at (words ++ (0, 2) ∷ (1, 2) ∷ (3, 16) ∷ (4, 64) ∷ root_node ++ left_leaf ++ right_leaf)

-- with these words the first fault is that of this rule at this slot
abbrev pub Breaks : List (ℕ × ℕ) → ShapeRule → ℕ → Type 0
Breaks words rule place = image_fault small (tree_with words) ≡ Some (record { rule = rule; place = place })

pub record TwoLevels : Type 0 where
  pub whole : image_fault small (tree_with []) ≡ None
  -- the keys `a`, `m` and `z`
  pub left : content_in small (tree_with []) (97 ∷ []) ≡ Some (49 ∷ [])
  pub middle : content_in small (tree_with []) (109 ∷ []) ≡ None
  pub right : content_in small (tree_with []) (122 ∷ []) ≡ Some (50 ∷ [])
  pub left_leaf : leaf_in small (tree_with []) (97 ∷ []) ≡ 0
  pub middle_leaf : leaf_in small (tree_with []) (109 ∷ []) ≡ 2
  pub left_end : leaf_end_in small (tree_with []) (97 ∷ []) ≡ Some (109 ∷ [])
  pub right_end : leaf_end_in small (tree_with []) (122 ∷ []) ≡ None
  -- the right leaf alone as the root: the records of the left one are content no longer
  pub unreached : content_in small (tree_with ((1, 3) ∷ (1553, 0) ∷ (1554, 0) ∷ [])) (97 ∷ []) ≡ None
  -- both children are slot 0
  pub twice : Breaks ((1550, 1) ∷ []) Twice 0
  -- a root of level 2 above a leaf, a leaf with another low fence, a key of the left leaf that is not below `m`
  pub level : Breaks ((1297, 2 + 2 * 2 ^ 24) ∷ []) Level 0
  pub fence : Breaks ((1554, 0x006E000000000000) ∷ []) Fence 2
  pub key : Breaks ((1294, 0x007A000000000000) ∷ []) Key 0
  -- a root that is frozen, and a child past the last slot
  pub frozen : Breaks ((1296, 2 ^ 60 + 2 * 2 ^ 52 + 3 * 2 ^ 42) ∷ []) Status 1
  pub child : Breaks ((1550, 17) ∷ []) Child 1
