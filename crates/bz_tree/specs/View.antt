-- What an image says, slot by slot. The nodes are those of the BzTree paper (Arulraj, Levandoski, Minhas,
-- Larson, PVLDB 11(5), 2018): inner nodes with separator keys between their children, leaves with records.
use Rattle.std.specs.Prelude.{ℕ, ◌+◌, ◌==◌, if◌then◌else◌, List, Option, Some}
use Rattle.bz_tree.specs.declared.rule.ShapeRule.{ShapeRule}

-- The superblock is a slot too, with one child, the root. The other slots are inner nodes or leaves, which
-- a slot does not tell by itself: it is where it stands that decides.
pub record View : Type 0 where
  -- the number of the superblock's slot
  pub top : ℕ
  -- the level of the superblock's slot, one more than the root's
  pub height : ℕ
  -- how many children an inner slot has
  pub count : ℕ → ℕ
  -- the children of an inner slot, from 0 on
  pub child : ℕ → ℕ → ℕ
  -- the lower bound of each child but the first
  pub key : ℕ → ℕ → List ℕ
  -- what a leaf says of a key: its payload, or that there is none
  pub found : ℕ → List ℕ → Option (List ℕ)
  -- the first rule that a slot breaks if it stands at this level, between these bounds
  pub fault : ℕ → ℕ → Option (List ℕ) → Option (List ℕ) → Option ShapeRule

-- the low bound of child i of a slot that has this low bound
abbrev pub low_at : View → ℕ → Option (List ℕ) → ℕ → Option (List ℕ)
low_at v k low i = if i == 0 then low else Some (v.key k i)

-- the high bound of child i of a slot that has this high bound
abbrev pub high_at : View → ℕ → Option (List ℕ) → ℕ → Option (List ℕ)
high_at v k high i = if i + 1 == v.count k then high else Some (v.key k (i + 1))
