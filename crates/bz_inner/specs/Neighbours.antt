-- The neighbour with which a child of the root is merged: the right one, and the left one of the last child.
use Rattle.std.specs.Prelude.{◌≡◌, ◌≢◌, ℕ, ◌+◌, ◌<◌, ◌≤◌, if◌then◌else◌, Bool, true, false, List, Option, Some}
use Rattle.bz_key.specs.Bytes.{IsKey}
use Rattle.bz_node.specs.Reading.{IsReadableInner, children_in}
use Rattle.bz_node.specs.Records.{IsAbove, IsBelow}
use Rattle.bz_slotted.specs.Readers.{count_of, child_of}
use Rattle.bz_slotted.specs.ReadingLaws.{node_of}
use Rattle.bz_halves.specs.Parents.{HasChildren}
use Rattle.bz_task.specs.Instant.{form_at, is_inside}
use Rattle.bz_task.specs.Scene.{Past}

-- the words are read as an inner node's children, one of which is in the slot
pub record IsParentOf (above : List ℕ) (own : ℕ) : Type 0 where
  pub readable : IsReadableInner above
  pub has : HasChildren (node_of above) (children_in above)
  pub place : ℕ
  pub within : place < count_of (node_of above)
  pub there : child_of (node_of above) place ≡ own

-- of two, the one that comes first among the children, and the other
abbrev pub first_of : Bool → ℕ → ℕ → ℕ
first_of right own beside = if right then own else beside

abbrev pub second_of : Bool → ℕ → ℕ → ℕ
second_of right own beside = if right then beside else own

abbrev pub first_words : Bool → List ℕ → List ℕ → List ℕ
first_words right own beside = if right then own else beside

abbrev pub second_words : Bool → List ℕ → List ℕ → List ℕ
second_words right own beside = if right then beside else own

-- the two are the children at this place and the next one; the left neighbour is one of the last child
pub record IsNeighbour (above : List ℕ) (own : ℕ) (right : Bool) (place beside : ℕ) : Type 0 where
  pub within : place + 1 < count_of (node_of above)
  pub first : child_of (node_of above) place ≡ first_of right own beside
  pub second : child_of (node_of above) (place + 1) ≡ second_of right own beside
  pub last : right ≡ false → place + 2 ≡ count_of (node_of above)

-- there is none
pub record IsOnlyChild (above : List ℕ) (own : ℕ) : Type 0 where
  pub one : count_of (node_of above) ≡ 1
  pub there : child_of (node_of above) 0 ≡ own

-- slot k stood in the tree at moment m, at this level between these bounds
pub record StoodAt (k m level : ℕ) (low high : Option (List ℕ)) (p : Past) : Type 0 where
  pub reached : (p.at m).reached k ≡ true
  pub inside : is_inside p.config (p.at m) k ≡ true
  pub level_is : (form_at p.config (p.at m)).level k ≡ level
  pub low_is : (form_at p.config (p.at m)).low k ≡ low
  pub high_is : (form_at p.config (p.at m)).high k ≡ high

-- two inner nodes and the root are three
pub record AreApart (a b root : ℕ) : Type 0 where
  pub two : a ≢ b
  pub first : a ≢ root
  pub second : b ≢ root

-- at a moment since the look-up began two inner nodes stood beside each other in the tree, and met at the key
pub record StoodBeside (a b m : ℕ) (sep : List ℕ) (p : Past) : Type 0 where
  pub since : p.since ≤ m
  pub now : m ≤ p.now
  pub level : ℕ
  pub low : Option (List ℕ)
  pub high : Option (List ℕ)
  pub inner : 0 < level
  pub left : StoodAt a m level low (Some sep) p
  pub right : StoodAt b m level (Some sep) high p
  pub key : IsKey sep
  pub above : IsAbove low sep
  pub below : IsBelow high sep
