-- The worked move: the images of a small memory while the key `a`, with the payload `1`, becomes another key, within its leaf and
-- across two leaves, with the image between that never stands.
use Rattle.std.specs.Prelude.{◌≡◌, ℕ, ◌+◌, ◌∷◌, ◌++◌, [], List, Option, Some, None}
use Rattle.bz_content.specs.Content.{image_fault, content_in}
use Rattle.bz_content.specs.TwoLevels.{tree_with}
use Rattle.bz_content.specs.WorkedInsert.{small, word_at, super, pair}
use Rattle.bz_moved.specs.OneLeaf.{half_of}

-- status and both metadata words of the root leaf
abbrev pub two : ℕ → ℕ → ℕ → List (ℕ × ℕ)
two status first second = (1040, status) ∷ (1058, first) ∷ (1059, second) ∷ []

-- the words of the record that comes: the key `b` and the payload `1`, packed
abbrev pub other_pair : List (ℕ × ℕ)
other_pair = (1292, 0x0062000000000000) ∷ (1293, 0x0031000000000000) ∷ []

-- one leaf: `b` has its place; the words between, where `a` is gone, with the last stamp; and afterwards
abbrev pub reserved : ℕ → ℕ
reserved = word_at (super ++ two 0x0020100200000003 0x100000FE00010002 0x000000FC00010002 ++ pair ++ other_pair)

abbrev pub halfway : ℕ → ℕ
halfway = word_at (super ++ two 0x0020100400000004 0x0000000000010002 0x000000FC00010002 ++ pair ++ other_pair)

abbrev pub moved : ℕ → ℕ
moved = word_at (super ++ two 0x0020100200000004 0x0000000000010002 0x100000FC00010002 ++ pair ++ other_pair)

-- two leaves below one root, parted by `m`: the left one has `a`, and in the right one `p` gets its place
abbrev pub left : ℕ → ℕ → List (ℕ × ℕ)
left status meta = (1040, status) ∷ (1058, meta) ∷ []

abbrev pub right : ℕ → ℕ → List (ℕ × ℕ)
right status meta = (1552, status) ∷ (1571, meta) ∷ (1804, 0x0070000000000000) ∷ (1805, 0x0031000000000000) ∷ []

abbrev pub far_reserved : ℕ → ℕ
far_reserved = tree_with (left 0x0010080000000002 0x100000FE00010002 ++ right 0x0020100200000003 0x000000FC00010002)

abbrev pub far_halfway : ℕ → ℕ
far_halfway = tree_with (left 0x0010080200000003 0x0000000000010002 ++ right 0x0020100200000003 0x000000FC00010002)

abbrev pub far_moved : ℕ → ℕ
far_moved = tree_with (left 0x0010080200000003 0x0000000000010002 ++ right 0x0020100000000004 0x100000FC00010002)

-- an image has no fault, and holds this for the old key and for the new one
pub record Holds (raw : ℕ → ℕ) (key : List ℕ) (old_is new_is : Option (List ℕ)) : Type 0 where
  pub whole : image_fault small raw ≡ None
  pub old : content_in small raw (97 ∷ []) ≡ old_is
  pub new : content_in small raw key ≡ new_is

-- each image has no fault; before, the old key alone has the payload, between neither, and afterwards the new one alone
pub record WorkedMove : Type 0 where
  pub near_before : Holds reserved (98 ∷ []) (Some (49 ∷ [])) None
  pub near_between : Holds halfway (98 ∷ []) None None
  pub near_after : Holds moved (98 ∷ []) None (Some (49 ∷ []))
  pub far_before : Holds far_reserved (112 ∷ []) (Some (49 ∷ [])) None
  pub far_between : Holds far_halfway (112 ∷ []) None None
  pub far_after : Holds far_moved (112 ∷ []) None (Some (49 ∷ []))
  -- the words between are those of the law
  pub between_status : half_of (λ i. reserved (1040 + i)) (λ i. moved (1040 + i)) 0 0x0020100400000004 0 ≡ halfway 1040
  pub between_first : half_of (λ i. reserved (1040 + i)) (λ i. moved (1040 + i)) 0 0x0020100400000004 18 ≡ halfway 1058
  pub between_second : half_of (λ i. reserved (1040 + i)) (λ i. moved (1040 + i)) 0 0x0020100400000004 19 ≡ halfway 1059
