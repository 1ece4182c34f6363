-- Images with one word or two wrong, and what is told of each.
use Rattle.std.specs.Prelude.{◌≡◌, ℕ, ◌+◌, ◌^◌, List, [], ◌∷◌, ◌++◌, Some}
use Rattle.bz_tree.specs.declared.rule.ShapeRule.{ShapeRule}
use Rattle.bz_tree.specs.declared.rule.ShapeRule.TheVariants.{Super, Word, Root, Level, Fence, Status, Record}
use Rattle.bz_content.specs.Content.{image_fault}
use Rattle.bz_content.specs.WorkedInsert.{small, word_at, super, leaf, pair, publishing}

-- the image after the worked insert, but for these words
abbrev pub with : List (ℕ × ℕ) → ℕ → ℕ
with words = word_at (words ++ super ++ leaf 0x0010080000000002 0x100000FE00010002 ++ pair)

-- with these words the first fault is that of this rule at this place
abbrev pub Tells : List (ℕ × ℕ) → ShapeRule → ℕ → Type 0
Tells words rule place = image_fault small (with words) ≡ Some (record { rule = rule; place = place })

pub record BrokenImages : Type 0 where
  -- another format
  pub format : Tells ((0, 1) ∷ []) Super 0
  -- a word of the superblock that is not used
  pub unused : Tells ((9, 1) ∷ []) Super 0
  -- another format, and an unlawful word besides
  pub super_first : Tells ((0, 1) ∷ (20, 2 ^ 61) ∷ []) Super 0
  -- two control bits, in a slot that is not reached
  pub no_kind : Tells ((2000, 2 ^ 62 + 2 ^ 63) ∷ []) Word 2000
  -- a descriptor with a status that there is not
  pub bad_status : Tells ((48, 4) ∷ []) Word 48
  -- a pointer to a descriptor that no swap has begun
  pub free_swap : Tells ((1058, 2 ^ 62 + 5) ∷ []) Word 1058
  -- a pointer to a swap that has another target
  pub other_target : Tells ((1045, 2 ^ 62 + 1) ∷ publishing 2) Word 1045
  -- a root pointer to no slot, and past the last one
  pub no_root : Tells ((1, 0) ∷ []) Root 0
  pub far_root : Tells ((1, 17) ∷ []) Root 0
  -- a root status with a count
  pub root_status : Tells ((2, 2 ^ 52) ∷ []) Root 0
  -- a header that does not unpack
  pub bad_header : Tells ((1041, 2 ^ 32) ∷ []) Level 0
  -- a fence at the root
  pub fenced : Tells ((1041, 2 ^ 8) ∷ (1042, 0x0061000000000000) ∷ []) Fence 0
  -- a free word that is not 0
  pub not_free : Tells ((1100, 1) ∷ []) Status 0
  -- a word of the record that may not be durable
  pub dirty_record : Tells ((1294, 2 ^ 63 + 0x0061000000000000) ∷ []) Record 0
