-- The worked insert: the images of a small memory while the key `a` gets the payload `1` and loses it again.
use Rattle.std.specs.Prelude.{◌≡◌, ℕ, ◌+◌, ◌^◌, ◌==◌, if◌then◌else◌, List, [], ◌∷◌, ◌++◌, Option, Some, None}
use Rattle.bz_layout.specs.declared.config.Config.{Config}
use Rattle.bz_content.specs.Content.{image_fault, content_in}

-- sixteen slots and 64 descriptors, so that slot 0 begins at address 1040
abbrev pub small : Config
small = record { nodes = 16; swaps = 64; workers = 1; marks = 1024; calls = 1; pages = 0 }

-- the first word of a list for an address, and 0 where there is none
unfoldable pub word_at : List (ℕ × ℕ) → ℕ → ℕ
word_at [] a = 0
word_at (w ∷ words) a = if a == w.0 then w.1 else word_at words a

-- the superblock
abbrev pub super : List (ℕ × ℕ)
super = (0, 2) ∷ (1, 1) ∷ (3, 16) ∷ (4, 64) ∷ []

-- status word and metadata word of the root leaf
abbrev pub leaf : ℕ → ℕ → List (ℕ × ℕ)
leaf status meta = (1040, status) ∷ (1058, meta) ∷ []

-- the words of the record: the key `a` and the payload `1`, packed
abbrev pub pair : List (ℕ × ℕ)
pair = (1294, 0x0061000000000000) ∷ (1295, 0x0031000000000000) ∷ []

-- the images at first, reserved, published and after a delete
abbrev pub at_first : ℕ → ℕ
at_first = word_at super

abbrev pub reserved : ℕ → ℕ
reserved = word_at (super ++ leaf 0x0010080200000001 0x000000FE00010002 ++ pair)

abbrev pub published : ℕ → ℕ
published = word_at (super ++ leaf 0x0010080000000002 0x100000FE00010002 ++ pair)

abbrev pub deleted : ℕ → ℕ
deleted = word_at (super ++ leaf 0x0010080200000003 0x0000000000010002 ++ pair)

-- the publishing swap in descriptor 1, with this status
abbrev pub publishing : ℕ → List (ℕ × ℕ)
publishing status =
    (32, status) ∷ (33, 2) ∷ (34, 1040) ∷ (35, 0x0010080200000001) ∷ (36, 0x0010080000000002) ∷ (37, 1058) ∷ (38, 0x000000FE00010002) ∷ (39, 0x100000FE00010002) ∷ []

-- the image while its pointers stand in both words, undecided and once it has succeeded
abbrev pub undecided : ℕ → ℕ
undecided = word_at (super ++ publishing 1 ++ leaf (2 ^ 62 + 1) (2 ^ 62 + 1) ++ pair)

abbrev pub succeeded : ℕ → ℕ
succeeded = word_at (super ++ publishing 2 ++ leaf (2 ^ 62 + 1) (2 ^ 62 + 1) ++ pair)

-- an image has no fault and holds this for the key `a`
pub record Reads (raw : ℕ → ℕ) (payload : Option (List ℕ)) : Type 0 where
  pub whole : image_fault small raw ≡ None
  pub content : content_in small raw (97 ∷ []) ≡ payload

-- each image has no fault, and holds the payload `1` from the moment on at which the publishing swap has
-- succeeded, until the delete
pub record WorkedInsert : Type 0 where
  pub at_first : Reads at_first None
  pub reserved : Reads reserved None
  pub undecided : Reads undecided None
  pub succeeded : Reads succeeded (Some (49 ∷ []))
  pub published : Reads published (Some (49 ∷ []))
  pub deleted : Reads deleted None
