-- The first fault of an image, and what a well-formed one holds.
use Rattle.std.specs.Prelude.{◌≡◌, ℕ, ◌+◌, ◌-◌, ◌==◌, ◌&&◌, ◌<◌, if◌then◌else◌, Bool, true, List, Option, Some, None}
use Rattle.bz_layout.specs.Addresses.{words_of}
use Rattle.bz_layout.specs.declared.config.Config.{Config}
use Rattle.bz_layout.specs.declared.sizes.TheConstants.{SUPERBLOCK_WORDS, SUPERBLOCK_USED, FORMAT_AT, NODES_AT, SWAPS_AT, FORMAT}
use Rattle.bz_tree.specs.View.{View}
use Rattle.bz_tree.specs.Walk.{IsTree, fault_of}
use Rattle.bz_tree.specs.Descent.{leaf_of, content}
use Rattle.bz_tree.specs.Content.{leaf_end}
use Rattle.bz_tree.specs.declared.rule.ShapeFault.{ShapeFault}
use Rattle.bz_tree.specs.declared.rule.ShapeRule.TheVariants.{Super, Word}
use Rattle.bz_slotted.specs.Tests.{every}
use Rattle.bz_content.specs.Image.{Image}
use Rattle.bz_content.specs.Lawful.{is_lawful, first_unlawful}
use Rattle.bz_content.specs.Resolving.{resolve}
use Rattle.bz_content.specs.View.{view_of}

-- the image that words are
abbrev pub image_of : (ℕ → ℕ) → Image
image_of raw = record { raw = raw; words = resolve raw }

-- what these words say, slot by slot
abbrev pub view_in : Config → (ℕ → ℕ) → View
view_in c raw = view_of c (image_of raw)

-- Super: the superblock has the format and the two sizes, and 0 in the words that are not used
unfoldable pub is_super : Config → (ℕ → ℕ) → Bool
is_super c raw =
    raw FORMAT_AT == FORMAT
    && (raw NODES_AT == c.nodes
    && (raw SWAPS_AT == c.swaps
    && every (SUPERBLOCK_WORDS - SUPERBLOCK_USED) (λ i. raw (SUPERBLOCK_USED + i) == 0)))

-- a fault at the first unlawful word, or else a later one
abbrev pub or_word : Option ℕ → Option ShapeFault → Option ShapeFault
or_word (Some a) rest = Some (record { rule = Word; place = a })
or_word None rest = rest

-- the first fault of an image: of the superblock, of a word, and then of the tree
unfoldable pub image_fault : Config → (ℕ → ℕ) → Option ShapeFault
image_fault c raw =
    if is_super c raw then or_word (first_unlawful c raw 0 (words_of c)) (fault_of (view_in c raw))
    else Some (record { rule = Super; place = 0 })

-- an image is well formed where all its rules hold
pub record IsWellFormed (c : Config) (raw : ℕ → ℕ) : Type 0 where
  pub super : is_super c raw ≡ true
  pub lawful : (a : ℕ) → a < words_of c → is_lawful c raw a ≡ true
  pub tree : IsTree (view_in c raw)

-- what an image holds for a key: a payload, or nothing
abbrev pub content_in : Config → (ℕ → ℕ) → List ℕ → Option (List ℕ)
content_in c raw key = content (view_in c raw) key

-- the leaf of a key, and where its range ends
abbrev pub leaf_in : Config → (ℕ → ℕ) → List ℕ → ℕ
leaf_in c raw key = leaf_of (view_in c raw) key

abbrev pub leaf_end_in : Config → (ℕ → ℕ) → List ℕ → Option (List ℕ)
leaf_end_in c raw key = leaf_end (view_in c raw) key
