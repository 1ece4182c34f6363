-- Metadata words: the bits of each field of what is said of a record.
use Rattle.std.specs.Prelude.{◌≡◌, ◌==◌, if◌then◌else◌, ℕ, ◌+◌, ◌^◌, ◌<◌, ◌≤◌}
use Rattle.bz_word.specs.Fields.{field, at}
use Rattle.bz_word.specs.declared.meta.Extent.{Extent}
use Rattle.bz_word.specs.declared.meta.Meta.{Meta}
use Rattle.bz_word.specs.declared.meta.Meta.TheVariants.{Unused, Reserved, Visible, Deleted}

-- the fields of an extent, each at its place
abbrev pub extent_word : Extent → ℕ
extent_word e = at 32 e.offset + at 16 e.key + at 0 e.total

-- the word of what is said of a record: bit 60 is the visible bit, bits 61 to 63 are clear
abbrev pub meta_word : Meta → ℕ
meta_word Unused = 0
meta_word (Reserved e) = extent_word e
meta_word (Visible e) = at 60 1 + extent_word e
meta_word (Deleted key total) = at 16 key + at 0 total

-- each field of an extent fits its bits, a record does not begin at its node's first word, and a key is no
-- longer than key and payload
pub record IsExtent (e : Extent) : Type 0 where
  pub offset : e.offset < 2 ^ 28
  pub start : 1 ≤ e.offset
  pub key : e.key ≤ e.total
  pub total : e.total < 2 ^ 16

-- what is said of a record has fields in range; a deleted record had at least one byte
abbrev pub IsMeta : Meta → Type 0
IsMeta Unused = Unit {0}
IsMeta (Reserved e) = IsExtent e
IsMeta (Visible e) = IsExtent e
IsMeta (Deleted key total) = (key ≤ total) × (1 ≤ total) × (total < 2 ^ 16)

-- no control bit is set, the key is no longer than key and payload, and a visible record has an offset
pub record IsMetaWord (x : ℕ) : Type 0 where
  pub control : x < 2 ^ 61
  pub lengths : field 16 16 x ≤ field 0 16 x
  pub offset : field 60 1 x ≡ 1 → 1 ≤ field 32 28 x

-- the extent whose fields stand in a word
abbrev pub extent : ℕ → Extent
extent x = record { offset = field 32 28 x; key = field 16 16 x; total = field 0 16 x }

-- what a metadata word says of its record
unfoldable pub meta : ℕ → Meta
meta x =
    if x == 0 then Unused
    else if field 60 1 x == 1 then Visible (extent x)
    else if field 32 28 x == 0 then Deleted (field 16 16 x) (field 0 16 x)
    else Reserved (extent x)
