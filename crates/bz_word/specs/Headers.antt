-- Header words: the bits of each field of a node's header.
use Rattle.std.specs.Prelude.{ℕ, ◌+◌, ◌^◌, ◌<◌}
use Rattle.bz_word.specs.Fields.{field, at}
use Rattle.bz_word.specs.declared.header.Header.{Header}

-- the word of a header: bits 32 to 63 are clear
abbrev pub header_word : Header → ℕ
header_word h = at 24 h.sorted + at 16 h.high + at 8 h.low + at 0 h.level

-- each field fits its bits
pub record IsHeader (h : Header) : Type 0 where
  pub level : h.level < 2 ^ 8
  pub low : h.low < 2 ^ 8
  pub high : h.high < 2 ^ 8
  pub sorted : h.sorted < 2 ^ 8

-- no bit above the fields is set
abbrev pub IsHeaderWord : ℕ → Type 0
IsHeaderWord x = x < 2 ^ 32

-- the header of a header word
unfoldable pub header : ℕ → Header
header x = record { level = field 0 8 x; low = field 8 8 x; high = field 16 8 x; sorted = field 24 8 x }
