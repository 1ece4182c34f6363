-- A node's words as a slotted page. The words are a function from the places of the node, and 0 past its last.
use Rattle.std.specs.Prelude.{ℕ, ◌+◌, ◌^◌, ◌==◌, ◌&&◌, not, nat_lt, nat_le, if◌then◌else◌, Bool, true, false, List, map}
use Rattle.std.specs.List.{range_with_len}
use Rattle.bz_layout.specs.declared.sizes.TheConstants.{STATUS_AT, HEADER_AT, META_AT}
use Rattle.bz_word.specs.Fields.{field}
use Rattle.bz_word.specs.Statuses.{status}
use Rattle.bz_word.specs.Headers.{header}
use Rattle.bz_word.specs.Metas.{meta}
use Rattle.bz_word.specs.declared.meta.Extent.{Extent}
use Rattle.bz_word.specs.declared.meta.Meta.{Meta}
use Rattle.bz_word.specs.declared.meta.Meta.TheVariants.{Unused, Reserved, Visible, Deleted}

-- so many words from a place on
unfoldable pub words_at : (ℕ → ℕ) → ℕ → ℕ → List ℕ
words_at n at count = map n (range_with_len at count)

-- the word unpacks as a metadata word
abbrev pub is_meta_word : ℕ → Bool
is_meta_word x = nat_lt x (2 ^ 61) && (nat_le (field 16 16 x) (field 0 16 x) && not (field 60 1 x == 1 && field 32 28 x == 0))

-- what a metadata word says of its record; a word that does not unpack says as much as an unused one
unfoldable pub meta_of : ℕ → Meta
meta_of x = if is_meta_word x then meta x else Unused

-- readers of it see the record
unfoldable pub visible : Meta → Bool
visible (Visible e) = true
visible _ = false

-- it holds words of the block
unfoldable pub held : Meta → Bool
held (Visible e) = true
held (Reserved e) = true
held _ = false

-- a record has the place, whatever became of it
unfoldable pub used : Meta → Bool
used Unused = false
used _ = true

-- where the record lies and its lengths; a deleted one keeps its lengths alone
unfoldable pub extent_of : Meta → Extent
extent_of Unused = record { offset = 0; key = 0; total = 0 }
extent_of (Reserved e) = e
extent_of (Visible e) = e
extent_of (Deleted key total) = record { offset = 0; key = key; total = total }

-- the fields of status and header, the metadata words by what they say, and all words
pub record Page : Type 0 where
  pub frozen : Bool
  pub count : ℕ
  pub block : ℕ
  pub dead : ℕ
  pub stamp : ℕ
  pub level : ℕ
  pub low : ℕ
  pub high : ℕ
  pub sorted : ℕ
  pub meta : ℕ → Meta
  pub word : ℕ → ℕ

-- the page that a node's words are
abbrev pub page : (ℕ → ℕ) → Page
page n = record {
  frozen = (status (n STATUS_AT)).frozen;
  count = (status (n STATUS_AT)).count;
  block = (status (n STATUS_AT)).block;
  dead = (status (n STATUS_AT)).dead;
  stamp = (status (n STATUS_AT)).stamp;
  level = (header (n HEADER_AT)).level;
  low = (header (n HEADER_AT)).low;
  high = (header (n HEADER_AT)).high;
  sorted = (header (n HEADER_AT)).sorted;
  meta = λ j. meta_of (n (META_AT + j));
  word = n;
}
