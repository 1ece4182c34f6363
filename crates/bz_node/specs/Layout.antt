-- How a node lies in its words: status, header, fences, metadata words, free words, block.
use Rattle.std.specs.Prelude.{◌≡◌, ℕ, ◌+◌, ◌-◌, ◌≤◌, ◌<◌, ◌^◌, false, List, [], ◌∷◌, ◌++◌, length, replicate, Option, Some, None}
use Rattle.bz_key.specs.Packing.{packed, packed_len}
use Rattle.bz_layout.specs.declared.sizes.TheConstants.{NODE_WORDS, FENCE_WORDS, SHARED_WORDS}
use Rattle.bz_layout.specs.declared.thresholds.TheConstants.{LEAF_RECORD_WORDS}
use Rattle.bz_word.specs.Statuses.{status_word}
use Rattle.bz_word.specs.Headers.{header_word}
use Rattle.bz_word.specs.Metas.{meta_word}
use Rattle.bz_word.specs.declared.status.Status.{Status}
use Rattle.bz_word.specs.declared.header.Header.{Header}
use Rattle.bz_word.specs.declared.meta.Meta.TheVariants.{Visible}

-- what one record puts into a node: the lengths in bytes that its metadata word holds, and its words in
-- the block
pub record Entry : Type 0 where
  pub key : ℕ
  pub total : ℕ
  pub words : List ℕ

-- a record's numbers fit the fields of a metadata word, and its words are those of its key and of the rest
pub record IsEntry (e : Entry) : Type 0 where
  pub key : e.key ≤ e.total
  pub total : e.total < 2 ^ 16
  pub some : 0 < length e.words
  pub fits : length e.words < LEAF_RECORD_WORDS
  pub counted : length e.words ≡ packed_len e.key + packed_len (e.total - e.key)

-- the block: the first record at its end, each next one directly before
unfoldable pub block : List Entry → List ℕ
block [] = []
block (e ∷ entries) = block entries ++ e.words

-- the metadata word of a record whose words begin at `offset`
abbrev pub visible_word : ℕ → Entry → ℕ
visible_word offset e = meta_word (Visible (record { offset = offset; key = e.key; total = e.total }))

-- the metadata words in the order of the records, whose block ends at `end`
unfoldable pub metas : ℕ → List Entry → List ℕ
metas end [] = []
metas end (e ∷ entries) = visible_word (end - length e.words) e ∷ metas (end - length e.words) entries

-- how many words the records take: one metadata word each, and the block
abbrev pub needed : List Entry → ℕ
needed entries = length entries + length (block entries)

-- the words that metadata and block share: the first from the front, the other from the end, 0 between
abbrev pub shared_part : List Entry → List ℕ
shared_part entries = metas NODE_WORDS entries ++ (replicate (SHARED_WORDS - needed entries) 0 ++ block entries)

-- the bytes of a fence: none where it is absent
abbrev pub bound_of : Option (List ℕ) → List ℕ
bound_of None = []
bound_of (Some key) = key

-- a fence packed, with 0 in the words that it leaves
abbrev pub fence_words : Option (List ℕ) → List ℕ
fence_words fence = packed (bound_of fence) ++ replicate (FENCE_WORDS - length (packed (bound_of fence))) 0

-- the status of a node made whole: it is not frozen, and nothing of it is dead
abbrev pub made_status : List Entry → Status
made_status entries = record { frozen = false; count = length entries; block = length (block entries); dead = 0; stamp = 0 }

-- the header of a node made whole: all its records are sorted
abbrev pub made_header : ℕ → Option (List ℕ) → Option (List ℕ) → List Entry → Header
made_header level low high entries = record { level = level; low = length (bound_of low); high = length (bound_of high); sorted = length entries }

-- the words of a node made whole
abbrev pub node_words : ℕ → Option (List ℕ) → Option (List ℕ) → List Entry → List ℕ
node_words level low high entries =
    (status_word (made_status entries) ∷ header_word (made_header level low high entries) ∷ (fence_words low ++ fence_words high)) ++ shared_part entries
