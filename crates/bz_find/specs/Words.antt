-- What a search relies on of the words of a leaf, which it reads one by one while the leaf may change: each number that it takes
-- from a word is in range.
use Rattle.std.specs.Prelude.{ℕ, ◌+◌, ◌^◌, ◌&&◌, nat_lt, nat_le, min, if◌then◌else◌, Bool}
use Rattle.bz_key.specs.declared.limits.TheConstants.{KEY_BYTES, PAYLOAD_BYTES}
use Rattle.bz_layout.specs.declared.sizes.TheConstants.{NODE_WORDS, SHARED_WORDS}
use Rattle.bz_node.specs.Reading.{payload_len, extent_words}
use Rattle.bz_slotted.specs.Page.{visible, meta_of, extent_of}
use Rattle.bz_word.specs.Headers.{header}
use Rattle.bz_word.specs.Statuses.{status}
use Rattle.bz_word.specs.declared.meta.Extent.{Extent}

-- how many records a leaf with this status has, at most as many as it has words for
abbrev pub records_in : ℕ → ℕ
records_in st = min (status st).count SHARED_WORDS

-- how many of so many records are sorted
abbrev pub sorted_in : ℕ → ℕ → ℕ
sorted_in h count = if nat_lt h (2 ^ 32) then min (header h).sorted count else 0

-- where the record of a metadata word lies, and its lengths
abbrev pub lies : ℕ → Extent
lies w = extent_of (meta_of w)

-- a record has the lengths of a leaf's, and lies in the node
abbrev pub is_in_node : Extent → Bool
is_in_node e = nat_lt 0 e.key && (nat_le e.key KEY_BYTES && (nat_le (payload_len e) PAYLOAD_BYTES && nat_le (e.offset + extent_words e) NODE_WORDS))

-- the metadata word names a visible record that does
abbrev pub is_record : ℕ → Bool
is_record w = visible (meta_of w) && is_in_node (lies w)
