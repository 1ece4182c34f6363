-- The words of a node: those that it has taken, and whether there is room for more.
use Rattle.std.specs.Prelude.{ℕ, ◌+◌, ◌&&◌, not, nat_lt, nat_le, Bool}
use Rattle.bz_layout.specs.declared.sizes.TheConstants.{SHARED_WORDS}
use Rattle.bz_layout.specs.declared.thresholds.TheConstants.{SPLIT_ABOVE, INNER_LIMIT}
use Rattle.bz_slotted.specs.Page.{Page}
use Rattle.bz_slotted.specs.Records.{live_words}

-- the metadata words and the words of the block that are taken, whatever became of their records. Of an inner node these are the words
-- of its entries
abbrev pub words_taken : Page → ℕ
words_taken p = p.count + p.block

-- a leaf takes so many words more: it is not frozen, and they are free
abbrev pub has_room : Page → ℕ → Bool
has_room p words = not p.frozen && nat_le (words_taken p + words) SHARED_WORDS

-- a leaf that is frozen is split, and not copied: it has more live words than a leaf may keep
abbrev pub is_crowded : Page → Bool
is_crowded p = nat_lt SPLIT_ABOVE (live_words p)

-- an inner node may lack room for one more separator: its entries take more words than an inner node may keep
abbrev pub is_full : Page → Bool
is_full p = nat_lt INNER_LIMIT (words_taken p)
