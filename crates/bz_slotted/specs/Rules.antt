-- The rules of a node in the order in which they are asked, each as a test. `raw` is the node's words as they
-- stand and `n`, or the page, the same resolved; a leaf stands at level 0, an inner node above.
use Rattle.std.specs.Prelude.{ℕ, ◌+◌, ◌^◌, ◌==◌, ◌&&◌, ◌||◌, not, nat_lt, nat_le, is_some, bytes_eq, if◌then◌else◌, Bool, false, List, [], ◌∷◌, Option, Some, None}
use Rattle.bz_key.specs.Packing.{packed_len, unpacked_key, unpacked_payload}
use Rattle.bz_key.specs.declared.limits.TheConstants.{KEY_BYTES, PAYLOAD_BYTES}
use Rattle.bz_layout.specs.declared.sizes.TheConstants.{NODE_WORDS, STATUS_AT, HEADER_AT, LOW_FENCE_AT, HIGH_FENCE_AT, FENCE_WORDS, META_AT, SHARED_WORDS}
use Rattle.bz_layout.specs.declared.thresholds.TheConstants.{MAX_LEVELS}
use Rattle.bz_node.specs.Reading.{payload_len}
use Rattle.bz_tree.specs.Order.{is_before, is_above, is_below, is_within}
use Rattle.bz_tree.specs.declared.rule.ShapeRule.{ShapeRule}
use Rattle.bz_tree.specs.declared.rule.ShapeRule.TheVariants.{Level, Fence, Status, Record, Order, Key, Child}
use Rattle.bz_word.specs.declared.meta.Extent.{Extent}
use Rattle.bz_word.specs.declared.meta.Meta.{Meta}
use Rattle.bz_slotted.specs.Page.{words_at, visible, held, used, extent_of, Page, page}
use Rattle.bz_slotted.specs.Records.{key_words, payload_words, key_at, weight, live_block, pointer_at}
use Rattle.bz_slotted.specs.Tests.{Test, first_of, every, every_two, implies}

-- the bytes that the length of a child pointer counts
abbrev pub POINTER_BYTES : ℕ
POINTER_BYTES = 7

-- Level: the header unpacks, and its level is this one, which a tree may have
abbrev pub level_test : Page → ℕ → Bool
level_test p l = nat_lt (p.word HEADER_AT) (2 ^ 32) && (p.level == l && nat_lt l MAX_LEVELS)

-- what was read is this key
abbrev pub reads_as : Option (List ℕ) → List ℕ → Bool
reads_as None key = false
reads_as (Some read) key = bytes_eq read key

-- a fence of so many bytes is this bound, packed: all words of an absent one are 0, and of one that is there
-- those past its packing are not looked at
unfoldable pub fence_test : (ℕ → ℕ) → ℕ → ℕ → Option (List ℕ) → Bool
fence_test n at len None = len == 0 && every FENCE_WORDS (λ i. n (at + i) == 0)
fence_test n at len (Some key) = reads_as (unpacked_key len (words_at n at (packed_len len))) key

-- Fence: both fences are the bounds
abbrev pub fences_test : Page → Option (List ℕ) → Option (List ℕ) → Bool
fences_test p lo hi = fence_test p.word LOW_FENCE_AT p.low lo && fence_test p.word HIGH_FENCE_AT p.high hi

-- a word between metadata and block is 0
abbrev pub free_test : Page → ℕ → Bool
free_test p i = implies (nat_le (META_AT + p.count) i) (implies (nat_lt (i + p.block) NODE_WORDS) (p.word i == 0))

-- Status: it unpacks, metadata and block have room, no more records are sorted than there are, and the block
-- has no words but the dead and the live ones
abbrev pub filled_test : Page → Bool
filled_test p =
    nat_lt (p.word STATUS_AT) (2 ^ 61)
    && (nat_le (p.count + p.block) SHARED_WORDS
    && (nat_le p.sorted p.count
    && (every NODE_WORDS (free_test p)
    && (p.dead + live_block p.meta p.count == p.block))))

-- Status of an inner node, which is never changed but in its pointers: not frozen, not empty, nothing dead,
-- all sorted
abbrev pub settled_test : Page → Bool
settled_test p = not p.frozen && (nat_lt 0 p.count && (p.dead == 0 && p.sorted == p.count))

-- the lengths of a leaf's record, and of an inner node's record, of which the first has no key
abbrev pub leaf_lengths_test : Meta → Bool
leaf_lengths_test m =
    nat_lt 0 (extent_of m).key
    && (nat_le (extent_of m).key KEY_BYTES
    && (nat_le (extent_of m).key (extent_of m).total
    && nat_le (extent_of m).total ((extent_of m).key + PAYLOAD_BYTES)))

abbrev pub inner_lengths_test : ℕ → Meta → Bool
inner_lengths_test j m =
    (extent_of m).total == (extent_of m).key + POINTER_BYTES
    && (if j == 0 then (extent_of m).key == 0 else nat_lt 0 (extent_of m).key && nat_le (extent_of m).key KEY_BYTES)

-- a record that holds words lies in the block
abbrev pub inside_test : Page → Meta → Bool
inside_test p m = implies (held m) (nat_le NODE_WORDS ((extent_of m).offset + p.block) && nat_le ((extent_of m).offset + weight m) NODE_WORDS)

-- two records that hold words share none
abbrev pub apart_test : Page → ℕ → ℕ → Bool
apart_test p i j =
    implies (held (p.meta i)) (implies (held (p.meta j)) (
    nat_le ((extent_of (p.meta i)).offset + weight (p.meta i)) (extent_of (p.meta j)).offset
    || nat_le ((extent_of (p.meta j)).offset + weight (p.meta j)) (extent_of (p.meta i)).offset))

-- the words of a record's key, and those of its payload, stand resolved as they are, and are a plain packing
abbrev pub plain_key_test : (ℕ → ℕ) → (ℕ → ℕ) → Extent → Bool
plain_key_test raw n e = bytes_eq (key_words raw e) (key_words n e) && is_some (unpacked_key e.key (key_words n e))

abbrev pub plain_payload_test : (ℕ → ℕ) → (ℕ → ℕ) → Extent → Bool
plain_payload_test raw n e = bytes_eq (payload_words raw e) (payload_words n e) && is_some (unpacked_payload (payload_len e) (payload_words n e))

-- Record, one at a time, of a leaf
abbrev pub leaf_record_test : (ℕ → ℕ) → Page → ℕ → Bool
leaf_record_test raw p j =
    used (p.meta j)
    && (leaf_lengths_test (p.meta j)
    && (inside_test p (p.meta j)
    && implies (visible (p.meta j)) (plain_key_test raw p.word (extent_of (p.meta j)) && plain_payload_test raw p.word (extent_of (p.meta j)))))

-- Record, one at a time, of an inner node: its pointer's word is no plain one
abbrev pub inner_record_test : (ℕ → ℕ) → Page → ℕ → Bool
inner_record_test raw p j =
    visible (p.meta j)
    && (inner_lengths_test j (p.meta j)
    && (inside_test p (p.meta j)
    && implies (not (j == 0)) (plain_key_test raw p.word (extent_of (p.meta j)))))

-- Order: two visible records that are sorted rise
abbrev pub order_test : Page → ℕ → ℕ → Bool
order_test p i j = implies (visible (p.meta i)) (implies (visible (p.meta j)) (is_before (key_at p i) (key_at p j)))

-- Key, one at a time: a visible key of a leaf is in range; an inner node's first record has no key, and the
-- others are in range and above the low fence
abbrev pub leaf_key_test : Page → Option (List ℕ) → Option (List ℕ) → ℕ → Bool
leaf_key_test p lo hi j = implies (visible (p.meta j)) (is_within (key_at p j) lo hi)

abbrev pub inner_key_test : Page → Option (List ℕ) → Option (List ℕ) → ℕ → Bool
inner_key_test p lo hi j = implies (not (j == 0)) (is_above (key_at p j) lo && is_below (key_at p j) hi)

-- Key: two visible keys differ
abbrev pub distinct_test : Page → ℕ → ℕ → Bool
distinct_test p i j = implies (visible (p.meta i)) (implies (visible (p.meta j)) (not (bytes_eq (key_at p i) (key_at p j))))

-- Child: a pointer is 1 to the number of slots
abbrev pub child_test : ℕ → Page → ℕ → Bool
child_test nodes p i = nat_lt 0 (p.word (pointer_at p i)) && nat_le (p.word (pointer_at p i)) nodes

-- the tests of a leaf, a rule each
abbrev pub leaf_tests : (ℕ → ℕ) → Page → Option (List ℕ) → Option (List ℕ) → List Test
leaf_tests raw p lo hi =
    record { rule = Level; passes = level_test p 0 }
    ∷ record { rule = Fence; passes = fences_test p lo hi }
    ∷ record { rule = Status; passes = filled_test p }
    ∷ record { rule = Record; passes = every p.count (leaf_record_test raw p) && every_two p.count (apart_test p) }
    ∷ record { rule = Order; passes = every_two p.sorted (order_test p) }
    ∷ record { rule = Key; passes = every p.count (leaf_key_test p lo hi) && every_two p.count (distinct_test p) }
    ∷ []

-- the tests of an inner node at a level
abbrev pub inner_tests : ℕ → (ℕ → ℕ) → Page → ℕ → Option (List ℕ) → Option (List ℕ) → List Test
inner_tests nodes raw p l lo hi =
    record { rule = Level; passes = level_test p l }
    ∷ record { rule = Fence; passes = fences_test p lo hi }
    ∷ record { rule = Status; passes = filled_test p && settled_test p }
    ∷ record { rule = Record; passes = every p.count (inner_record_test raw p) && every_two p.count (apart_test p) }
    ∷ record { rule = Order; passes = every_two p.sorted (order_test p) }
    ∷ record { rule = Key; passes = every p.count (inner_key_test p lo hi) && every_two p.count (distinct_test p) }
    ∷ record { rule = Child; passes = every p.count (child_test nodes p) }
    ∷ []

-- the first rule that a node breaks which is to stand at this level between these bounds; a child pointer is
-- to be of one of so many slots
unfoldable pub node_fault : ℕ → (ℕ → ℕ) → (ℕ → ℕ) → ℕ → Option (List ℕ) → Option (List ℕ) → Option ShapeRule
node_fault nodes raw n l lo hi = first_of (if l == 0 then leaf_tests raw (page n) lo hi else inner_tests nodes raw (page n) l lo hi)
