-- Where a sweep is: which places its phases may name, and how many acts are left.
use Rattle.std.specs.Prelude.{◌≡◌, ◌≢◌, ℕ, zero, suc, ◌+◌, ◌-◌, ◌%◌, ◌*◌, ◌<◌, ◌≤◌, nat_le, if◌then◌else◌}
use Rattle.bz_content.specs.Resolving.{target_in}
use Rattle.bz_layout.specs.Addresses.{swap_address, line_of}
use Rattle.bz_layout.specs.declared.sizes.TheConstants.{LINE_WORDS, SUPERBLOCK_WORDS, ENTRIES_AT, ENTRY_WORDS, MAX_ENTRIES}
use Rattle.bz_sweep.specs.Areas.{past_swaps, size_of, IsArea, IsBeside}
use Rattle.bz_sweep.specs.Words.{IsShared}
use Rattle.bz_sweep.specs.declared.area.Area.{Area}
use Rattle.bz_sweep.specs.declared.phase.SweepPhase.{SweepPhase}
use Rattle.bz_sweep.specs.declared.phase.SweepPhase.TheVariants.{Fresh, Word, Status, Target, Value, Resolve, Flush, SwapStatus, Free, FlushFree, Done}
use Rattle.bz_sweep.specs.declared.phase.Spot.{Spot}

-- the address of a word of an entry: 0 is its target, 1 the expected value, 2 the new one
abbrev pub entry_address : ℕ → ℕ → ℕ → ℕ
entry_address s i word = swap_address s + (ENTRIES_AT + ENTRY_WORDS * i) + word

-- the first address after one outside the descriptors that is no descriptor's, or the memory's end
pub record IsNextShared (r : Area) (a next : ℕ) : Type 0 where
  pub after : a < next
  pub within : next ≤ size_of r
  pub outside : IsBeside r next
  pub between : (b : ℕ) → IsShared r b → b < next → b ≤ a
  -- it is the next one, or that of a line
  pub line : ((a + 1) % LINE_WORDS ≢ 0) → (next ≡ a + 1) × (next < size_of r)

-- a word outside the descriptors; what is not flushed is in its line
pub record IsSpot (r : Area) (p : Spot) : Type 0 where
  pub shared : IsShared r p.at
  pub order : p.unflushed ≤ p.at
  pub line : line_of p.unflushed ≡ line_of p.at

-- the places that a phase names
abbrev pub IsPlace : Area → SweepPhase → Type 0
IsPlace r Fresh = Unit {0}
IsPlace r (Word p) = IsSpot r p
IsPlace r (Status p s) = IsSpot r p
IsPlace r (Target p q i) = IsSpot r p × (i < MAX_ENTRIES)
IsPlace r (Value p a) = IsSpot r p
IsPlace r (Resolve p x) = IsSpot r p
IsPlace r (Flush p) = IsSpot r p × ((p.at + 1) % LINE_WORDS ≡ 0)
IsPlace r (SwapStatus s) = s < r.swaps
IsPlace r (Free s) = s < r.swaps
IsPlace r (FlushFree s) = s < r.swaps
IsPlace r Done = Unit {0}

-- a phase of a sweep of such a memory
pub record IsPlaced (r : Area) (p : SweepPhase) : Type 0 where
  pub area : IsArea r
  pub place : IsPlace r p

-- how many words outside the descriptors there are from an address on, and how many lines
abbrev pub words_ahead : Area → ℕ → ℕ
words_ahead r a = (SUPERBLOCK_WORDS - a) + (r.words - (a - past_swaps r 0))

abbrev pub lines_ahead : Area → ℕ → ℕ
lines_ahead r a = line_of (size_of r) - line_of a

-- the most acts for a word: two loads and a store; five loads more for a pointer; and the most for a descriptor. Beside them
-- each line is flushed at most once, by an ask and a fence.
abbrev pub WORD_ACTS : ℕ
WORD_ACTS = 3

abbrev pub POINTER_ACTS : ℕ
POINTER_ACTS = 5

abbrev pub SWAP_ACTS : ℕ
SWAP_ACTS = 4

abbrev pub FLUSH_ACTS : ℕ
FLUSH_ACTS = 2

-- acts that are left once so many were made for a word, where so many pointers may still come
abbrev pub left_at : Area → ℕ → ℕ → ℕ → ℕ
left_at r pointers a made = SWAP_ACTS * r.swaps + 1 + WORD_ACTS * words_ahead r a + FLUSH_ACTS * lines_ahead r a + POINTER_ACTS * pointers - made

-- and for a descriptor
abbrev pub swaps_left : Area → ℕ → ℕ → ℕ
swaps_left r s made = SWAP_ACTS * (r.swaps - s) + 1 - made

-- the most acts that a sweep still asks for, where from an address on so many pointers may come. Once the value of a word is
-- asked for, what was kept for its pointer is spent.
abbrev pub left_in : Area → (ℕ → ℕ) → SweepPhase → ℕ
left_in r pointers Fresh = left_at r (pointers 0) 0 0 + 1
left_in r pointers (Word p) = left_at r (pointers p.at) p.at 0
left_in r pointers (Status p s) = left_at r (pointers p.at) p.at 1
left_in r pointers (Target p q i) = left_at r (pointers p.at) p.at (2 + i)
left_in r pointers (Value p a) = left_at r (pointers (p.at + 1)) p.at 1
left_in r pointers (Resolve p x) = left_at r (pointers (p.at + 1)) p.at 2
left_in r pointers (Flush p) = left_at r (pointers (p.at + 1)) p.at 4
left_in r pointers (SwapStatus s) = swaps_left r s 0
left_in r pointers (Free s) = swaps_left r s 1
left_in r pointers (FlushFree s) = swaps_left r s 3
left_in r pointers Done = 0

-- each descriptor has so many entries, and so many pointers at most: the most acts of a whole sweep
abbrev pub sweep_acts : Area → ℕ
sweep_acts r = left_at r (MAX_ENTRIES * r.swaps) 0 0 + 1

-- so for each word of the memory a sweep makes fewer than
abbrev pub MOST_ACTS : ℕ
MOST_ACTS = 4

-- further on there are no more of them
abbrev pub IsFalling : (ℕ → ℕ) → Type 0
IsFalling pointers = (a b : ℕ) → a ≤ b → pointers b ≤ pointers a

-- and a pointer is one of them
abbrev pub IsCounted : (ℕ → ℕ) → SweepPhase → Type 0
IsCounted pointers (Target p q i) = pointers (p.at + 1) < pointers p.at
IsCounted pointers p = Unit {0}

-- how many of the first entries of a descriptor have a target at an address or after it
unfoldable pub targets_from : (ℕ → ℕ) → ℕ → ℕ → ℕ → ℕ
targets_from raw a s zero = 0
targets_from raw a s (suc i) = (if nat_le a (target_in raw s i) then 1 else 0) + targets_from raw a s i

unfoldable pub all_targets : (ℕ → ℕ) → ℕ → ℕ → ℕ
all_targets raw a zero = 0
all_targets raw a (suc s) = targets_from raw a s MAX_ENTRIES + all_targets raw a s

-- in an image that many pointers may come from an address on, since each stands at the target of an entry that no other has
abbrev pub pointers_in : Area → (ℕ → ℕ) → ℕ → ℕ
pointers_in r raw a = all_targets raw a r.swaps
