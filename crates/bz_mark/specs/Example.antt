-- Small journals, worked out by hand from the rule of each mark: the words after each mark, what asks and fences leave, and
-- what a power cut may leave.
use Rattle.std.specs.Prelude.{◌≡◌, ◌⊎◌, ◌↔◌, ℕ, List, [], ◌∷◌, length, replicate, reverse, slice_index}
use Rattle.bz_mark.specs.declared.marks.Mark.{Mark}
use Rattle.bz_mark.specs.declared.marks.Mark.TheVariants.{Load, Store, Cas, Ask, Fence, Evict, Cut, On}
use Rattle.bz_mark.specs.WordsAfter.{words_after_marks}
use Rattle.bz_mark.specs.Dates.{cached_at, durable_word}
use Rattle.bz_mark.specs.Evictions.{MayBeLeft}

-- a mark, and the cached and the durable words after it
pub record Row : Type 0 where
  pub mark : Mark
  pub cached : List ℕ
  pub durable : List ℕ

abbrev row : Mark → List ℕ → List ℕ → Row
row mark cached durable = record { mark = mark; cached = cached; durable = durable }

-- a line of eight words, and one word of the next
abbrev pub nine_words : List ℕ
nine_words = 10 ∷ 11 ∷ 12 ∷ 13 ∷ 14 ∷ 15 ∷ 16 ∷ 17 ∷ 18 ∷ []

-- the oldest mark stands first
abbrev pub table : List Row
table =
    row (Store 1 0 5) (5 ∷ 11 ∷ 12 ∷ 13 ∷ 14 ∷ 15 ∷ 16 ∷ 17 ∷ 18 ∷ []) (10 ∷ 11 ∷ 12 ∷ 13 ∷ 14 ∷ 15 ∷ 16 ∷ 17 ∷ 18 ∷ [])
    ∷ row (Store 2 8 6) (5 ∷ 11 ∷ 12 ∷ 13 ∷ 14 ∷ 15 ∷ 16 ∷ 17 ∷ 6 ∷ []) (10 ∷ 11 ∷ 12 ∷ 13 ∷ 14 ∷ 15 ∷ 16 ∷ 17 ∷ 18 ∷ [])
    ∷ row (Load 1 8 6) (5 ∷ 11 ∷ 12 ∷ 13 ∷ 14 ∷ 15 ∷ 16 ∷ 17 ∷ 6 ∷ []) (10 ∷ 11 ∷ 12 ∷ 13 ∷ 14 ∷ 15 ∷ 16 ∷ 17 ∷ 18 ∷ [])
    ∷ row (Cas 1 7 17 3 17) (5 ∷ 11 ∷ 12 ∷ 13 ∷ 14 ∷ 15 ∷ 16 ∷ 3 ∷ 6 ∷ []) (10 ∷ 11 ∷ 12 ∷ 13 ∷ 14 ∷ 15 ∷ 16 ∷ 17 ∷ 18 ∷ [])
    ∷ row (Cas 2 7 17 4 3) (5 ∷ 11 ∷ 12 ∷ 13 ∷ 14 ∷ 15 ∷ 16 ∷ 3 ∷ 6 ∷ []) (10 ∷ 11 ∷ 12 ∷ 13 ∷ 14 ∷ 15 ∷ 16 ∷ 17 ∷ 18 ∷ [])
    ∷ row (Ask 1 0) (5 ∷ 11 ∷ 12 ∷ 13 ∷ 14 ∷ 15 ∷ 16 ∷ 3 ∷ 6 ∷ []) (10 ∷ 11 ∷ 12 ∷ 13 ∷ 14 ∷ 15 ∷ 16 ∷ 17 ∷ 18 ∷ [])
    ∷ row (Fence 1) (5 ∷ 11 ∷ 12 ∷ 13 ∷ 14 ∷ 15 ∷ 16 ∷ 3 ∷ 6 ∷ []) (5 ∷ 11 ∷ 12 ∷ 13 ∷ 14 ∷ 15 ∷ 16 ∷ 3 ∷ 18 ∷ [])
    ∷ row (Store 1 1 2) (5 ∷ 2 ∷ 12 ∷ 13 ∷ 14 ∷ 15 ∷ 16 ∷ 3 ∷ 6 ∷ []) (5 ∷ 11 ∷ 12 ∷ 13 ∷ 14 ∷ 15 ∷ 16 ∷ 3 ∷ 18 ∷ [])
    ∷ row (Evict 8) (5 ∷ 2 ∷ 12 ∷ 13 ∷ 14 ∷ 15 ∷ 16 ∷ 3 ∷ 6 ∷ []) (5 ∷ 11 ∷ 12 ∷ 13 ∷ 14 ∷ 15 ∷ 16 ∷ 3 ∷ 6 ∷ [])
    ∷ row Cut (5 ∷ 11 ∷ 12 ∷ 13 ∷ 14 ∷ 15 ∷ 16 ∷ 3 ∷ 6 ∷ []) (5 ∷ 11 ∷ 12 ∷ 13 ∷ 14 ∷ 15 ∷ 16 ∷ 3 ∷ 6 ∷ [])
    ∷ row On (5 ∷ 11 ∷ 12 ∷ 13 ∷ 14 ∷ 15 ∷ 16 ∷ 3 ∷ 6 ∷ []) (5 ∷ 11 ∷ 12 ∷ 13 ∷ 14 ∷ 15 ∷ 16 ∷ 3 ∷ 6 ∷ [])
    ∷ []

-- the words after each mark are those of its row
abbrev pub AreRight : List ℕ → List Mark → List Row → Type 0
AreRight start past [] = Unit {0}
AreRight start past (row ∷ rows) =
    (words_after_marks start (row.mark ∷ past) ≡ record { cached = row.cached; durable = row.durable }) × AreRight start (row.mark ∷ past) rows

abbrev pub TableIsRight : Type 0
TableIsRight = AreRight nine_words [] table

-- marks on a line of eight words 0, the oldest first, and the cached and the durable value of its first two words after them
pub record Case : Type 0 where
  pub marks : List Mark
  pub first : ℕ × ℕ
  pub second : ℕ × ℕ

abbrev case : List Mark → ℕ × ℕ → ℕ × ℕ → Case
case marks first second = record { marks = marks; first = first; second = second }

abbrev pub asks_and_fences : List Case
asks_and_fences =
    -- an ask takes the words as they are then
    case (Store 1 0 5 ∷ Ask 1 0 ∷ Store 1 0 6 ∷ Fence 1 ∷ []) (6, 5) (0, 0)
    -- an eviction makes a later value durable, and the fence does not go back
    ∷ case (Store 1 0 5 ∷ Ask 1 0 ∷ Store 1 0 6 ∷ Evict 0 ∷ Fence 1 ∷ []) (6, 6) (0, 0)
    -- a fence is its own worker's
    ∷ case (Store 1 0 5 ∷ Ask 1 0 ∷ Fence 2 ∷ []) (5, 0) (0, 0)
    -- a cut forgets what was asked for
    ∷ case (Store 1 0 5 ∷ Ask 1 0 ∷ Cut ∷ Fence 1 ∷ []) (0, 0) (0, 0)
    -- also where a store follows it
    ∷ case (Store 1 0 5 ∷ Ask 1 0 ∷ Cut ∷ On ∷ Store 0 0 6 ∷ Fence 1 ∷ []) (6, 0) (0, 0)
    -- the last ask for a line counts
    ∷ case (Store 1 0 5 ∷ Ask 1 0 ∷ Store 1 0 6 ∷ Ask 1 0 ∷ Store 1 0 7 ∷ Fence 1 ∷ []) (7, 6) (0, 0)
    -- of two workers the later one fences first, and its value stays
    ∷ case (Store 1 0 5 ∷ Ask 1 0 ∷ Store 1 0 6 ∷ Ask 2 0 ∷ Fence 2 ∷ Fence 1 ∷ []) (6, 6) (0, 0)
    -- an eviction with no store leaves the fence nothing to do
    ∷ case (Store 1 0 5 ∷ Ask 1 0 ∷ Evict 0 ∷ Fence 1 ∷ []) (5, 5) (0, 0)
    -- one word of the line is evicted, and the other one is not
    ∷ case (Store 1 0 5 ∷ Store 1 1 7 ∷ Ask 1 0 ∷ Store 1 0 6 ∷ Store 1 1 8 ∷ Evict 0 ∷ Fence 1 ∷ []) (6, 6) (8, 7)
    -- a fence forgets what it made durable
    ∷ case (Store 1 0 5 ∷ Ask 1 0 ∷ Fence 1 ∷ Store 1 0 6 ∷ Fence 1 ∷ []) (6, 5) (0, 0)
    ∷ []

-- a word has these values after marks, as the memory has it and by moments
abbrev pub HasWord : List Mark → ℕ → ℕ × ℕ → Type 0
HasWord past a word =
    let start : List ℕ = replicate 8 0 in
    (slice_index (words_after_marks start past).cached a ≡ word.0) × (slice_index (words_after_marks start past).durable a ≡ word.1)
    × (cached_at start past (length past) a ≡ word.0) × (durable_word start past a ≡ word.1)

abbrev pub LeaveThese : List Case → Type 0
LeaveThese [] = Unit {0}
LeaveThese (it ∷ cases) = HasWord (reverse it.marks) 0 it.first × HasWord (reverse it.marks) 1 it.second × LeaveThese cases

abbrev pub AsksAndFencesLeaveThese : Type 0
AsksAndFencesLeaveThese = LeaveThese asks_and_fences

-- a memory of one word, 4: a store of 5, an ask for its line and the fence, a store of 6
abbrev pub fenced_between : List Mark
fenced_between = Store 1 0 6 ∷ Fence 1 ∷ Ask 1 0 ∷ Store 1 0 5 ∷ []

-- a power cut then leaves 5 or 6, and nothing else
abbrev pub LeavesFiveOrSix : Type 0
LeavesFiveOrSix = (image : List ℕ) → MayBeLeft (4 ∷ []) fenced_between image ↔ ((image ≡ 5 ∷ []) ⊎ (image ≡ 6 ∷ []))
