-- The content of a ring, place by place; what a put and a take make of it, and what single cells tell.
use Rattle.std.specs.Prelude.{◌≡◌, ◌≢◌, ◌↔◌, ℕ, ◌+◌, ◌<◌, ◌≤◌, List, [], ◌∷◌, ◌++◌, length, get_or, Some}
use Rattle.bz_ring.specs.declared.ring.Ring.{Ring}
use Rattle.bz_ring.specs.declared.ring.TheConstants.{HEAD_AT, TAIL_AT}
use Rattle.bz_ring.specs.Content.{cell_of, content_of}

-- the values hold this list: the tail is the head and so many more, the cells from the head on have the items, and the other
-- cells are 0
pub record HoldsItems (r : Ring) (value : ℕ → ℕ) (items : List ℕ) : Type 0 where
  pub counted : value TAIL_AT ≡ value HEAD_AT + length items
  pub fits : length items ≤ r.capacity
  pub inside : (i : ℕ) → i < length items → value (cell_of r (value HEAD_AT + i)) ≡ get_or items i 0 + 1
  pub outside : (i : ℕ) → length items ≤ i → i < r.capacity → value (cell_of r (value HEAD_AT + i)) ≡ 0

-- the content is this list exactly where the values hold it
abbrev pub ContentIsThese : Type 0
ContentIsThese = (r : Ring) (value : ℕ → ℕ) (items : List ℕ) → content_of r value ≡ Some items ↔ HoldsItems r value items

-- the tail is one more and its cell has the item, and every other word is as it was
pub record Puts (r : Ring) (item : ℕ) (old new : ℕ → ℕ) : Type 0 where
  pub tail : new TAIL_AT ≡ old TAIL_AT + 1
  pub cell : new (cell_of r (old TAIL_AT)) ≡ item + 1
  pub others : (a : ℕ) → a ≢ TAIL_AT → a ≢ cell_of r (old TAIL_AT) → new a ≡ old a

-- the head is one more and its cell is 0, and every other word is as it was
pub record Takes (r : Ring) (old new : ℕ → ℕ) : Type 0 where
  pub head : new HEAD_AT ≡ old HEAD_AT + 1
  pub cell : new (cell_of r (old HEAD_AT)) ≡ 0
  pub others : (a : ℕ) → a ≢ HEAD_AT → a ≢ cell_of r (old HEAD_AT) → new a ≡ old a

-- a put where there is room appends its item
abbrev pub PutsAppend : Type 0
PutsAppend = (r : Ring) (item : ℕ) (old new : ℕ → ℕ) (items : List ℕ) → length items < r.capacity → HoldsItems r old items → Puts r item old new → HoldsItems r new (items ++ item ∷ [])

-- a take drops the first item
abbrev pub TakesDrop : Type 0
TakesDrop = (r : Ring) (item : ℕ) (old new : ℕ → ℕ) (items : List ℕ) → HoldsItems r old (item ∷ items) → Takes r old new → HoldsItems r new items

-- what the cell of a counter tells of the list: that of the tail whether it is full, and that of the head its first item
pub record TellsList (r : Ring) (value : ℕ → ℕ) (items : List ℕ) : Type 0 where
  pub room : value (cell_of r (value TAIL_AT)) ≡ 0 → length items < r.capacity
  pub full : value (cell_of r (value TAIL_AT)) ≢ 0 → length items ≡ r.capacity
  pub empty : value (cell_of r (value HEAD_AT)) ≡ 0 → items ≡ []
  pub first : (item : ℕ) → value (cell_of r (value HEAD_AT)) ≡ item + 1 → (rest : List ℕ) × (items ≡ item ∷ rest)

abbrev pub CellsTellTheList : Type 0
CellsTellTheList = (r : Ring) (value : ℕ → ℕ) (items : List ℕ) → 0 < r.capacity → HoldsItems r value items → TellsList r value items

-- values that are the same at the counters and the cells hold the same list
abbrev pub OtherWordsDoNotMatter : Type 0
OtherWordsDoNotMatter = (r : Ring) (old new : ℕ → ℕ) (items : List ℕ) → new HEAD_AT ≡ old HEAD_AT → new TAIL_AT ≡ old TAIL_AT → ((counter : ℕ) → new (cell_of r counter) ≡ old (cell_of r counter))
    → HoldsItems r old items → HoldsItems r new items
