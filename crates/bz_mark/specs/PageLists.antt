-- How the pages of a journal are kept: all their pairs in one list, and the places at which each page begins and ends.
use Rattle.std.specs.Prelude.{◌≡◌, ◌≤◌, ◌<◌, ◌+◌, ◌*◌, ◌^◌, ℕ, List, [], ◌∷◌, length, slice_range, vec_capacity}
use Rattle.bz_key.specs.declared.limits.TheConstants.{PAGE_PAIRS}
use Rattle.bz_mark.specs.declared.page_list.PageList.TheInside.{Inside}

-- pages, each the list of its pairs, and how many there may be
pub record PageLists : Type 0 where
  pub pages : List (List (List ℕ × List ℕ))
  pub most : ℕ

-- the page that begins here, and those after it
abbrev pub pages_from : ℕ → List ℕ → List (List ℕ × List ℕ) → List (List (List ℕ × List ℕ))
pages_from start [] pairs = []
pages_from start (end ∷ ends) pairs = slice_range pairs start end ∷ pages_from end ends pairs

-- the pages between these bounds
abbrev pub pages_in : List ℕ → List (List ℕ × List ℕ) → List (List (List ℕ × List ℕ))
pages_in [] pairs = []
pages_in (start ∷ ends) pairs = pages_from start ends pairs

-- each page ends no earlier than it begins, and has no more pairs than a page may; the last one ends here
abbrev pub EndAt : ℕ → List ℕ → ℕ → Type 0
EndAt start [] last = start ≡ last
EndAt start (end ∷ ends) last = (start ≤ end) × (end ≤ start + PAGE_PAIRS) × EndAt end ends last

abbrev pub ArePages : List ℕ → ℕ → Type 0
ArePages [] last = ⊥
ArePages (start ∷ ends) last = (start ≡ 0) × EndAt start ends last

-- the bounds tell pages, and there is room for more
pub record AreBounds (l : Inside) : Type 0 where
  pub pages : ArePages l.bounds.items (length l.pairs.items)
  pub few : length l.bounds.items ≤ l.most + 1
  pub fits : l.most < 2 ^ 32
  pub room : l.most + 1 ≤ vec_capacity l.bounds
  pub pairs_room : l.most * PAGE_PAIRS ≤ vec_capacity l.pairs
