-- What a worker asked for since its last fence, with repetitions.
use Rattle.std.specs.Prelude.{◌≡◌, ◌≤◌, ◌==◌, ◌+◌, ◌*◌, if◌then◌else◌, ℕ, List, [], ◌∷◌, length, max}
use Rattle.bz_pm.specs.After.{Dated, settled_words}
use Rattle.bz_check.specs.declared.asks.Asked.{Asked}

-- the last moment at which a line was asked for, and 0 where it was not
abbrev pub newest : List Asked → ℕ → ℕ
newest [] line = 0
newest (q ∷ qs) line = if q.line == line then max q.moment (newest qs line) else newest qs line

-- each ask has the eight words of a line, in a memory of so many words
pub record IsWithin (size : ℕ) (q : Asked) : Type 0 where
  pub line : q.line * 8 + 8 ≤ size
  pub eight : length q.words ≡ 8

abbrev pub AreWithin : ℕ → List Asked → Type 0
AreWithin size [] = Unit {0}
AreWithin size (q ∷ qs) = IsWithin size q × AreWithin size qs

-- the words of each ask become durable, each unless the durable one dates from then or later
abbrev pub settled : List Asked → Dated → Dated
settled [] d = d
settled (q ∷ qs) d = settled qs (settled_words (q.line * 8) q.moment q.words d)
