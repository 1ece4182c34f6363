-- What a replay knows of a memory after marks, by the marks alone. The newest mark stands first.
use Rattle.std.specs.Prelude.{◌≡◌, ◌≤◌, ◌<◌, ◌+◌, ◌*◌, ◌⊎◌, ℕ, List, [], ◌∷◌, length, slice_index, get_or, max}
use Rattle.std.specs.List.{AllByRecursion}
use Rattle.bz_mark.specs.declared.marks.Mark.{Mark}
use Rattle.bz_mark.specs.Dates.{cached_at, since, asked}
use Rattle.bz_check.specs.declared.asks.Asked.{Asked}
use Rattle.bz_check.specs.Asks.{newest}
use Rattle.bz_check.specs.Kept.{Kept}
use Rattle.bz_check.specs.Restored.{IsAt}

-- an ask has the cached words of a line at its moment, which is none before the last cut
pub record IsTold (start : List ℕ) (past : List Mark) (cut : ℕ) (q : Asked) : Type 0 where
  pub line : q.line * 8 + 8 ≤ length start
  pub eight : length q.words ≡ 8
  pub late : cut ≤ q.moment
  pub within : q.moment ≤ length past
  pub words : (k : ℕ) → k < 8 → slice_index q.words k ≡ cached_at start past q.moment (q.line * 8 + k)

abbrev pub AreTold : List ℕ → List Mark → ℕ → List Asked → Type 0
AreTold start past cut [] = Unit {0}
AreTold start past cut (q ∷ qs) = IsTold start past cut q × AreTold start past cut qs

-- the words are those of the moments that the marks tell, and so is what was asked for; and where the cached value of a word has changed
-- since the last cut, its address is kept
pub record Replays (start : List ℕ) (past : List Mark) (m : Kept) : Type 0 where
  pub cached_size : length m.cached ≡ length start
  pub durable_size : length m.durable ≡ length start
  pub since_size : length m.since ≡ length start
  pub workers : length m.asks ≡ 256
  pub now : m.cut ≤ length past
  pub cached : (a : ℕ) → a < length start → slice_index m.cached a ≡ cached_at start past (length past) a
  pub dated : (a : ℕ) → a < length start → slice_index m.durable a ≡ cached_at start past (max (slice_index m.since a) m.cut) a
  pub since : (a : ℕ) → a < length start → max (slice_index m.since a) m.cut ≡ since past a
  pub asked : (w line : ℕ) → w < 256 → newest (get_or m.asks w []) line ≡ asked past w line
  pub told : (w : ℕ) → AreTold start past m.cut (get_or m.asks w [])
  pub steady : (a : ℕ) → a < length start → IsAt a m.stored ⊎ ((moment : ℕ) → m.cut ≤ moment → cached_at start past moment a ≡ slice_index m.cached a)
  pub stored : AllByRecursion (λ a. a < length start) m.stored
