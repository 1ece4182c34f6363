-- Which values a word may hold in the memory itself after a power cut. The newest mark stands first.
use Rattle.std.specs.Prelude.{◌≡◌, ◌≤◌, ℕ, List, length}
use Rattle.bz_mark.specs.Dates.{since, cached_at}
use Rattle.bz_mark.specs.declared.marks.Mark.{Mark}

-- v is the cached value of the word at a at a moment no earlier than that from which its durable value dates
pub record MayHold (start : List ℕ) (past : List Mark) (a v : ℕ) : Type 0 where
  pub moment : ℕ
  pub dated : since past a ≤ moment
  pub within : moment ≤ length past
  pub value : v ≡ cached_at start past moment a
