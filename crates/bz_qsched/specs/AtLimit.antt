-- Which limit of a journal is met. The newest mark stands first.
use Rattle.std.specs.Prelude.{◌<◌, ◌≤◌, ◌-◌, ℕ, List, length}
use Rattle.bz_queue.specs.declared.answers.QLimit.{QLimit}
use Rattle.bz_queue.specs.declared.answers.QLimit.TheVariants as which
use Rattle.bz_ring.specs.Calls.{count_begins}
use Rattle.bz_ring.specs.declared.marks.QMark.{QMark}

-- The first limit that is met, in the order in which a begin asks, of so many marks and so many calls: fewer than three places are left for marks; or else as
-- many calls have begun as may.
abbrev pub MeetsLimit : ℕ → ℕ → List QMark → QLimit → Type 0
MeetsLimit marks calls past which.Marks = marks - length past < 3
MeetsLimit marks calls past which.Calls = (3 ≤ marks - length past) × (calls ≤ count_begins past)
