-- Which limit of a journal is met. The newest mark stands first.
use Rattle.std.specs.Prelude.{◌<◌, ◌≤◌, ◌-◌, List, length}
use Rattle.bz_mark.specs.Log.{Limits, count_begins, count_page_calls}
use Rattle.bz_mark.specs.declared.marks.Mark.{Mark}
use Rattle.bz_world.specs.declared.answers.LimitKind.{LimitKind}
use Rattle.bz_world.specs.declared.answers.LimitKind.TheVariants as which

-- The first limit that is met, in the order in which a begin asks: fewer than three places are left for marks; or else as many calls have begun as may; or
-- else as many page calls.
abbrev pub MeetsLimit : Limits → List Mark → LimitKind → Type 0
MeetsLimit limits past which.Marks = limits.marks - length past < 3
MeetsLimit limits past which.Calls = (3 ≤ limits.marks - length past) × (limits.calls ≤ count_begins past)
MeetsLimit limits past which.Pages = (3 ≤ limits.marks - length past) × (count_begins past < limits.calls) × (limits.pages ≤ count_page_calls past)
