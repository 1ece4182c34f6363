-- The mark that an act of the swap memory leaves in a journal.
use Rattle.std.specs.Prelude.{ℕ}
use Rattle.bz_swap_acts.specs.declared.acted.Act.{Act}
use Rattle.bz_swap_acts.specs.declared.acted.Act.TheVariants as act
use Rattle.bz_mark.specs.declared.marks.Mark.{Mark}
use Rattle.bz_mark.specs.declared.marks.Mark.TheVariants.{Load, Store, Cas, Ask, Fence}

-- the mark of an act of worker w
abbrev pub mark_of : ℕ → Act → Mark
mark_of w (act.Load a v) = Load w a v
mark_of w (act.Store a v) = Store w a v
mark_of w (act.Cas a old new found) = Cas w a old new found
mark_of w (act.Ask line) = Ask w line
mark_of w act.Fence = Fence w
