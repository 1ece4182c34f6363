-- How many acts a recovery makes, mark by mark: fewer since the power came on than four for each word of the memory. The newest mark stands first.
use Rattle.std.specs.Prelude.{◌≡◌, ◌<◌, ℕ, List, ◌∷◌}
use Rattle.bz_layout.specs.declared.config.Config.{Config}
use Rattle.bz_mark.specs.declared.marks.Mark.{Mark}
use Rattle.bz_sound.specs.Memory.Moments.{EachMark}
use Rattle.bz_mark.specs.Times.{power_of, since_on}
use Rattle.bz_mark.specs.declared.power.Power.{Power}
use Rattle.bz_mark.specs.declared.power.Power.TheVariants as power
use Rattle.bz_mark.specs.Counts.{acts_by}
use Rattle.bz_world.specs.WorldView.{recovery_most}

-- how many acts worker 0 has made since the power came on last
abbrev pub acts_recovering : List Mark → ℕ
acts_recovering past = acts_by 0 (since_on past)

-- after a mark of a recovery it has made fewer than this
abbrev pub IsBrief : Config → Power → List Mark → Mark → Type 0
IsBrief c at_start past mark = power_of at_start (mark ∷ past) ≡ power.Recovering → acts_recovering (mark ∷ past) < recovery_most c

abbrev pub AreRecoveriesBrief : Config → Power → List Mark → Type 0
AreRecoveriesBrief c at_start past = EachMark (IsBrief c at_start) past
