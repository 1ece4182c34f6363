-- What the power is after some marks, and what lies since it last came on. The newest mark stands first.
use Rattle.std.specs.Prelude.{List, [], ◌∷◌}
use Rattle.bz_mark.specs.declared.marks.Mark.{Mark}
use Rattle.bz_mark.specs.declared.marks.Mark.TheVariants.{Cut, On, Ready}
use Rattle.bz_mark.specs.declared.power.Power.{Power}
use Rattle.bz_mark.specs.declared.power.Power.TheVariants as power

-- The last Cut, On or Ready tells what the power is. Where there is none it is as at the start: on over fresh memory,
-- off over an image that was read.
abbrev pub power_of : Power → List Mark → Power
power_of at_start [] = at_start
power_of at_start (Cut ∷ past) = power.Off
power_of at_start (On ∷ past) = power.Recovering
power_of at_start (Ready ∷ past) = power.On
power_of at_start (mark ∷ past) = power_of at_start past

-- the marks since the last On, or since the start where there is none
abbrev pub since_on : List Mark → List Mark
since_on [] = []
since_on (On ∷ past) = []
since_on (mark ∷ past) = mark ∷ since_on past

-- the mark is no Cut, On or Ready
abbrev pub LeavesPower : List Mark → Mark → Type 0
LeavesPower past Cut = ⊥
LeavesPower past On = ⊥
LeavesPower past Ready = ⊥
LeavesPower past mark = Unit {0}
