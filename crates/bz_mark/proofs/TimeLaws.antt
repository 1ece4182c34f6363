-- A mark that is no Cut, On or Ready leaves the power, and is one more since it came on.
use Rattle.std.proofs.Common.{◌≡◌, List, ◌∷◌, refl}
use Rattle.bz_mark.specs.Times.{LeavesPower, power_of, since_on}
use Rattle.bz_mark.specs.declared.marks.Mark.{Mark}
use Rattle.bz_mark.specs.declared.marks.Mark.TheVariants.{Cut, On, Ready}
use Rattle.bz_mark.specs.declared.power.Power.{Power}

pub power-more : (at_start : Power) (past : List Mark) (mark : Mark) → LeavesPower past mark → power_of at_start (mark ∷ past) ≡ power_of at_start past
power-more at_start past Cut h = absurd h
power-more at_start past On h = absurd h
power-more at_start past Ready h = absurd h
power-more at_start past mark h = refl

pub since-more : (past : List Mark) (mark : Mark) → LeavesPower past mark → since_on (mark ∷ past) ≡ mark ∷ since_on past
since-more past Cut h = absurd h
since-more past On h = absurd h
since-more past Ready h = absurd h
since-more past mark h = refl
