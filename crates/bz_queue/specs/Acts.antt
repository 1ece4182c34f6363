-- Marks that leave the power as it is.
use Rattle.bz_mark.specs.declared.marks.Mark.{Mark}
use Rattle.bz_mark.specs.declared.marks.Mark.TheVariants.{Begin, End, Effect, Cut, On, Ready}

-- a mark of the memory that leaves the power as it is: no power cut, no power on, no end of a recovery
abbrev pub IsPlain : Mark → Type 0
IsPlain (Begin w n call) = ⊥
IsPlain (End w n reply at) = ⊥
IsPlain (Effect w n) = ⊥
IsPlain Cut = ⊥
IsPlain On = ⊥
IsPlain Ready = ⊥
IsPlain other = Unit {0}
