use Rattle.std.proofs.Common.{sym, subst}
use Rattle.bz_world.specs.Inside.Told.{TellsEndsIn}
use Rattle.bz_world.proofs.Brief.{IsBriefIn}
use Rattle.bz_world.proofs.ToldEnds.{tells-at-first}
use Rattle.bz_world.proofs.told.open_world.Goals as goal

pub returns-clause-kept : goal.returns-clause-kept
returns-clause-kept c = record { kept = c.in_ok-parts.ensures.kept; tells = subst TellsEndsIn (sym c.in_ok-parts.ensures.ok) (tells-at-first _ _ _); brief = subst IsBriefIn (sym c.in_ok-parts.ensures.ok) tt }
