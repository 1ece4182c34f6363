-- A journal that may have as many calls as marks has room for any mark where it has a place.
use Rattle.std.proofs.Common.{◌≡◌, ◌≤◌, ◌<◌, List, [], ◌∷◌, length, arith}
use Rattle.bz_mark.specs.Log.{Log, HasTable, HasRoom, count_begins, count_ends}
use Rattle.bz_mark.specs.declared.marks.Mark.{Mark}
use Rattle.bz_mark.specs.declared.marks.Mark.TheVariants.{Begin, End}

begins_within : (past : List Mark) → count_begins past ≤ length past
begins_within [] = omega arith
begins_within (Begin w n call ∷ past) = omega (arith, begins_within past)
begins_within (mark ∷ past) = omega (arith, begins_within past)

ends_within : (past : List Mark) → count_ends past ≤ length past
ends_within [] = omega arith
ends_within (End w n reply at ∷ past) = omega (arith, ends_within past)
ends_within (mark ∷ past) = omega (arith, ends_within past)

has_table : (log : Log) (mark : Mark) → length log.past < log.limits.calls → HasTable log mark
has_table log (Begin w n call) place = omega (arith, begins_within log.past, place)
has_table log (End w n reply at) place = omega (arith, ends_within log.past, place)
has_table log mark place = tt

pub has_room : (log : Log) (mark : Mark) → length log.past < log.limits.marks → log.limits.calls ≡ log.limits.marks → HasRoom log mark
has_room log mark place e = record { place = place; table = has_table log mark (omega (arith, place, e)) }
