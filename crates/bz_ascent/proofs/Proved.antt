-- What this crate proves, as lemmas that other crates cite by these names.
use Rattle.bz_ascent.proofs.Places.{begins, ends}
use Rattle.bz_ascent.proofs.Rising.{rises}
use Rattle.bz_ascent.proofs.Staying.{stays}
use Rattle.bz_ascent.specs.Laws.{AscentsBegin, AscentsEnd, AscentsRise, AscentsStay}

-- what was found on the way up stays
pub ascents_stay : AscentsStay
ascents_stay = stays

-- a frozen leaf that was viewed is at the foot of one
pub ascents_begin : AscentsBegin
ascents_begin = begins

-- where the parent of the node lacked the room for a separator, it was full, one level above the node
pub ascents_rise : AscentsRise
ascents_rise = rises

-- where the last node stood at the top of as many levels as a tree may have, one of each was full
pub ascents_end : AscentsEnd
ascents_end = ends
