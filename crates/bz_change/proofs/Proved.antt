-- What this crate proves, as lemmas that other crates cite by these names.
use Rattle.bz_change.proofs.Changing.{effects_change as effects_change-holds, reads_tell as reads_tell-holds}
use Rattle.bz_change.proofs.Listing.{lists_follow as lists_follow-holds}
use Rattle.bz_change.proofs.Settling.{quiet_acts_leave as quiet_acts_leave-holds, starts_leave as starts_leave-holds}
use Rattle.bz_change.specs.Laws.{EffectsChange, ListsFollow, QuietActsLeave, ReadsTell, StartsLeave}

-- an act or an eviction by which no swap takes effect leaves every value
pub quiet_acts_leave : QuietActsLeave
quiet_acts_leave = quiet_acts_leave-holds

-- the effect of a call's swap makes its change, and no other
pub effects_change : EffectsChange
effects_change = effects_change-holds

-- starts leave every value
pub starts_leave : StartsLeave
starts_leave = starts_leave-holds

-- a read answers the value of its address, at a load of it
pub reads_tell : ReadsTell
reads_tell = reads_tell-holds

-- what a call's change makes of the list, and what its cell tells of the list where it does not suit
pub lists_follow : ListsFollow
lists_follow = lists_follow-holds
