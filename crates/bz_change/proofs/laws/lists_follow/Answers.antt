use Rattle.bz_change.proofs.Listing.{lists_follow}
use Rattle.bz_change.proofs.laws.lists_follow.Goals as goal

pub returns : goal.returns
returns c = lists_follow
