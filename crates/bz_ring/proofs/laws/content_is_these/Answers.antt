use Rattle.bz_ring.proofs.Contents.{content_is_these}
use Rattle.bz_ring.proofs.laws.content_is_these.Goals as goal

pub returns : goal.returns
returns c = content_is_these
