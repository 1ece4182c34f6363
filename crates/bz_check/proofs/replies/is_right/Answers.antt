use Rattle.std.proofs.Common.{refl}
use Rattle.bz_check.proofs.replies.is_right.Goals as goal

pub returns-in-End : goal.returns-in-End
returns-in-End c = rw (c.is_reply.ensures, c.standing-here.ensures, c.open_call.ensures, c.in-End.is) refl
