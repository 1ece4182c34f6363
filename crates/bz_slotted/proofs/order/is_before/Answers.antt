use Rattle.std.proofs.Common.{sym}
use Rattle.bz_node.specs.Layout.{bound_of}
use Rattle.bz_slotted.proofs.KeyFacts.{nil-before, before-nil}
use Rattle.bz_slotted.proofs.order.is_before.Goals as goal

pub returns-in-None : goal.returns-in-None
returns-in-None c = rw c.in-None.is (sym (before-nil (bound_of c.args.a.now)))

pub returns-in-None-a : goal.returns-in-None-a
returns-in-None-a c = rw (c.in-Some.is, c.in-None-a.is) (sym (nil-before c.in-Some.second c.bytes-some.ensures.is_key.some))
