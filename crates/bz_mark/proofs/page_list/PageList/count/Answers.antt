use Rattle.std.proofs.Common.{arith}
use Rattle.bz_mark.proofs.PageLemmas.{bounds_count}
use Rattle.bz_mark.proofs.page_list.PageList.count.Goals as goal

pub returns : goal.returns
returns c = rw (← c.self.view_is) (omega (arith, bounds_count c.self.inside.bounds.items _ c.self.inside.pairs.items c.self.invariant.pages))
