use Rattle.std.proofs.Common.{◌-◌, arith}
use Rattle.bz_sweep.proofs.Ahead.{pointers-fall, is-counted, each-counts}
use Rattle.bz_sweep.specs.Areas.{size_of}
use Rattle.bz_sweep.specs.Places.{pointers_in}
use Rattle.bz_sweep.proofs.sweep.Sweep.next.Goals as goal

pub returns-clause-nearer : goal.returns-clause-nearer
returns-clause-nearer c =
    let t = c.args.self.now in
    c.after-self.ensures.nearer (λ a. size_of t.area - a) (λ a b l. omega (arith, l)) (each-counts t.area t.phase c.requires.ready)

-- over a memory that it knows each pointer is one that was counted
pub returns-clause-sooner : goal.returns-clause-sooner
returns-clause-sooner c values m k =
    let t = c.args.self.now in
    c.after-self.ensures.nearer (pointers_in t.area m.durable) (pointers-fall t.area m.durable) (is-counted t.area values m t.phase c.requires.ready k)
