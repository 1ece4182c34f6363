use Rattle.bz_inner.specs.LowerDuties.{lowering_of}
use Rattle.bz_inner.proofs.LowerGoing.{steps}
use Rattle.bz_inner.proofs.lower.Lower.step.Goals as goal

pub returns : goal.returns
returns c =
    let t = c.args.self.now in
    let k = steps t.config (lowering_of t) t.phase c.after-self.result c.args.seen c.args.moment c.args.slots.now c.requires c.after-self.ensures in
    record { known = k.known; begun = k.begun; ready = k.ready; goes = k.goes; learns = k.learns }
