use Rattle.bz_inner.specs.LowerDuties.{lowering_of}
use Rattle.bz_inner.specs.declared.lower_phase.LowerPhase.TheVariants.{Fresh, Status}
use Rattle.bz_inner.proofs.LowerGoing.{stepped-in, stepped-later}
use Rattle.bz_inner.proofs.lower.Lower.after.Goals as goal

pub returns-in-Fresh : goal.returns-in-Fresh
returns-in-Fresh c = let t = c.args.self.now in stepped-in (lowering_of t) t.phase Fresh c.begun.result c.args.seen c.in-Fresh.is c.begun.ensures

pub returns-in-Status : goal.returns-in-Status
returns-in-Status c = let t = c.args.self.now in stepped-in (lowering_of t) t.phase Status c.looked.result c.args.seen c.in-Status.is c.looked.ensures

pub returns-in_default : goal.returns-in_default
returns-in_default c = let t = c.args.self.now in stepped-later (lowering_of t) t.phase c.after_swap.result c.args.seen c.in_default.not-Fresh c.in_default.not-Status c.after_swap.ensures
