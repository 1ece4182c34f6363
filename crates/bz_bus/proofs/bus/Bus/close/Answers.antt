use Rattle.bz_bus.proofs.Ends.{took_some, took_value}
use Rattle.bz_bus.proofs.bus.Bus.close.Goals as goal

pub unreachable-requires : goal.unreachable-requires
unreachable-requires g c = let p = c.args.pass in
    took_some _ _ _ _ _ _ _ _ _ _ _ c.close_with-closed.ensures.values.2 p.rests.1 p.agrees.0 c.requires.pass.1 p.agrees.1 c.requires.free c.take-value.ensures.value c.in-None.is

pub returns : goal.returns
returns g c = let p = c.args.pass in
    took_value _ _ _ _ _ _ _ _ _ _ _ c.close_with-closed.ensures.values.2 p.rests.1 p.agrees.0 c.requires.pass.1 p.agrees.1 c.requires.free c.take-value.ensures.value c.in-Some.value c.in-Some.is
