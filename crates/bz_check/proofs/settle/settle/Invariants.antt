use Rattle.std.proofs.Common.{◌≡◌, drop, length}
use Rattle.bz_check.specs.Asks.{AreWithin, settled}
use Rattle.bz_check.proofs.settle.settle.Given as goal

abbrev pub invariant-loop-ask : goal.invariant-loop-ask
invariant-loop-ask l = record {
  asks : AreWithin (length l.durable) (drop l.ask-index l.asks);
  rest : settled (drop l.ask-index l.asks) (record { durable = l.durable; since = l.since })
      ≡ settled l.asks (record { durable = l.fn.durable; since = l.fn.since });
}
