use Rattle.std.proofs.Common.{◌≡◌, ℕ, drop, length}
use Rattle.bz_pm.specs.State.{AreAsks}
use Rattle.bz_pm.specs.After.{settled}
use Rattle.bz_pm.proofs.settle.settle.Given as goal

abbrev pub invariant-loop-ask : goal.invariant-loop-ask
invariant-loop-ask l = record {
  asks : (acts : ℕ) × AreAsks (length l.durable) acts (drop l.ask-index l.asks);
  rest : settled (drop l.ask-index l.asks) (record { durable = l.durable; since = l.since })
      ≡ settled l.asks (record { durable = l.fn.durable; since = l.fn.since });
}
