use Rattle.std.proofs.Common.{◌≡◌, List}
use Rattle.bz_bus.specs.Entries.{Extends}
use Rattle.bz_call.specs.declared.calls.Call.{Call}
use Rattle.bz_index.proofs.index.Index.finish.Given as goal
use Rattle.bz_index.specs.Inside.Running.{IsRunning}
use Rattle.bz_index.specs.Passes.{worker_of, seen_by, IsPlaced}
use Rattle.bz_index.specs.declared.shared.IndexEntry.{IndexEntry}

abbrev pub invariant-loop : goal.invariant-loop
invariant-loop g l = IsPlaced l.self l.pass × (worker_of l.pass ≡ worker_of l.fn.pass) × Extends (seen_by l.fn.pass) (seen_by l.pass)
    × ((call : Call) (first : List IndexEntry) → IsRunning (worker_of l.fn.pass) call first (seen_by l.fn.pass) → IsRunning (worker_of l.fn.pass) call first (seen_by l.pass))
