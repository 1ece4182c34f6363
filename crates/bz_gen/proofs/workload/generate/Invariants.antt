use Rattle.std.proofs.Common.{◌≡◌, ◌+◌}
use Rattle.bz_gen.specs.Workload.{state_after, items_drawn}
use Rattle.bz_gen.proofs.workload.generate.Given as goal

abbrev pub invariant-loop-done : goal.invariant-loop-done
invariant-loop-done l = record {
  so_far : l.items.items ≡ items_drawn l.seed l.calls l.workers l.done;
  room : l.items.room + l.done ≡ l.calls + 1;
  state : l.x ≡ state_after l.seed l.done;
}
