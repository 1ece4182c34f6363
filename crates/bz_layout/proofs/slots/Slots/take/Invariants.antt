use Rattle.std.proofs.Common.{◌≡◌, ◌++◌, take, drop}
use Rattle.bz_layout.proofs.slots.Slots.take.Given as goal

abbrev pub invariant-loop-place : goal.invariant-loop-place
invariant-loop-place l = record {
  taken : l.out ≡ take l.place l.fn.self.free ++ drop l.place l.fn.out;
  free : l.self.free ≡ drop l.place l.fn.self.free;
  nodes : l.self.nodes ≡ l.fn.self.nodes;
}
