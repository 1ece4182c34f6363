use Rattle.std.proofs.Common.{◌≡◌, ◌<◌, drop, length}
use Rattle.std.specs.List.{AllByRecursion}
use Rattle.bz_check.specs.Restored.{restored}
use Rattle.bz_check.proofs.settle.restore.Given as goal

abbrev pub invariant-loop-a : goal.invariant-loop-a
invariant-loop-a l = record {
  within : AllByRecursion (λ a. a < length l.durable) (drop l.a-index l.stored);
  rest : restored (drop l.a-index l.stored) l.cached l.durable ≡ restored l.stored l.fn.cached l.durable;
}
