use Rattle.std.proofs.Common.{◌≡◌, ◌≤◌, ◌+◌, ◌-◌}
use Rattle.bz_sound.proofs.Memory.Counts.{passing}
use Rattle.bz_check.specs.Tables.{is_other_in}
use Rattle.bz_check.proofs.table.Table.others.Given as goal

abbrev pub invariant-loop-i : goal.invariant-loop-i
invariant-loop-i l = record {
  few : l.count ≤ l.i;
  rest : l.count + passing (λ v. is_other_in l.self l.w v) (l.i + 1) (l.workers - l.i) ≡ passing (λ v. is_other_in l.self l.w v) 1 l.workers;
}
