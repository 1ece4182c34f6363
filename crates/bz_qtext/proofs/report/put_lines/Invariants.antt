use Rattle.std.proofs.Common.{◌≡◌, ◌++◌, take}
use Rattle.std.specs.List.{flat_map}
use Rattle.bz_qtext.specs.Lines.{line_of}
use Rattle.bz_qtext.proofs.report.put_lines.Given as goal

abbrev pub invariant-loop-ended : goal.invariant-loop-ended
invariant-loop-ended l = l.out.items ≡ l.initial.out.items ++ flat_map line_of (take l.ended-index l.calls)
