use Rattle.std.proofs.Common.{◌≡◌, ◌-◌}
use Rattle.std.specs.Prelude.{slice_index}
use Rattle.bz_content.specs.Resolving.{count_in, entry_for}
use Rattle.bz_judge.proofs.resolving.entry_of.Given as goal

abbrev pub invariant-loop-i : goal.invariant-loop-i
invariant-loop-i l = entry_for (slice_index l.image) l.swap l.a 0 (count_in (slice_index l.image) l.swap) ≡ entry_for (slice_index l.image) l.swap l.a l.i (count_in (slice_index l.image) l.swap - l.i)
