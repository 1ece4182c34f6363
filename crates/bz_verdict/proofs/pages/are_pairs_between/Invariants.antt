use Rattle.std.specs.BTreeMap.Range.{entries_between}
use Rattle.std.specs.Cmp.Lexicographic.{slice_cmp}
use Rattle.std.specs.Ordering.{nat_cmp}
use Rattle.std.specs.declared.ops.Bound.TheVariants.{Included}
use Rattle.bz_verdict.proofs.Paging.{LeftAlike}
use Rattle.bz_verdict.proofs.pages.are_pairs_between.Given as goal

abbrev pub invariant-loop-key : goal.invariant-loop-key
invariant-loop-key l = LeftAlike l.shown (entries_between (slice_cmp nat_cmp) (Included l.fn.from) l.fn.end l.map.entries) l.i l.key-iterator
