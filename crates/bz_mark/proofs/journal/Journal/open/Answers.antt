use Rattle.std.proofs.Common.{arith, rules}
use Rattle.bz_mark.proofs.KeptLemmas.{no_tables}
use Rattle.bz_mark.proofs.journal.Journal.open.Goals as goal

pub invariant_of-result : goal.invariant_of-result
invariant_of-result c = record {
  tables = no_tables _ _ _ c.in_ok-with_capacity-2.ensures.items c.in_ok-with_capacity-3.ensures.items c.in_ok-with_capacity.ensures.items;
  few_marks = rw c.in_ok-with_capacity.ensures.items (omega arith);
  few_calls = rw c.in_ok-with_capacity-2.ensures.items (omega arith);
  few_replies = rw c.in_ok-with_capacity-3.ensures.items (omega arith);
  fits = search rules;
  marks_room = omega (arith, c.in_ok-with_capacity.ensures.exact);
  calls_room = omega (arith, c.in_ok-with_capacity-2.ensures.exact);
  replies_room = omega (arith, c.in_ok-with_capacity-3.ensures.exact);
}
