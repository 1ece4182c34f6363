use Rattle.std.proofs.Common.{◌≡◌, ◌≤◌, ◌++◌, ℕ, length, get_or, take, drop}
use Rattle.bz_word.specs.declared.entry.Entry.{Entry}
use Rattle.bz_swap.specs.EntryLists.{inserted}
use Rattle.bz_swap.proofs.entry_list.EntryList.with.Given as goal

abbrev pub invariant-loop-i : goal.invariant-loop-i
invariant-loop-i l = record {
  long : length l.entries ≡ 4;
  rest : (k : ℕ) (d : Entry) → l.i ≤ k → get_or l.entries k d ≡ get_or l.self-inside.entries k d;
  part : take l.i l.entries ++ inserted l.carried (drop l.i (take l.self-inside.count l.self-inside.entries)) ≡ inserted l.fn.a (take l.self-inside.count l.self-inside.entries);
}
