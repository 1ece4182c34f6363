use Rattle.std.proofs.Common.{◌≡◌, ◌<◌, ◌+◌, ◌*◌, ℕ, length, get_or}
use Rattle.bz_word.specs.declared.entry.Entry.{Entry}
use Rattle.bz_swap.proofs.entry_list.EntryList.words.Given as goal

abbrev pub invariant-loop-i : goal.invariant-loop-i
invariant-loop-i l = record {
  long : length l.words ≡ 13;
  count : get_or l.words 0 0 ≡ l.self-inside.count;
  target : (k : ℕ) (d : Entry) → k < l.i → get_or l.words (1 + 3 * k) 0 ≡ (get_or l.self-inside.entries k d).target;
  expected : (k : ℕ) (d : Entry) → k < l.i → get_or l.words (2 + 3 * k) 0 ≡ (get_or l.self-inside.entries k d).expected;
  rest : (k : ℕ) → 3 * l.i < k → get_or l.words k 0 ≡ 0;
  value : (k : ℕ) (d : Entry) → k < l.i → get_or l.words (3 + 3 * k) 0 ≡ (get_or l.self-inside.entries k d).new;
}
