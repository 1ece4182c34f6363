use Rattle.std.proofs.Common.{◌≡◌, ◌≤◌, ◌*◌, ◌^◌, take}
use Rattle.std.specs.List.{sum_by}
use Rattle.bz_node.specs.Reading.{metas_in, words_shown}
use Rattle.bz_node.proofs.reading.live_words_of.Given as goal

abbrev pub invariant-loop-i : goal.invariant-loop-i
invariant-loop-i l = record {
  live : l.live ≡ sum_by words_shown (take l.i (metas_in l.words));
  small : l.live ≤ 2 ^ 17 * l.i;
}
