use Rattle.std.proofs.Common.{◌≡◌, ◌++◌, map, drop}
use Rattle.serde_json.specs.View.{view}
use Rattle.bz_lines.specs.Objects.{word_pairs}
use Rattle.bz_lines.proofs.head_line.words_list.Given as goal

abbrev pub invariant-loop-a : goal.invariant-loop-a
invariant-loop-a l = map view l.list.items ++ word_pairs l.a (drop l.a l.words) ≡ word_pairs 0 l.words
