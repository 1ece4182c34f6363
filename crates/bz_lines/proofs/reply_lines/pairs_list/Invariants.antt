use Rattle.std.proofs.Common.{◌≡◌, map, take}
use Rattle.serde_json.specs.View.{view}
use Rattle.bz_lines.specs.Objects.{pair_data}
use Rattle.bz_lines.proofs.reply_lines.pairs_list.Given as goal

abbrev pub invariant-loop-key : goal.invariant-loop-key
invariant-loop-key l = map view l.list.items ≡ map pair_data (take l.key-index l.pairs)
