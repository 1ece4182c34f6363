use Rattle.bz_judge.specs.Held.{IsImageOf}
use Rattle.bz_layout.specs.declared.config.Config.{Config}
use Rattle.bz_mark.specs.Moments.{at_moment}
use Rattle.bz_sound.specs.Calls.{map_after}
use Rattle.bz_sound.specs.Memory.Moments.{map_at_start}
use Rattle.bz_text.specs.Summing.{AreKeysOf, IsCountedTo}
use Rattle.bz_text.proofs.summing.sum_up.Given as goal

abbrev pub invariant-loop-moment : goal.invariant-loop-moment
invariant-loop-moment l = record {
  counted : IsCountedTo l.journal.past l.moment l.begins l.counts;
  keys : (c : Config) → IsImageOf c l.journal.start → AreKeysOf (map_after (map_at_start c l.journal.start) (at_moment l.moment l.journal.past)) l.keys.keys;
}
