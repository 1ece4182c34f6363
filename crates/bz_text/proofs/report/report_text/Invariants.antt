use Rattle.std.proofs.Common.{◌≡◌}
use Rattle.bz_judge.specs.Held.{IsImageOf}
use Rattle.bz_layout.specs.declared.config.Config.{Config}
use Rattle.bz_mark.specs.Moments.{at_moment}
use Rattle.bz_sound.specs.Calls.{map_after}
use Rattle.bz_sound.specs.Memory.Moments.{map_at_start}
use Rattle.bz_text.specs.Reading.{AreTold, IsReadTo}
use Rattle.bz_text.specs.Report.{pairs_at_on, parts_text}
use Rattle.bz_text.specs.Summing.{AreKeysOf}
use Rattle.bz_text.proofs.report.report_text.Given as goal

abbrev pub invariant-loop-moment : goal.invariant-loop-moment
invariant-loop-moment l = record {
  table : IsReadTo l.journal.past l.moment l.begins l.ended.items;
  told : AreTold l.journal.past l.moment l.effects;
  keys : (c : Config) → IsImageOf c l.journal.start → AreKeysOf (map_after (map_at_start c l.journal.start) (at_moment l.moment l.journal.past)) l.keys.keys;
  on : (c : Config) → IsImageOf c l.journal.start → l.on ≡ pairs_at_on (map_at_start c l.journal.start) (at_moment l.moment l.journal.past);
  parts : (c : Config) → IsImageOf c l.journal.start → l.out.items ≡ parts_text c l.journal (at_moment l.moment l.journal.past);
}
