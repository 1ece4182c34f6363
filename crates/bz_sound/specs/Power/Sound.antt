-- A sound journal over a memory whose power fails and comes on again.
use Rattle.std.specs.Prelude.{◌≡◌, length}
use Rattle.bz_layout.specs.Addresses.{words_of}
use Rattle.bz_layout.specs.declared.config.Config.{Config}
use Rattle.bz_mark.specs.Log.{Log, count_page_ends}
use Rattle.bz_mark.specs.Moments.{AtEachMoment}
use Rattle.bz_mark.specs.WordsAfter.{IsTruthful}
use Rattle.bz_mark.specs.declared.power.Power.{Power}
use Rattle.bz_sound.specs.Memory.Moments.{map_at_start, Decodes}
use Rattle.bz_sound.specs.Power.Calls.{CallsOnce}
use Rattle.bz_sound.specs.Power.Replies.{RepliesAreRight}

-- The start has the words of the configuration; each load and compare-and-swap found what stood there; calls stand
-- once, with right replies, and each page is one that an End names; and at every moment but those before an Effect,
-- those of a cut and of recovery among them, the durable words alone decode to the map.
pub record IsSound (c : Config) (at_start : Power) (log : Log) : Type 0 where
  pub size : length log.start ≡ words_of c
  pub truthful : IsTruthful log.start log.past
  pub once : CallsOnce at_start (map_at_start c log.start) log.past
  pub replies : RepliesAreRight c log.start log.pages log.past
  pub pages : length log.pages ≡ count_page_ends log.past
  pub durable : AtEachMoment (Decodes c log.start) log.past
