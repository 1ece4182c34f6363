-- A sound journal over a memory, and a journal of calls that run alone.
use Rattle.std.specs.Prelude.{◌≡◌, ℕ, List, None, length}
use Rattle.bz_layout.specs.Addresses.{words_of}
use Rattle.bz_layout.specs.declared.config.Config.{Config}
use Rattle.bz_mark.specs.Log.{Log, count_page_ends}
use Rattle.bz_mark.specs.Moments.{AtEachMoment}
use Rattle.bz_mark.specs.WordsAfter.{IsTruthful}
use Rattle.bz_mark.specs.declared.marks.Mark.{Mark}
use Rattle.bz_mark.specs.declared.marks.Mark.TheVariants.{Begin, Evict, Cut}
use Rattle.bz_sound.specs.Calls.{open_call}
use Rattle.bz_sound.specs.Memory.Moments.{map_at_start, Decodes, EachMark}
use Rattle.bz_sound.specs.Memory.Calls.{CallsOnce}
use Rattle.bz_sound.specs.Memory.Replies.{RepliesAreRight}

-- The start has the words of the configuration; each load and compare-and-swap found what stood there; calls stand
-- once, with right replies, and each page is one that an End names; and at every moment but those before an Effect
-- the durable words alone decode to the map.
pub record IsSound (c : Config) (log : Log) : Type 0 where
  pub size : length log.start ≡ words_of c
  pub truthful : IsTruthful log.start log.past
  pub once : CallsOnce (map_at_start c log.start) log.past
  pub replies : RepliesAreRight c log.start log.pages log.past
  pub pages : length log.pages ≡ count_page_ends log.past
  pub durable : AtEachMoment (Decodes c log.start) log.past

-- a call begins while no other is open; nothing is evicted, and the power is not cut
abbrev pub StandsApart : List Mark → Mark → Type 0
StandsApart past (Begin w n call) = (v : ℕ) → open_call v past ≡ None
StandsApart past (Evict a) = ⊥
StandsApart past Cut = ⊥
StandsApart past mark = Unit {0}

-- calls run one after the other
abbrev pub IsApart : List Mark → Type 0
IsApart past = EachMark StandsApart past
