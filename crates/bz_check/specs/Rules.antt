-- What each rule asks of a journal's marks, and of one mark more. The newest mark stands first.
use Rattle.std.specs.Prelude.{◌≡◌, List, ℕ, None, length}
use Rattle.std.specs.FinMap.{get}
use Rattle.bz_layout.specs.Addresses.{words_of}
use Rattle.bz_layout.specs.declared.config.Config.{Config}
use Rattle.bz_call.specs.Map.{Map}
use Rattle.bz_content.specs.Content.{image_fault, content_in}
use Rattle.bz_mark.specs.Log.{Log, count_page_ends}
use Rattle.bz_mark.specs.Moments.{AtEachMoment}
use Rattle.bz_mark.specs.WordsAfter.{words_after_marks, Found, IsTruthful}
use Rattle.bz_mark.specs.declared.marks.Mark.{Mark}
use Rattle.bz_mark.specs.declared.power.Power.{Power}
use Rattle.bz_sound.specs.Calls.{map_after}
use Rattle.bz_sound.specs.Memory.Moments.{image_after, map_at_start}
use Rattle.bz_sound.specs.Power.Calls.{MayFollow, CallsOnce}
use Rattle.bz_sound.specs.Power.Replies.{RepliesAreRight}
use Rattle.bz_sound.specs.Replies.{Pages}
use Rattle.bz_check.specs.Replies.{HasPlainReply, PlainRepliesAreRight}
use Rattle.bz_check.specs.declared.verdict.JudgeRule.{JudgeRule}
use Rattle.bz_check.specs.declared.verdict.JudgeRule.TheVariants.{Truth, Calls, Reply, Shape, Content}

-- the durable words after these marks are well formed
abbrev pub HasShape : Config → List ℕ → List Mark → Type 0
HasShape c start past = image_fault c (image_after start past) ≡ None

-- they hold for each key what the map has
abbrev pub HasContent : Config → List ℕ → List Mark → Type 0
HasContent c start past = (key : List ℕ) → content_in c (image_after start past) key ≡ get (map_after (map_at_start c start) past) key

-- these marks keep a rule
abbrev pub KeepsRule : Config → Power → List ℕ → Pages → JudgeRule → List Mark → Type 0
KeepsRule c at_start start pages Truth past = IsTruthful start past
KeepsRule c at_start start pages Calls past = CallsOnce at_start (map_at_start c start) past
KeepsRule c at_start start pages Reply past = RepliesAreRight c start pages past
KeepsRule c at_start start pages Shape past = AtEachMoment (HasShape c start) past
KeepsRule c at_start start pages Content past = AtEachMoment (HasContent c start) past

-- a journal has the words of its configuration, and as many pages as its Ends name: what is asked of it beside the five rules
pub record IsFormed (c : Config) (log : Log) : Type 0 where
  pub size : length log.start ≡ words_of c
  pub pages : length log.pages ≡ count_page_ends log.past

-- a journal is sound up to a moment where its marks until then keep each rule
abbrev pub IsSoundTo : Config → Power → Log → List Mark → Type 0
IsSoundTo c at_start log past = (rule : JudgeRule) → KeepsRule c at_start log.start log.pages rule past

-- these marks keep the rules of truth and of calls, and their replies are right as far as the map and counts tell; nothing is asked by
-- the other rules. The map was this one at the start
abbrev pub KeepsJudged : Config → Power → List ℕ → Map → JudgeRule → List Mark → Type 0
KeepsJudged c at_start start map Truth past = IsTruthful start past
KeepsJudged c at_start start map Calls past = CallsOnce at_start map past
KeepsJudged c at_start start map Reply past = PlainRepliesAreRight c map past
KeepsJudged c at_start start map rule past = Unit {0}

-- one mark more keeps them
abbrev pub FollowsJudged : Config → Power → List ℕ → Map → List Mark → Mark → JudgeRule → Type 0
FollowsJudged c at_start start map past mark Truth = Found (words_after_marks start past) mark
FollowsJudged c at_start start map past mark Calls = MayFollow at_start map past mark
FollowsJudged c at_start start map past mark Reply = HasPlainReply c map past mark
FollowsJudged c at_start start map past mark rule = Unit {0}
