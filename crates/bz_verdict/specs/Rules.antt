-- What each rule asks of marks and of the images between them, where the causes of a Full are judged as far as counts tell. The newest
-- mark stands first.
use Rattle.std.specs.Prelude.{List, ℕ, Bool, true, false}
use Rattle.bz_call.specs.declared.replies.Spent.{Spent}
use Rattle.bz_layout.specs.declared.config.Config.{Config}
use Rattle.bz_mark.specs.Moments.{AtEachMoment}
use Rattle.bz_mark.specs.WordsAfter.{words_after_marks, Found, IsTruthful}
use Rattle.bz_mark.specs.declared.marks.Mark.{Mark}
use Rattle.bz_mark.specs.declared.marks.Mark.TheVariants.{Fence, Evict, Effect}
use Rattle.bz_mark.specs.declared.power.Power.{Power}
use Rattle.bz_sound.specs.Calls.{Open}
use Rattle.bz_sound.specs.Memory.Moments.{map_at_start, EachMark}
use Rattle.bz_sound.specs.Memory.Replies.{HasRightReplyBy}
use Rattle.bz_sound.specs.Power.Calls.{MayFollow, CallsOnce}
use Rattle.bz_sound.specs.Replies.{Pages}
use Rattle.bz_check.specs.Replies.{IsSpentOf}
use Rattle.bz_check.specs.Rules.{HasShape, HasContent}
use Rattle.bz_check.specs.declared.verdict.JudgeRule.{JudgeRule}
use Rattle.bz_check.specs.declared.verdict.JudgeRule.TheVariants.{Truth, Calls, Reply, Shape, Content}

-- the cause of a Full as far as counts tell: nothing is asked of slots and of the height
abbrev pub IsCounted : Config → List Mark → ℕ → Open → Spent → Type 0
IsCounted c past w opened spent = IsSpentOf c past w spent

-- an End has the right reply, but for the causes
abbrev pub HasSeenReply : Config → List ℕ → Pages → List Mark → Mark → Type 0
HasSeenReply c start pages past mark = HasRightReplyBy (IsCounted c) c start pages past mark

-- these marks keep a rule
abbrev pub KeepsSeen : Config → Power → List ℕ → Pages → JudgeRule → List Mark → Type 0
KeepsSeen c at_start start pages Truth past = IsTruthful start past
KeepsSeen c at_start start pages Calls past = CallsOnce at_start (map_at_start c start) past
KeepsSeen c at_start start pages Reply past = EachMark (HasSeenReply c start pages) past
KeepsSeen c at_start start pages Shape past = AtEachMoment (HasShape c start) past
KeepsSeen c at_start start pages Content past = AtEachMoment (HasContent c start) past

-- these marks keep the rules of marks; nothing is asked by those of images
abbrev pub KeepsMarks : Config → Power → List ℕ → Pages → JudgeRule → List Mark → Type 0
KeepsMarks c at_start start pages Truth past = IsTruthful start past
KeepsMarks c at_start start pages Calls past = CallsOnce at_start (map_at_start c start) past
KeepsMarks c at_start start pages Reply past = EachMark (HasSeenReply c start pages) past
KeepsMarks c at_start start pages rule past = Unit {0}

-- one mark more keeps them
abbrev pub FollowsMarks : Config → Power → List ℕ → Pages → List Mark → Mark → JudgeRule → Type 0
FollowsMarks c at_start start pages past mark Truth = Found (words_after_marks start past) mark
FollowsMarks c at_start start pages past mark Calls = MayFollow at_start (map_at_start c start) past mark
FollowsMarks c at_start start pages past mark Reply = HasSeenReply c start pages past mark
FollowsMarks c at_start start pages past mark rule = Unit {0}

-- the mark may change the durable words or the map
abbrev pub may_change_image : Mark → Bool
may_change_image (Fence w) = true
may_change_image (Evict a) = true
may_change_image (Effect w n) = true
may_change_image mark = false
