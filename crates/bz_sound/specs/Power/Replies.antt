-- Right replies where the power fails and comes on again: what an ordered map answers at a moment of the call, as ever,
-- and for a Full what was spent since the power came on. The newest mark stands first.
use Rattle.std.specs.Prelude.{ℕ, List}
use Rattle.bz_layout.specs.declared.config.Config.{Config}
use Rattle.bz_mark.specs.declared.marks.Mark.{Mark}
use Rattle.bz_sound.specs.Replies.{Pages}
use Rattle.bz_sound.specs.Memory.Moments.{EachMark}
use Rattle.bz_sound.specs.Memory.Replies.{Answer, IsRightReplyBy, HasRightReplyBy}
use Rattle.bz_sound.specs.Power.Spent.{IsSpent}

abbrev pub IsRightReply : Config → List ℕ → Pages → List Mark → Answer → Type 0
IsRightReply c start pages past answer = IsRightReplyBy (IsSpent c start past answer.worker answer.opened) c start pages past answer

-- an End has the right reply to the open call of its worker
abbrev pub HasRightReply : Config → List ℕ → Pages → List Mark → Mark → Type 0
HasRightReply c start pages past mark = HasRightReplyBy (IsSpent c start) c start pages past mark

-- each End's reply is right
abbrev pub RepliesAreRight : Config → List ℕ → Pages → List Mark → Type 0
RepliesAreRight c start pages past = EachMark (HasRightReply c start pages) past
