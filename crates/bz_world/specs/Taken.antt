-- What the journal tells of the descriptors that are taken and of the slots that are left, since the power came on: just as many as the world tells while no call is
-- open. So it tells what a call took beside which no other was open. The newest mark stands first.
use Rattle.std.specs.Prelude.{◌≡◌, ℕ, ◌+◌, ◌-◌, true, List, None, Some}
use Rattle.bz_call.specs.declared.replies.Reply.{Reply}
use Rattle.bz_layout.specs.declared.config.Config.{Config}
use Rattle.bz_mark.specs.Moments.{at_moment}
use Rattle.bz_mark.specs.declared.marks.Mark.{Mark}
use Rattle.bz_mark.specs.declared.marks.Mark.TheVariants.{End}
use Rattle.bz_sound.specs.Calls.{Open, open_call}
use Rattle.bz_sound.specs.Solitary.{IsSolitary}
use Rattle.bz_sound.specs.Memory.Moments.{EachMark}
use Rattle.bz_mark.specs.Counts.{count_taken}
use Rattle.bz_sound.specs.Power.Spent.{count_used}
use Rattle.bz_mark.specs.Times.{since_on}
use Rattle.bz_mark.specs.declared.power.Power.TheVariants as power
use Rattle.bz_world.specs.Roomy.{HadRoom}
use Rattle.bz_world.specs.WorldView.{WorldView, Supply, power_in, tells_only, TakesAsTold}

-- so many descriptors are taken as the journal shows, and each slot is left that it does not show used
pub record IsAsShown (c : Config) (start : List ℕ) (past : List Mark) (supply : Supply) : Type 0 where
  pub taken : supply.taken ≡ count_taken c (since_on past)
  pub left : supply.left + count_used c start past ≡ c.nodes

-- no call of any worker is open
abbrev pub NoneOpen : List Mark → Type 0
NoneOpen past = (w : ℕ) → open_call w past ≡ None

-- while the power is on and no call is open, a world tells what its journal shows
abbrev pub TellsAsShown : WorldView → Type 0
TellsAsShown lab = power_in lab ≡ power.On → NoneOpen lab.log.past → IsAsShown lab.config lab.log.start lab.log.past lab.supply

-- what the journal tells then
abbrev pub supply_told : Config → List ℕ → List Mark → Supply
supply_told c start past = record { taken = count_taken c (since_on past); left = c.nodes - count_used c start past }

-- from its begin to its end a call takes nothing for a reply that tells of no change, and where its leaf had room as much as its reply tells
pub record TakesWhatItTells (c : Config) (start : List ℕ) (past : List Mark) (opened : Open) (reply : Reply) : Type 0 where
  pub unspent : tells_only reply ≡ true → supply_told c start past ≡ supply_told c start (at_moment opened.begun past)
  pub exact : HadRoom c start past opened → TakesAsTold (supply_told c start (at_moment opened.begun past)) (supply_told c start past) reply

-- of each End of a call beside which no other was open
abbrev pub EndFollows : Config → List ℕ → List Mark → Mark → Type 0
EndFollows c start past (End w n reply at) = (opened : Open) → open_call w past ≡ Some opened → IsSolitary w past → TakesWhatItTells c start past opened reply
EndFollows c start past mark = Unit {0}

abbrev pub AreEndsTold : Config → List ℕ → List Mark → Type 0
AreEndsTold c start past = EachMark (EndFollows c start) past
