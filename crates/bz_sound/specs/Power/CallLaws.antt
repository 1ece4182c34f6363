-- What sound journals tell of their calls where the power fails and comes on again.
use Rattle.std.specs.Prelude.{◌≡◌, ◌<◌, ℕ, List, length, Some, None}
use Rattle.bz_layout.specs.declared.config.Config.{Config}
use Rattle.bz_call.specs.declared.replies.Reply.{Reply}
use Rattle.bz_call.specs.declared.replies.Reply.TheVariants.{Full}
use Rattle.bz_call.specs.declared.replies.Spent.{Spent}
use Rattle.bz_mark.specs.Log.{Log}
use Rattle.bz_mark.specs.Moments.{at_moment, mark_at}
use Rattle.bz_mark.specs.declared.marks.Mark.{Mark}
use Rattle.bz_mark.specs.declared.marks.Mark.TheVariants.{End, Load, Store, Cas, Ask, Fence, Effect}
use Rattle.bz_mark.specs.declared.power.Power.{Power}
use Rattle.bz_sound.specs.Calls.{Open, open_call}
use Rattle.bz_sound.specs.Memory.CallLaws.{IsLastCall, LiesWithin, TellsAChange}
use Rattle.bz_sound.specs.Memory.Moments.{IsAfterFence}
use Rattle.bz_sound.specs.Memory.OpenCallLaws.{LeavesRoom}
use Rattle.bz_sound.specs.Power.Calls.{MayAct}
use Rattle.bz_sound.specs.Power.Sound.{IsSound}
use Rattle.bz_sound.specs.Power.Spent.{IsSpent}

-- an open call is the last that its worker began, and the worker is not 0
abbrev pub OpenCallsAreLast : Type 0
OpenCallsAreLast = (c : Config) (at_start : Power) (log : Log) (w : ℕ) (opened : Open) → IsSound c at_start log → open_call w log.past ≡ Some opened → IsLastCall log.past w opened

-- while a call is open there is room for its End, and for its page if it asks for one
abbrev pub OpenCallsLeaveRoom : Type 0
OpenCallsLeaveRoom = (c : Config) (at_start : Power) (log : Log) (w : ℕ) (opened : Open) → IsSound c at_start log → open_call w log.past ≡ Some opened → LeavesRoom log.past opened.call

-- an act is one of worker 0 in recovery, or of a worker whose call is open
pub record ActsTell (at_start : Power) (log : Log) (moment w : ℕ) : Type 0 where
  pub load : (a v : ℕ) → mark_at moment log.past ≡ Some (Load w a v) → MayAct at_start (at_moment moment log.past) w
  pub store : (a v : ℕ) → mark_at moment log.past ≡ Some (Store w a v) → MayAct at_start (at_moment moment log.past) w
  pub compare_and_swap : (a old new found : ℕ) → mark_at moment log.past ≡ Some (Cas w a old new found) → MayAct at_start (at_moment moment log.past) w
  pub ask : (line : ℕ) → mark_at moment log.past ≡ Some (Ask w line) → MayAct at_start (at_moment moment log.past) w
  pub fence : mark_at moment log.past ≡ Some (Fence w) → MayAct at_start (at_moment moment log.past) w

abbrev pub ActsAreAllowed : Type 0
ActsAreAllowed = (c : Config) (at_start : Power) (log : Log) (moment w : ℕ) → IsSound c at_start log → moment < length log.past → ActsTell at_start log moment w

-- an Effect stands directly after a fence or an eviction
abbrev pub EffectsComeDirectly : Type 0
EffectsComeDirectly =
    (c : Config) (at_start : Power) (log : Log) (moment w n : ℕ) → IsSound c at_start log → moment < length log.past → mark_at moment log.past ≡ Some (Effect w n) →
    IsAfterFence (at_moment moment log.past)

-- no call takes effect twice, before and after a cut
abbrev pub EffectsStandOnce : Type 0
EffectsStandOnce =
    (c : Config) (at_start : Power) (log : Log) (first second w n : ℕ) → IsSound c at_start log → first < length log.past → second < length log.past →
    mark_at first log.past ≡ Some (Effect w n) → mark_at second log.past ≡ Some (Effect w n) → first ≡ second

-- the moment that an End names lies within its call
abbrev pub EndsLieWithinTheirCalls : Type 0
EndsLieWithinTheirCalls =
    (c : Config) (at_start : Power) (log : Log) (moment w n at : ℕ) (reply : Reply) → IsSound c at_start log → moment < length log.past →
    mark_at moment log.past ≡ Some (End w n reply at) → LiesWithin log.past w n at moment

-- a call that tells a change took effect, at the moment that its End names
abbrev pub ToldChangesTookEffect : Type 0
ToldChangesTookEffect =
    (c : Config) (at_start : Power) (log : Log) (moment w n at : ℕ) (reply : Reply) → IsSound c at_start log → moment < length log.past →
    mark_at moment log.past ≡ Some (End w n reply at) → TellsAChange reply → mark_at at log.past ≡ Some (Effect w n)

-- a call that is answered Full changed nothing, and what the reply names was spent since the power came on
pub record HasCause (c : Config) (start : List ℕ) (past : List Mark) (w : ℕ) (spent : Spent) : Type 0 where
  pub opened : Open
  pub is_open : open_call w past ≡ Some opened
  pub quiet : opened.effect ≡ None
  pub cause : IsSpent c start past w opened spent

abbrev pub FullHasACause : Type 0
FullHasACause =
    (c : Config) (at_start : Power) (log : Log) (moment w n at : ℕ) (spent : Spent) → IsSound c at_start log → moment < length log.past →
    mark_at moment log.past ≡ Some (End w n (Full spent) at) → HasCause c log.start (at_moment moment log.past) w spent
