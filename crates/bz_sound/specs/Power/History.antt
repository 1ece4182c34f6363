-- One history where the power fails: a call that is open at a cut is pending, and happened if it has an Effect.
use Rattle.std.specs.Prelude.{◌≡◌, ◌<◌, ◌⊎◌, ℕ, List, length, Some}
use Rattle.bz_layout.specs.declared.config.Config.{Config}
use Rattle.bz_call.specs.declared.replies.Reply.{Reply}
use Rattle.bz_mark.specs.Log.{Log}
use Rattle.bz_mark.specs.Moments.{at_moment, mark_at}
use Rattle.bz_mark.specs.declared.marks.Mark.{Mark}
use Rattle.bz_mark.specs.declared.marks.Mark.TheVariants.{Cut}
use Rattle.bz_mark.specs.declared.power.Power.{Power}
use Rattle.bz_sound.specs.Calls.{Open, open_call}
use Rattle.bz_sound.specs.Memory.History.{Happening, EndedCall, AreSteps}
use Rattle.bz_sound.specs.Power.Sound.{IsSound}

-- the marks end at this moment, or the power fails
abbrev pub Breaks : ℕ → List Mark → Type 0
Breaks moment past = (moment ≡ length past) ⊎ ((moment < length past) × (mark_at moment past ≡ Some Cut))

-- a call is pending that is open at the end or at a cut
pub record IsPending (past : List Mark) (w : ℕ) (opened : Open) : Type 0 where
  pub moment : ℕ
  pub breaks : Breaks moment past
  pub is_open : open_call w (at_moment moment past) ≡ Some opened

-- one that has an Effect happened there
pub record PendingCall (past : List Mark) (h : Happening) : Type 0 where
  pub pending : IsPending past h.worker h.opened
  pub took : h.opened.effect ≡ Some h.at

-- these are the calls that happened: those that ended without Full, and those that are pending and took effect
abbrev pub Happens : List Mark → Happening → Type 0
Happens past h = ((moment : ℕ) × (reply : Reply) × EndedCall past h moment reply) ⊎ PendingCall past h

-- the calls that happened are steps of one map, in the order of their moments
abbrev pub IsOneHistory : Config → Log → Type 0
IsOneHistory c log = AreSteps (Happens log.past) c log

-- so they are in every sound journal
abbrev pub OneHistory : Type 0
OneHistory = (c : Config) (at_start : Power) (log : Log) → IsSound c at_start log → IsOneHistory c log
