-- What a report says of the calls that a power cut left open.
use Rattle.std.specs.Prelude.{◌≡◌, ◌<◌, ◌↔◌, ℕ, Bool, true, List, length, Some}
use Rattle.bz_layout.specs.declared.config.Config.{Config}
use Rattle.bz_mark.specs.Log.{Log}
use Rattle.bz_mark.specs.Moments.{mark_at}
use Rattle.bz_mark.specs.declared.marks.Mark.{Mark}
use Rattle.bz_mark.specs.declared.marks.Mark.TheVariants.{Cut, Effect}
use Rattle.bz_sound.specs.Calls.{Open, open_call}
use Rattle.bz_sound.specs.Memory.Moments.{EachMark}
use Rattle.bz_sound.specs.Power.Sound.{IsSound}
use Rattle.bz_mark.specs.declared.power.Power.{Power}
use Rattle.bz_text.specs.Lines.{open_line, fate_line}

-- the journal has the Effect of this call, after its Begin
pub record HasEffect (past : List Mark) (w : ℕ) (opened : Open) : Type 0 where
  pub moment : ℕ
  pub after_begin : opened.begun < moment
  pub before_now : moment < length past
  pub mark : mark_at moment past ≡ Some (Effect w opened.number)

-- the line of an open call says `kept` where the journal has its Effect, and otherwise `lost`
pub record TellsFate (past : List Mark) (w : ℕ) (opened : Open) : Type 0 where
  pub kept : Bool
  pub line : open_line w (open_call w past) ≡ fate_line w opened.number opened.call kept
  pub is_right : (kept ≡ true) ↔ HasEffect past w opened

-- so it is at a cut for each call that was open
abbrev pub TellsFates : List Mark → Mark → Type 0
TellsFates past Cut = (w : ℕ) (opened : Open) → open_call w past ≡ Some opened → TellsFate past w opened
TellsFates past mark = Unit {0}

-- at each cut of a sound journal the report tells of each open call what became of it
abbrev pub FatesAreRight : Type 0
FatesAreRight = (c : Config) (at_start : Power) (log : Log) → IsSound c at_start log → EachMark TellsFates log.past
