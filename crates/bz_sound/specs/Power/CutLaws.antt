-- What a power cut, power on and the end of recovery leave as it was.
use Rattle.std.specs.Prelude.{◌≡◌, ◌↔◌, ℕ, List, ◌∷◌, None}
use Rattle.bz_layout.specs.declared.config.Config.{Config}
use Rattle.bz_call.specs.Map.{Map}
use Rattle.bz_mark.specs.WordsAfter.{words_after_marks}
use Rattle.bz_mark.specs.declared.marks.Mark.{Mark}
use Rattle.bz_mark.specs.declared.marks.Mark.TheVariants.{Cut, On, Ready}
use Rattle.bz_sound.specs.Calls.{open_call, begun_calls, map_after}
use Rattle.bz_sound.specs.Memory.History.{Happening}
use Rattle.bz_sound.specs.Memory.Moments.{Decodes}
use Rattle.bz_sound.specs.Power.History.{Happens}

-- what a cut after these marks leaves
pub record CutLeaves (c : Config) (start : List ℕ) (past : List Mark) : Type 0 where
  -- the durable words, which are then the cached ones too
  pub durable : (words_after_marks start (Cut ∷ past)).durable ≡ (words_after_marks start past).durable
  pub cached : (words_after_marks start (Cut ∷ past)).cached ≡ (words_after_marks start past).durable
  -- the map, and so whether the durable words decode to it
  pub map : (map : Map) → map_after map (Cut ∷ past) ≡ map_after map past
  pub decodes : Decodes c start (Cut ∷ past) ↔ Decodes c start past
  -- the calls that happened: none is lost, and none added
  pub happened : (h : Happening) → Happens (Cut ∷ past) h ↔ Happens past h
  -- no call is open any more, and each worker's numbers go on
  pub none_open : (w : ℕ) → open_call w (Cut ∷ past) ≡ None
  pub numbers : (w : ℕ) → begun_calls w (Cut ∷ past) ≡ begun_calls w past

abbrev pub CutsLeave : Type 0
CutsLeave = (c : Config) (start : List ℕ) (past : List Mark) → CutLeaves c start past

-- a mark leaves all words, the map, and who has an open call
pub record LeavesAll (start : List ℕ) (past : List Mark) (mark : Mark) : Type 0 where
  pub words : words_after_marks start (mark ∷ past) ≡ words_after_marks start past
  pub map : (map : Map) → map_after map (mark ∷ past) ≡ map_after map past
  pub calls : (w : ℕ) → open_call w (mark ∷ past) ≡ open_call w past

-- so do power on and the end of recovery
abbrev pub PowerMarksLeave : Type 0
PowerMarksLeave = (start : List ℕ) (past : List Mark) → LeavesAll start past On × LeavesAll start past Ready
