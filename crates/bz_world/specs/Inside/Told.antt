-- What a world keeps beside its parts: what its journal tells of descriptors and slots, and of recoveries.
use Rattle.std.specs.Prelude.{◌≡◌, ℕ, ◌≤◌, List, length, Some}
use Rattle.bz_layout.specs.declared.config.Config.{Config}
use Rattle.bz_mark.specs.Moments.{at_moment}
use Rattle.bz_mark.specs.declared.marks.Mark.{Mark}
use Rattle.bz_sound.specs.Calls.{Open, open_call}
use Rattle.bz_sound.specs.Solitary.{IsSolitary}
use Rattle.bz_world.specs.Inside.Beginning.{world_view}
use Rattle.bz_world.specs.Inside.Kept.{IsKept}
use Rattle.bz_world.specs.Merges.{AreMergesMade}
use Rattle.bz_world.specs.Recoveries.{AreRecoveriesBrief}
use Rattle.bz_world.specs.Taken.{supply_told, AreEndsTold}
use Rattle.bz_world.specs.WorldView.{WorldView, Supply}
use Rattle.bz_world.specs.declared.parts.Parts.{Parts}

-- what was taken and left at the newest begin is what the journal told then, as long as that call is open and no other
pub record BeganAsTold (c : Config) (start : List ℕ) (past : List Mark) (begun : Supply) : Type 0 where
  pub by_now : (w : ℕ) (opened : Open) → open_call w past ≡ Some opened → IsSolitary w past → opened.begun ≤ length past
  pub told : (w : ℕ) (opened : Open) → open_call w past ≡ Some opened → IsSolitary w past → begun ≡ supply_told c start (at_moment opened.begun past)

-- so each End can be told
pub record TellsEnds (c : Config) (start : List ℕ) (past : List Mark) (begun : Supply) : Type 0 where
  pub ends : AreEndsTold c start past
  pub merges : AreMergesMade c start past
  pub began : BeganAsTold c start past begun

abbrev pub TellsEndsIn : WorldView → Type 0
TellsEndsIn lab = TellsEnds lab.config lab.log.start lab.log.past lab.at_begin

-- the parts of a world
pub record IsWorld (p : Parts) : Type 0 where
  pub kept : IsKept p
  pub tells : TellsEndsIn (world_view p)
  pub brief : AreRecoveriesBrief p.config p.at_start p.journal.past
