-- What was viewed of the key's leaf, while nobody's swap takes effect: it is so now, and tells whether the stage of the key is 0.
use Rattle.std.specs.Prelude.{◌≡◌, ℕ, ◌+◌, ◌<◌, true, false, List}
use Rattle.bz_tally.specs.FromRecord.Records.{HasRoom, LacksRoom}
use Rattle.bz_stage.specs.Stages.{stage_in}
use Rattle.bz_word.specs.Statuses.{status}
use Rattle.bz_task.specs.Outcomes.{IsView, IsKeyView}
use Rattle.bz_task.specs.Scene.{Scene, IsScene, here}
use Rattle.bz_task.specs.declared.view.KeyView.{KeyView}
use Rattle.bz_task.specs.declared.view.LeafView.{LeafView}
use Rattle.bz_undisturbed.specs.Undisturbed.{IsUndisturbed}

-- a leaf with this status has no room now: not for a record of so many words and its metadata word, and if it is frozen for nothing. Or
-- it has, and if it is not frozen for the change of a delete, which asks for no words
pub record TellsTheStage (st : ℕ) (key : List ℕ) (s : Scene) : Type 0 where
  pub lacks : (words : ℕ) → LacksRoom st words → 0 < stage_in s.past.config (here s).image key (words + 1)
  pub frozen : (status st).frozen ≡ true → (words : ℕ) → 0 < stage_in s.past.config (here s).image key words
  pub has : (words : ℕ) → HasRoom st words → stage_in s.past.config (here s).image key (words + 1) ≡ 0
  pub thawed : (status st).frozen ≡ false → stage_in s.past.config (here s).image key 0 ≡ 0

-- the status of the key's leaf where the key was looked up, and where the leaf was read whole
abbrev pub UndisturbedKeyViewsTellTheStage : Type 0
UndisturbedKeyViewsTellTheStage = (key : List ℕ) (view : KeyView) (s : Scene) → IsScene s → IsUndisturbed 0 s.past → IsKeyView key view s.past → TellsTheStage view.status key s

abbrev pub UndisturbedViewsTellTheStage : Type 0
UndisturbedViewsTellTheStage = (key : List ℕ) (view : LeafView) (s : Scene) → IsScene s → IsUndisturbed 0 s.past → IsView key view s.past → TellsTheStage view.status key s

-- the leaf that was read whole is the one in which the key was looked up, with the status that it had then
pub record IsSameLeaf (view : KeyView) (whole : LeafView) : Type 0 where
  pub slot : whole.slot ≡ view.slot
  pub status : whole.status ≡ view.status

abbrev pub UndisturbedViewsAgree : Type 0
UndisturbedViewsAgree = (key : List ℕ) (view : KeyView) (whole : LeafView) (s : Scene) → IsScene s → IsUndisturbed 0 s.past → IsKeyView key view s.past → IsView key whole s.past → IsSameLeaf view whole
