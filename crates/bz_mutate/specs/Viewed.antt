-- A viewed leaf that has the key, and the record that was found there.
use Rattle.std.specs.Prelude.{◌≡◌, ◌≢◌, ℕ, true, false, List, Some, None}
use Rattle.bz_record.specs.FromSlotted.Page.{visible, meta_of}
use Rattle.bz_task.specs.Outcomes.{IsKeyView}
use Rattle.bz_task.specs.Scene.{Scene}
use Rattle.bz_task.specs.declared.view.Found.{Found}
use Rattle.bz_task.specs.declared.view.KeyView.{KeyView}
use Rattle.bz_record.specs.Finding.{record_of}
use Rattle.bz_record.specs.declared.found_record.FoundRecord.{FoundRecord}

-- the key's leaf was viewed, with the key in it
pub record HasViewed (key : List ℕ) (v : KeyView) (s : Scene) : Type 0 where
  pub view : IsKeyView key v s.past
  pub present : v.found ≢ None
  pub going : s.effected ≡ false

-- the metadata word of the record that was found is a visible record's
abbrev pub IsVisible : KeyView → Type 0
IsVisible v = (found : Found) → v.found ≡ Some found → visible (meta_of found.meta) ≡ true

-- the record is the one that was found
pub record IsFound (v : KeyView) (f : FoundRecord) : Type 0 where
  pub found : Found
  pub is : v.found ≡ Some found
  pub place : f ≡ record_of found
