-- While nobody's swap takes effect all that tells the stage of a key stands; and what was viewed of the key's leaf is so now.
use Rattle.std.specs.Prelude.{◌≡◌, ℕ, nat_lt, List}
use Rattle.bz_layout.specs.declared.config.Config.{Config}
use Rattle.bz_layout.specs.declared.thresholds.TheConstants.{SPLIT_ABOVE}
use Rattle.bz_slotted.specs.Readers.{live_of}
use Rattle.bz_slotted.specs.ReadingLaws.{node_of}
use Rattle.bz_slotted.specs.Records.{live_words}
use Rattle.bz_word.specs.Statuses.{status}
use Rattle.bz_content.specs.Content.{image_of, view_in}
use Rattle.bz_stage.specs.FromLeaves.Neighbours.{leaf_page}
use Rattle.bz_task.specs.Instant.{Instant}
use Rattle.bz_task.specs.Outcomes.{IsView, IsKeyView}
use Rattle.bz_task.specs.Scene.{Scene, IsScene, here}
use Rattle.bz_task.specs.declared.view.KeyView.{KeyView}
use Rattle.bz_task.specs.declared.view.LeafView.{LeafView}
use Rattle.bz_stage.specs.Rooms.{is_crowded}
use Rattle.bz_stage.specs.Stages.{stage_in}
use Rattle.bz_undisturbed.specs.Undisturbed.{IsUndisturbed}
use Rattle.bz_undisturbed.specs.Quiet.{IsQuietSince, IsIn}

-- the key's leaf is frozen or not, crowded or not, with the live words that it had, the tree is as high as it was, and the stage is the same,
-- for however many words
pub record SameStage (c : Config) (x y : Instant) (key : List ℕ) : Type 0 where
  pub frozen : (leaf_page c (image_of y.image) key).frozen ≡ (leaf_page c (image_of x.image) key).frozen
  pub crowded : is_crowded (leaf_page c (image_of y.image) key) ≡ is_crowded (leaf_page c (image_of x.image) key)
  pub live : live_words (leaf_page c (image_of y.image) key) ≡ live_words (leaf_page c (image_of x.image) key)
  pub height : (view_in c y.image).height ≡ (view_in c x.image).height
  pub stage : (words : ℕ) → stage_in c y.image key words ≡ stage_in c x.image key words

-- at each two moments of a quiet time, whichever is the later one
abbrev pub StagesStand : Type 0
StagesStand = (s : Scene) (m i j : ℕ) (key : List ℕ) → IsScene s → IsQuietSince m s.past → IsIn m s.past i → IsIn m s.past j → SameStage s.past.config (s.past.at i) (s.past.at j) key

-- the leaf is frozen now where it was when the key was looked up
abbrev pub UndisturbedKeyViewsTellTheLeaf : Type 0
UndisturbedKeyViewsTellTheLeaf =
    (key : List ℕ) (view : KeyView) (s : Scene) → IsScene s → IsUndisturbed 0 s.past → IsKeyView key view s.past → (leaf_page s.past.config (image_of (here s).image) key).frozen ≡ (status view.status).frozen

-- and it is frozen and crowded now where it was when it was read whole
pub record IsAsViewed (key : List ℕ) (view : LeafView) (s : Scene) : Type 0 where
  pub frozen : (leaf_page s.past.config (image_of (here s).image) key).frozen ≡ (status view.status).frozen
  pub crowded : is_crowded (leaf_page s.past.config (image_of (here s).image) key) ≡ nat_lt SPLIT_ABOVE (live_of (node_of view.image.0))

abbrev pub UndisturbedViewsTellTheLeaf : Type 0
UndisturbedViewsTellTheLeaf = (key : List ℕ) (view : LeafView) (s : Scene) → IsScene s → IsUndisturbed 0 s.past → IsView key view s.past → IsAsViewed key view s
