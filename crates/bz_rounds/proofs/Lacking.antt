-- A frozen leaf has no room.
use Rattle.std.proofs.Common.{◌≡◌, ℕ, ◌<◌, true, List, arith, ap, ◌∙◌, inl}
use Rattle.bz_layout.specs.declared.sizes.TheConstants.{STATUS_AT}
use Rattle.bz_slotted.specs.Page.{Page, page}
use Rattle.bz_word.specs.Statuses.{status}
use Rattle.bz_content.specs.Content.{image_of}
use Rattle.bz_stage.specs.FromLeaves.Neighbours.{leaf_page}
use Rattle.bz_task.specs.Instant.{durable, page_at}
use Rattle.bz_task.specs.Scene.{Scene, IsScene, here}
use Rattle.bz_stage.proofs.Leaves.{stage-frozen}
use Rattle.bz_stage.specs.Stages.{full_above, frozen_stage, stage_of, stage_in}
use Rattle.bz_undisturbed.specs.Undisturbed.{IsUndisturbed}
use Rattle.bz_undisturbed.specs.FromRunning.MadeFor.{WasLeafOf}
use Rattle.bz_rounds.proofs.Undisturbed.{good-now, leaf-now, holds-now, below-top}

pub some : (p : Page) (full words : ℕ) → p.frozen ≡ true → 0 < stage_of p full words
some p full words frozen = let e : stage_of p full words ≡ frozen_stage p full = stage-frozen p full words frozen in omega (arith, e)

-- the leaf of a key that reads find frozen is frozen in the image, so that it takes no words
module _ (s : Scene) (good : IsScene s) (key : List ℕ) (k : ℕ) (alone : IsUndisturbed 0 s.past) (was : WasLeafOf key k s.past) (frozen : (page_at s.past.config (here s) k).frozen ≡ true) where
  reached : (here s).reached k ≡ true
  reached = (good-now s good).inside k (holds-now s good key k alone was).inside (below-top s good key k alone was)

  frozen-leaf : (leaf_page s.past.config (image_of (here s).image) key).frozen ≡ true
  frozen-leaf =
      ap (λ j. (page (durable s.past.config (here s) j)).frozen) (leaf-now s good key k alone was)
      ∙ (ap (λ z. (status z).frozen) ((good-now s good).shown k STATUS_AT reached (inl (omega arith))) ∙ frozen)

  pub lacks-room : (words : ℕ) → 0 < stage_in s.past.config (here s).image key words
  lacks-room words = some (leaf_page s.past.config (image_of (here s).image) key) (full_above s.past.config (image_of (here s).image) key) words frozen-leaf
