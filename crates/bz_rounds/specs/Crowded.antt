-- The leaf of a key that has to be split, and the nodes above it that were found full on the way up: what they were they are, while
-- nobody's swap takes effect.
use Rattle.bz_ascent.specs.Ascents.{IsAscent}
use Rattle.bz_ascent.specs.declared.ascent.Ascent.{Ascent}
use Rattle.bz_stage.specs.Paths.{StandsOver}
use Rattle.bz_stage.specs.Swaps.{IsCrowdedBelow}
use Rattle.bz_content.specs.Content.{image_of}
use Rattle.bz_task.specs.Instant.{form_at}
use Rattle.bz_task.specs.Scene.{Scene, IsScene, here}
use Rattle.bz_task.specs.declared.view.LeafView.{LeafView}
use Rattle.bz_undisturbed.specs.Undisturbed.{IsUndisturbed}
use Rattle.bz_undisturbed.specs.FromRunning.MadeFor.{WasCrowded}

-- the node to which an ascent has come stands at a level on the way to its key; the leaf has to be split, and all nodes above it up to
-- this one are full
pub record IsRisen (a : Ascent) (s : Scene) : Type 0 where
  pub stands : StandsOver (form_at s.past.config (here s)) a.key ((form_at s.past.config (here s)).level a.node.slot) a.node.slot
  pub crowded : IsCrowdedBelow s.past.config (image_of (here s).image) a.key ((form_at s.past.config (here s)).level a.node.slot)

abbrev pub AscentsAreCrowded : Type 0
AscentsAreCrowded = (a : Ascent) (view : LeafView) (s : Scene) → IsScene s → IsUndisturbed 0 s.past → IsAscent a s.past → WasCrowded a.key view s.past → IsRisen a s
