-- Where the nodes stand to which an ascent comes, while nobody's swap takes effect: one level higher from link to link up its path.
use Rattle.std.specs.Prelude.{◌≡◌, ℕ, ◌+◌, ◌-◌, ◌≤◌, Some, slice_get}
use Rattle.bz_ascent.specs.Ascents.{IsAscent}
use Rattle.bz_ascent.specs.declared.ascent.Ascent.{Ascent}
use Rattle.bz_task.specs.Instant.{form_at}
use Rattle.bz_task.specs.Scene.{Scene, IsScene, here}
use Rattle.bz_task.specs.declared.path.Link.{Link}
use Rattle.bz_task.specs.declared.view.LeafView.{LeafView}
use Rattle.bz_stage.specs.Stages.{stage_in}
use Rattle.bz_undisturbed.specs.Undisturbed.{IsUndisturbed}
use Rattle.bz_undisturbed.specs.FromRunning.Kinds.{level_of}
use Rattle.bz_undisturbed.specs.FromRunning.MadeFor.{WasCrowded}

-- the node is at the level that its place on the path tells, where the last link is among those of the path
abbrev pub AscentsStandAtLevels : Type 0
AscentsStandAtLevels =
    (a : Ascent) (last : Link) (s : Scene) → IsScene s → IsUndisturbed 0 s.past → IsAscent a s.past → slice_get a.path.links (a.path.depth - 1) ≡ Some last → (form_at s.past.config (here s)).level a.node.slot ≡ level_of a

-- so the stage of a key whose leaf has to be split is above that level, as the nodes below are full
abbrev pub UndisturbedAscentsAreBelowTheStage : Type 0
UndisturbedAscentsAreBelowTheStage =
    (a : Ascent) (last : Link) (view : LeafView) (words : ℕ) (s : Scene) → IsScene s → IsUndisturbed 0 s.past → IsAscent a s.past → slice_get a.path.links (a.path.depth - 1) ≡ Some last → WasCrowded a.key view s.past →
    level_of a + 1 ≤ stage_in s.past.config (here s).image a.key words
