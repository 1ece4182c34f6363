-- Whichever of the tasks that restructure it is: what its swap leaves.
use Rattle.std.proofs.Common.{ℕ, List, arith}
use Rattle.bz_ascent.specs.Ascents.{IsAscent}
use Rattle.bz_ascent.specs.declared.ascent.Ascent.{Ascent}
use Rattle.bz_content.specs.Content.{image_of}
use Rattle.bz_task.specs.Instant.{Instant, form_at}
use Rattle.bz_task.specs.Scene.{Scene, IsScene, here}
use Rattle.bz_stage.specs.Laws.{LeavesALevel}
use Rattle.bz_undisturbed.specs.Undisturbed.{IsUndisturbed}
use Rattle.bz_undisturbed.specs.FromRunning.AnyTask.TheVariants.{Seeking, Finding, Reading, Inserting, Updating, Deleting, Freezing, Consolidating, Splitting, SplittingBelow, SplittingInner, SplittingInnerRoot, Merging, MergingInner, Lowering}
use Rattle.bz_undisturbed.specs.FromRunning.Duties.{view_of}
use Rattle.bz_undisturbed.specs.FromRunning.Kinds.{kind_of}
use Rattle.bz_undisturbed.specs.FromRunning.MadeFor.{IsMadeFor}
use Rattle.bz_rounds.specs.Falls.{Falls}
use Rattle.bz_rounds.specs.Left.{HasSplit, UndisturbedSwapsLeave}
use Rattle.bz_rounds.proofs.Whichever.{viewed, own}
use Rattle.bz_rounds.proofs.Copying.{copies}
use Rattle.bz_rounds.proofs.Freezing.{freezes}
use Rattle.bz_rounds.proofs.HalvingBelow.{halves-below}
use Rattle.bz_rounds.proofs.HalvingInner.{inner-halves, inner-halves-leave}
use Rattle.bz_rounds.proofs.Levels.{ascents-stand}
use Rattle.bz_rounds.proofs.PartingRoot.{root-parts, root-parts-leave}
use Rattle.bz_rounds.proofs.RootHalving.{root-halves}

-- a node that was split, at the level that its ascent tells
has-split : (a : Ascent) (key : List ℕ) (words : ℕ) (s : Scene) (y : Instant) → IsScene s → IsUndisturbed 0 s.past → IsAscent a s.past → Falls s.past.config (here s) y key words
    → LeavesALevel s.past.config (image_of y.image) key words ((form_at s.past.config (here s)).level a.node.slot) → HasSplit s.past.config (here s) y key words a
has-split a key words s y good alone up falls l = record {
  falls = falls;
  few = omega (arith, l.stage_within, l.one_higher);
  stage_within = λ last end. omega (arith, l.stage_within, ascents-stand a last s good alone up end);
  one_higher = λ last end. omega (arith, l.one_higher, ascents-stand a last s good alone up end);
}

pub undisturbed-left : UndisturbedSwapsLeave
unfolding view_of kind_of IsMadeFor
undisturbed-left (Seeking t) key words entries s y l m few = absurd m
undisturbed-left (Finding t) key words entries s y l m few = absurd m
undisturbed-left (Reading t) key words entries s y l m few = absurd m
undisturbed-left (Inserting t) key words entries s y l m few = absurd m
undisturbed-left (Updating t) key words entries s y l m few = absurd m
undisturbed-left (Deleting t) key words entries s y l m few = absurd m
undisturbed-left (Freezing t) key words entries s y l m few = freezes t key words entries s y l m
undisturbed-left (Consolidating t) key words entries s y l m few = copies t key m.view.image.0 words entries s y l (viewed key m.view t.link.slot s.past m.is m.at) m.small few
undisturbed-left (Splitting t) key words entries s y l m few =
    root-halves t key m.view.image.0 words entries s y l (viewed key m.view t.link.slot s.past m.leaf.is m.at) (record { halves = m.halves; many = m.leaf.many }) few
undisturbed-left (SplittingBelow t a) key words entries s y l m few =
    let h = m.halves in
    halves-below t key h.view.image.0 words entries s y (own _ _ _ _ entries s y l) (viewed key h.view t.lower.slot s.past h.leaf.is h.at) (record { halves = h.halves; many = h.leaf.many }) few
undisturbed-left (SplittingInner t a) key words entries s y l m few =
    has-split a key words s y l.good l.alone l.knows.1.0 (inner-halves t a key words entries s y (own _ _ _ _ entries s y l) l.knows.1.0 m.come) (inner-halves-leave t a key words entries s y (own _ _ _ _ entries s y l) l.knows.1.0 m.come)
undisturbed-left (SplittingInnerRoot t a) key words entries s y l m few =
    has-split a key words s y l.good l.alone l.knows.1.0 (root-parts t a key words entries s y (own _ _ _ _ entries s y l) l.knows.1.0 m.come) (root-parts-leave t a key words entries s y (own _ _ _ _ entries s y l) l.knows.1.0 m.come)
undisturbed-left (Merging t) key words entries s y l m few = absurd m
undisturbed-left (MergingInner t) key words entries s y l m few = absurd m
undisturbed-left (Lowering t) key words entries s y l m few = absurd m
