-- Whichever of the tasks that restructure it is: its swap lowers the stage of the key.
use Rattle.std.proofs.Common.{◌≡◌, ℕ, List, Option, arith, ◌∙◌}
use Rattle.bz_layout.specs.declared.config.Config.{Config}
use Rattle.bz_word.specs.declared.entry.Entry.{Entry}
use Rattle.bz_task.specs.Instant.{Instant}
use Rattle.bz_task.specs.Outcomes.{IsView}
use Rattle.bz_task.specs.Scene.{Past, Scene, Stage, here}
use Rattle.bz_task.specs.declared.todo.Todo.{Todo}
use Rattle.bz_task.specs.declared.view.LeafView.{LeafView}
use Rattle.bz_undisturbed.specs.FromRunning.Duties.{view_of}
use Rattle.bz_undisturbed.specs.FromRunning.MadeFor.{WasLeafOf, IsMadeFor}
use Rattle.bz_undisturbed.specs.FromRunning.AnyTask.TheVariants.{Seeking, Finding, Reading, Inserting, Updating, Deleting, Freezing, Consolidating, Splitting, SplittingBelow, SplittingInner, SplittingInnerRoot, Merging, MergingInner, Lowering}
use Rattle.bz_rounds.specs.Falls.{Falls, GivesRoom}
use Rattle.bz_rounds.specs.Laws.{UndisturbedSwapsLowerTheStage}
use Rattle.bz_rounds.specs.Undisturbed.{IsUndisturbedSwap}
use Rattle.bz_rounds.proofs.Copying.{copies}
use Rattle.bz_rounds.proofs.Freezing.{freezes}
use Rattle.bz_rounds.proofs.HalvingBelow.{halves-below}
use Rattle.bz_rounds.proofs.HalvingInner.{inner-halves}
use Rattle.bz_rounds.proofs.PartingRoot.{root-parts}
use Rattle.bz_rounds.proofs.RootHalving.{root-halves}

-- where there is room and was none, the stage has fallen
falls : (c : Config) (x y : Instant) (key : List ℕ) (words : ℕ) → GivesRoom c x y key words → Falls c x y key words
falls c x y key words g = omega (arith, g.lacked, g.room)

-- the viewed leaf
pub viewed : (key : List ℕ) (view : LeafView) (slot : ℕ) (p : Past) → IsView key view p → view.slot ≡ slot → WasLeafOf key slot p
viewed key view slot p is at = record { moment = view.at; since = is.since; now = is.now; leaf = is.leaf ∙ at }

-- what a split on the way up knows beside its own is left out
pub own : (c : Config) (asked : Option Todo) (facts more : Stage → Scene → Type 0) (entries : List Entry) (s : Scene) (y : Instant) → IsUndisturbedSwap c asked (λ stage s. facts stage s × more stage s) entries s y → IsUndisturbedSwap c asked facts entries s y
own c asked facts more entries s y l = record { config = l.config; good = l.good; knows = l.knows.0; asks = l.asks; alone = l.alone; leads = l.leads }

pub undisturbed-swaps : UndisturbedSwapsLowerTheStage
unfolding view_of IsMadeFor
undisturbed-swaps (Seeking t) key words entries s y l m few = absurd m
undisturbed-swaps (Finding t) key words entries s y l m few = absurd m
undisturbed-swaps (Reading t) key words entries s y l m few = absurd m
undisturbed-swaps (Inserting t) key words entries s y l m few = absurd m
undisturbed-swaps (Updating t) key words entries s y l m few = absurd m
undisturbed-swaps (Deleting t) key words entries s y l m few = absurd m
undisturbed-swaps (Freezing t) key words entries s y l m few = freezes t key words entries s y l m
undisturbed-swaps (Consolidating t) key words entries s y l m few =
    falls s.past.config (here s) y key words (copies t key m.view.image.0 words entries s y l (viewed key m.view t.link.slot s.past m.is m.at) m.small few)
undisturbed-swaps (Splitting t) key words entries s y l m few =
    falls s.past.config (here s) y key words (root-halves t key m.view.image.0 words entries s y l (viewed key m.view t.link.slot s.past m.leaf.is m.at) (record { halves = m.halves; many = m.leaf.many }) few)
undisturbed-swaps (SplittingBelow t a) key words entries s y l m few =
    let h = m.halves in
    falls s.past.config (here s) y key words (halves-below t key h.view.image.0 words entries s y (own _ _ _ _ entries s y l) (viewed key h.view t.lower.slot s.past h.leaf.is h.at) (record { halves = h.halves; many = h.leaf.many }) few)
undisturbed-swaps (SplittingInner t a) key words entries s y l m few = inner-halves t a key words entries s y (own _ _ _ _ entries s y l) l.knows.1.0 m.come
undisturbed-swaps (SplittingInnerRoot t a) key words entries s y l m few = root-parts t a key words entries s y (own _ _ _ _ entries s y l) l.knows.1.0 m.come
undisturbed-swaps (Merging t) key words entries s y l m few = absurd m
undisturbed-swaps (MergingInner t) key words entries s y l m few = absurd m
undisturbed-swaps (Lowering t) key words entries s y l m few = absurd m
