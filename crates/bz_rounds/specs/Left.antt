-- What the own swap of a task that restructures leaves of the stage of its key, by which kind of task it is.
use Rattle.std.specs.Prelude.{◌≡◌, ℕ, ◌+◌, ◌-◌, ◌≤◌, List, Some, slice_get}
use Rattle.bz_ascent.specs.Ascents.{IsAscent}
use Rattle.bz_ascent.specs.declared.ascent.Ascent.{Ascent}
use Rattle.bz_undisturbed.specs.FromCrown.Duties.{asks_crown, facts_crown}
use Rattle.bz_undisturbed.specs.FromCrown.SplitInnerRoot.{SplitInnerRoot}
use Rattle.bz_undisturbed.specs.FromFork.Duties.{asks_fork, facts_fork}
use Rattle.bz_undisturbed.specs.FromFork.SplitInner.{SplitInner}
use Rattle.bz_layout.specs.declared.config.Config.{Config}
use Rattle.bz_layout.specs.declared.thresholds.TheConstants.{LEAF_RECORD_WORDS, MAX_LEVELS}
use Rattle.bz_word.specs.declared.entry.Entry.{Entry}
use Rattle.bz_content.specs.Content.{image_of}
use Rattle.bz_task.specs.Instant.{Instant, form_at}
use Rattle.bz_task.specs.Scene.{Scene, here}
use Rattle.bz_task.specs.declared.path.Link.{Link}
use Rattle.bz_stage.specs.Laws.{LeavesALevel}
use Rattle.bz_stage.specs.Stages.{stage_in}
use Rattle.bz_undisturbed.specs.FromRunning.AnyTask.{AnyTask}
use Rattle.bz_undisturbed.specs.FromRunning.Duties.{config_of, asks_of, facts_of}
use Rattle.bz_undisturbed.specs.FromRunning.Kinds.{Kind, Seek, Find, ReadWhole, Insert, Update, Delete, Freeze, Copy, SplitRootLeaf, SplitLeaf, SplitNode, SplitRootNode, Merge, MergeNodes, LowerRoot, kind_of, level_of}
use Rattle.bz_undisturbed.specs.FromRunning.MadeFor.{HasComeTo, IsMadeFor}
use Rattle.bz_rounds.specs.Falls.{Falls, GivesRoom}
use Rattle.bz_rounds.specs.Undisturbed.{IsUndisturbedSwap}

-- after the split of a full node on the way up the stage is at most the level of that node, and there is one level more above it
abbrev pub UndisturbedInnerSplitsLeaveALevel : Type 0
UndisturbedInnerSplitsLeaveALevel =
    (t : SplitInner) (a : Ascent) (key : List ℕ) (words : ℕ) (entries : List Entry) (s : Scene) (y : Instant) → IsUndisturbedSwap t.config (asks_fork t) (facts_fork t) entries s y →
    IsAscent a s.past → HasComeTo key t.middle.slot a s.past → LeavesALevel s.past.config (image_of y.image) key words ((form_at s.past.config (here s)).level a.node.slot)

-- so it is after that of a full root
abbrev pub UndisturbedRootSplitsLeaveALevel : Type 0
UndisturbedRootSplitsLeaveALevel =
    (t : SplitInnerRoot) (a : Ascent) (key : List ℕ) (words : ℕ) (entries : List Entry) (s : Scene) (y : Instant) → IsUndisturbedSwap t.config (asks_crown t) (facts_crown t) entries s y →
    IsAscent a s.past → HasComeTo key t.upper.slot a s.past → LeavesALevel s.past.config (image_of y.image) key words ((form_at s.past.config (here s)).level a.node.slot)

-- of the node to which an ascent has come, where the last link is among those of its path
pub record HasSplit (c : Config) (x y : Instant) (key : List ℕ) (words : ℕ) (a : Ascent) : Type 0 where
  pub falls : Falls c x y key words
  pub few : stage_in c y.image key words + 2 ≤ MAX_LEVELS
  pub stage_within : (last : Link) → slice_get a.path.links (a.path.depth - 1) ≡ Some last → stage_in c y.image key words ≤ level_of a
  pub one_higher : (last : Link) → slice_get a.path.links (a.path.depth - 1) ≡ Some last → level_of a + 2 ≤ MAX_LEVELS

-- by the kind of the task: a freeze lowers the stage; a copy and a split of the leaf leave room; and the split of a node above lowers it, and
-- leaves levels above
abbrev pub IsLeft : Kind → Config → Instant → Instant → List ℕ → ℕ → Type 0
IsLeft Seek c x y key words = Unit {0}
IsLeft Find c x y key words = Unit {0}
IsLeft ReadWhole c x y key words = Unit {0}
IsLeft Insert c x y key words = Unit {0}
IsLeft Update c x y key words = Unit {0}
IsLeft Delete c x y key words = Unit {0}
IsLeft Freeze c x y key words = Falls c x y key words
IsLeft Copy c x y key words = GivesRoom c x y key words
IsLeft SplitRootLeaf c x y key words = GivesRoom c x y key words
IsLeft (SplitLeaf a) c x y key words = GivesRoom c x y key words
IsLeft (SplitNode a) c x y key words = HasSplit c x y key words a
IsLeft (SplitRootNode a) c x y key words = HasSplit c x y key words a
IsLeft Merge c x y key words = Unit {0}
IsLeft MergeNodes c x y key words = Unit {0}
IsLeft LowerRoot c x y key words = Unit {0}

abbrev pub UndisturbedSwapsLeave : Type 0
UndisturbedSwapsLeave =
    (t : AnyTask) (key : List ℕ) (words : ℕ) (entries : List Entry) (s : Scene) (y : Instant) → IsUndisturbedSwap (config_of t) (asks_of t) (facts_of t) entries s y →
    IsMadeFor t key words s.past → words ≤ LEAF_RECORD_WORDS + 1 → IsLeft (kind_of t) s.past.config (here s) y key words
