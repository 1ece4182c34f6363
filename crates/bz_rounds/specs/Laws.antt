-- Each swap of a task that restructures the tree, in a round in which nobody else's took effect, lowers the stage of the key of its call.
use Rattle.std.specs.Prelude.{ℕ, ◌+◌, ◌≤◌, List}
use Rattle.bz_ascent.specs.Ascents.{IsAscent}
use Rattle.bz_ascent.specs.declared.ascent.Ascent.{Ascent}
use Rattle.bz_tally.specs.FromBelow.Duties.{asks_below, facts_below}
use Rattle.bz_tally.specs.FromBelow.SplitBelow.{SplitBelow}
use Rattle.bz_undisturbed.specs.FromConsol.Duties as consol
use Rattle.bz_undisturbed.specs.FromConsol.Consolidate.{Consolidate}
use Rattle.bz_undisturbed.specs.FromCrown.Duties.{asks_crown, facts_crown}
use Rattle.bz_undisturbed.specs.FromCrown.SplitInnerRoot.{SplitInnerRoot}
use Rattle.bz_undisturbed.specs.FromFork.Duties.{asks_fork, facts_fork}
use Rattle.bz_undisturbed.specs.FromFork.SplitInner.{SplitInner}
use Rattle.bz_freeze.specs.Facts.{freeze_asks, freeze_facts}
use Rattle.bz_freeze.specs.declared.freeze.Freeze.{Freeze}
use Rattle.bz_layout.specs.declared.thresholds.TheConstants.{LEAF_RECORD_WORDS}
use Rattle.bz_tally.specs.FromSplit.Duties as split
use Rattle.bz_tally.specs.FromSplit.SplitRoot.{SplitRoot}
use Rattle.bz_task.specs.Instant.{Instant}
use Rattle.bz_task.specs.Scene.{Scene, here}
use Rattle.bz_word.specs.declared.entry.Entry.{Entry}
use Rattle.bz_undisturbed.specs.FromRunning.Duties.{config_of, asks_of, facts_of}
use Rattle.bz_undisturbed.specs.FromRunning.MadeFor.{WasLeafOf, LackedWords, IsSmallCopy, AreLargeHalves, HasComeTo, IsMadeFor}
use Rattle.bz_undisturbed.specs.FromRunning.AnyTask.{AnyTask}
use Rattle.bz_rounds.specs.Falls.{Falls, GivesRoom}
use Rattle.bz_rounds.specs.Undisturbed.{IsUndisturbedSwap}

-- a freeze of the key's leaf, where that lacked the words
abbrev pub UndisturbedFreezesLowerTheStage : Type 0
UndisturbedFreezesLowerTheStage =
    (t : Freeze) (key : List ℕ) (words : ℕ) (entries : List Entry) (s : Scene) (y : Instant) →
    IsUndisturbedSwap t.config (freeze_asks t.config t.slot t.status t.phase) (freeze_facts t.slot t.status t.phase) entries s y →
    LackedWords key words t.slot s.past → Falls s.past.config (here s) y key words

-- the copy of a leaf has room for any record, and one word more
abbrev pub UndisturbedCopiesGiveRoom : Type 0
UndisturbedCopiesGiveRoom =
    (t : Consolidate) (key read : List ℕ) (words : ℕ) (entries : List Entry) (s : Scene) (y : Instant) → IsUndisturbedSwap t.config (consol.asks_of t) (consol.facts_of t) entries s y → WasLeafOf key t.link.slot s.past →
    IsSmallCopy read t.image.0 → words ≤ LEAF_RECORD_WORDS + 1 → GivesRoom s.past.config (here s) y key words

-- so have the halves of a root leaf
abbrev pub UndisturbedRootLeafSplitsGiveRoom : Type 0
UndisturbedRootLeafSplitsGiveRoom =
    (t : SplitRoot) (key read : List ℕ) (words : ℕ) (entries : List Entry) (s : Scene) (y : Instant) → IsUndisturbedSwap t.config (split.asks_of t) (split.facts_of t) entries s y → WasLeafOf key t.link.slot s.past →
    AreLargeHalves read t.halves.left.0 t.halves.right.0 t.halves.separator → words ≤ LEAF_RECORD_WORDS + 1 → GivesRoom s.past.config (here s) y key words

-- and those of a leaf below a parent
abbrev pub UndisturbedLeafSplitsGiveRoom : Type 0
UndisturbedLeafSplitsGiveRoom =
    (t : SplitBelow) (key read : List ℕ) (words : ℕ) (entries : List Entry) (s : Scene) (y : Instant) → IsUndisturbedSwap t.config (asks_below t) (facts_below t) entries s y → WasLeafOf key t.lower.slot s.past →
    AreLargeHalves read t.halves.left.0 t.halves.right.0 t.halves.separator → words ≤ LEAF_RECORD_WORDS + 1 → GivesRoom s.past.config (here s) y key words

-- the split of a full node on the way up, below a parent
abbrev pub UndisturbedInnerSplitsLowerTheStage : Type 0
UndisturbedInnerSplitsLowerTheStage =
    (t : SplitInner) (a : Ascent) (key : List ℕ) (words : ℕ) (entries : List Entry) (s : Scene) (y : Instant) → IsUndisturbedSwap t.config (asks_fork t) (facts_fork t) entries s y →
    IsAscent a s.past → HasComeTo key t.middle.slot a s.past → Falls s.past.config (here s) y key words

-- and that of a full root
abbrev pub UndisturbedRootSplitsLowerTheStage : Type 0
UndisturbedRootSplitsLowerTheStage =
    (t : SplitInnerRoot) (a : Ascent) (key : List ℕ) (words : ℕ) (entries : List Entry) (s : Scene) (y : Instant) → IsUndisturbedSwap t.config (asks_crown t) (facts_crown t) entries s y →
    IsAscent a s.past → HasComeTo key t.upper.slot a s.past → Falls s.past.config (here s) y key words

-- so whichever of these a task is: its swap lowers the stage of the key that it was made for, for the words that it was made for
abbrev pub UndisturbedSwapsLowerTheStage : Type 0
UndisturbedSwapsLowerTheStage =
    (t : AnyTask) (key : List ℕ) (words : ℕ) (entries : List Entry) (s : Scene) (y : Instant) → IsUndisturbedSwap (config_of t) (asks_of t) (facts_of t) entries s y →
    IsMadeFor t key words s.past → words ≤ LEAF_RECORD_WORDS + 1 → Falls s.past.config (here s) y key words
