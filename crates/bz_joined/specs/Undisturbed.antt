-- The swaps of a merge of the key's leaf: its freezes, where nobody else's swap took effect since its look-up began, and the swap that turns
-- the link to the parent, wherever its expected values stand.
use Rattle.std.specs.Prelude.{◌≡◌, ℕ, ◌+◌, ◌≤◌, true, List}
use Rattle.bz_freeze.specs.Facts.{freeze_asks, freeze_facts}
use Rattle.bz_freeze.specs.declared.freeze.Freeze.{Freeze as SingleFreeze}
use Rattle.bz_layout.specs.declared.thresholds.TheConstants.{LEAF_RECORD_WORDS, SPLIT_ABOVE}
use Rattle.bz_merge.specs.Duties.{asks_of, facts_of}
use Rattle.bz_merge.specs.declared.merge.Merge.{Merge}
use Rattle.bz_merge.specs.declared.phase.MergePhase.TheVariants.{Freeze, FreezeBeside, Swap}
use Rattle.bz_slotted.specs.Records.{live_words}
use Rattle.bz_word.specs.Statuses.{status}
use Rattle.bz_word.specs.declared.entry.Entry.{Entry}
use Rattle.bz_content.specs.Content.{image_of}
use Rattle.bz_stage.specs.FromLeaves.Neighbours.{leaf_page}
use Rattle.bz_task.specs.Instant.{Instant}
use Rattle.bz_task.specs.Scene.{Scene, here}
use Rattle.bz_stage.specs.Stages.{stage_in}
use Rattle.bz_rounds.specs.FromAlone.MadeFor.{WasLeafOf}
use Rattle.bz_rounds.specs.Falls.{GivesRoom}
use Rattle.bz_rounds.specs.Undisturbed.{IsUndisturbedSwap}
use Rattle.bz_rounds.specs.FromTally.Swaps.{IsOwnSwap}

-- that of the neighbour of the key's leaf, which was frozen when it was viewed, leaves the stage
abbrev pub UndisturbedFreezesBesideKeepTheStage : Type 0
UndisturbedFreezesBesideKeepTheStage =
    (t : Merge) (key : List ℕ) (words : ℕ) (entries : List Entry) (s : Scene) (y : Instant) → IsUndisturbedSwap t.config (asks_of t) (facts_of t) entries s y →
    t.phase ≡ FreezeBeside → (status t.status).frozen ≡ true → WasLeafOf key t.lower.slot s.past → stage_in s.past.config y.image key words ≡ stage_in s.past.config (here s).image key words

-- and the key's leaf as it is
abbrev pub UndisturbedFreezesBesideKeepTheLeaf : Type 0
UndisturbedFreezesBesideKeepTheLeaf =
    (t : Merge) (key : List ℕ) (entries : List Entry) (s : Scene) (y : Instant) → IsUndisturbedSwap t.config (asks_of t) (facts_of t) entries s y →
    t.phase ≡ FreezeBeside → (status t.status).frozen ≡ true → WasLeafOf key t.lower.slot s.past → leaf_page s.past.config (image_of y.image) key ≡ leaf_page s.past.config (image_of (here s).image) key

-- that of the key's leaf, where it has no more live words than it may keep, leaves it one copy away from room
abbrev pub UndisturbedOwnFreezesLeaveACopy : Type 0
UndisturbedOwnFreezesLeaveACopy =
    (t : Merge) (key : List ℕ) (words : ℕ) (entries : List Entry) (s : Scene) (y : Instant) → IsUndisturbedSwap t.config (asks_of t) (facts_of t) entries s y →
    t.phase ≡ Freeze → WasLeafOf key t.lower.slot s.past → live_words (leaf_page s.past.config (image_of (here s).image) key) ≤ SPLIT_ABOVE → stage_in s.past.config y.image key words ≡ 1

-- the one leaf in the place of the two has room for any record, and one word more; before there was none
abbrev pub MergeSwapsGiveRoom : Type 0
MergeSwapsGiveRoom =
    (t : Merge) (key : List ℕ) (words : ℕ) (entries : List Entry) (s : Scene) (y : Instant) → IsOwnSwap t.config (asks_of t) (facts_of t) entries s y →
    t.phase ≡ Swap → WasLeafOf key t.lower.slot s.past → words ≤ LEAF_RECORD_WORDS + 1 → GivesRoom s.past.config (here s) y key words

-- the freeze of the key's leaf by itself leaves it frozen
abbrev pub UndisturbedFreezesFreezeTheLeaf : Type 0
UndisturbedFreezesFreezeTheLeaf =
    (t : SingleFreeze) (key : List ℕ) (entries : List Entry) (s : Scene) (y : Instant) → IsUndisturbedSwap t.config (freeze_asks t.config t.slot t.status t.phase) (freeze_facts t.slot t.status t.phase) entries s y →
    WasLeafOf key t.slot s.past → (leaf_page s.past.config (image_of y.image) key).frozen ≡ true
