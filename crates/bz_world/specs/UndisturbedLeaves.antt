-- The number of leaves during a call beside which no other is open: it grows by one for each leaf of the call's key that had too many live words, and falls by one
-- for each that had too few. The newest mark stands first.
use Rattle.std.specs.Prelude.{◌≡◌, ℕ, ◌+◌, ◌<◌, ◌≤◌, true, false, List, [], ◌∷◌, length, Some}
use Rattle.bz_call.specs.Map.{key_of}
use Rattle.bz_content.specs.Content.{leaf_in}
use Rattle.bz_layout.specs.declared.config.Config.{Config}
use Rattle.bz_layout.specs.declared.thresholds.TheConstants.{MERGE_BELOW, SPLIT_ABOVE}
use Rattle.bz_mark.specs.Log.{Log}
use Rattle.bz_mark.specs.Moments.{at_moment}
use Rattle.bz_mark.specs.declared.marks.Mark.{Mark}
use Rattle.bz_tree.specs.Walk.{is_among}
use Rattle.bz_sound.specs.Calls.{Open, open_call}
use Rattle.bz_sound.specs.Solitary.{IsSolitary}
use Rattle.bz_sound.specs.Memory.Moments.{image_at}
use Rattle.bz_sound.specs.Memory.Spent.{is_reached_in}
use Rattle.bz_sound.specs.Power.Sound.{IsSound}
use Rattle.bz_mark.specs.declared.power.Power.{Power}
use Rattle.bz_world.specs.Leaves.{AreLeavesKept, in_tree, leaves_after, live_at}

-- at a moment of the call the leaf of its key was the one in this slot
pub record WasItsLeaf (c : Config) (start : List ℕ) (past : List Mark) (opened : Open) (slot : ℕ) : Type 0 where
  pub moment : ℕ
  pub after_begin : opened.begun < moment
  pub by_now : moment ≤ length past
  pub leaf : leaf_in c (image_at start moment past) (key_of opened.call) ≡ slot

-- at one the slot was in the tree, which it is not now
pub record HasLeft (c : Config) (start : List ℕ) (past : List Mark) (opened : Open) (slot : ℕ) : Type 0 where
  pub moment : ℕ
  pub after_begin : opened.begun < moment
  pub by_now : moment ≤ length past
  pub was : is_reached_in c (image_at start moment past) slot ≡ true
  pub gone : in_tree c start past slot ≡ false

-- that leaf had too many live words, and has left the tree; or it had too few
pub record WasSplit (c : Config) (start : List ℕ) (past : List Mark) (opened : Open) (slot : ℕ) : Type 0 where
  pub was : WasItsLeaf c start past opened slot
  pub many : SPLIT_ABOVE < live_at c start past opened was.moment
  pub left : HasLeft c start past opened slot

pub record WasMerged (c : Config) (start : List ℕ) (past : List Mark) (opened : Open) (slot : ℕ) : Type 0 where
  pub was : WasItsLeaf c start past opened slot
  pub few : live_at c start past opened was.moment < MERGE_BELOW
  pub left : HasLeft c start past opened slot

-- none stands twice
abbrev pub AreApart : List ℕ → Type 0
AreApart [] = Unit {0}
AreApart (slot ∷ rest) = (is_among rest slot ≡ false) × AreApart rest

-- since its begin the number has grown by that of some such leaves that were split, and fallen by that of some that were merged
pub record CountsItsLeaves (c : Config) (start : List ℕ) (past : List Mark) (opened : Open) : Type 0 where
  pub split : List ℕ
  pub merged : List ℕ
  pub split_each : (slot : ℕ) → is_among split slot ≡ true → WasSplit c start past opened slot
  pub merged_each : (slot : ℕ) → is_among merged slot ≡ true → WasMerged c start past opened slot
  pub split_apart : AreApart split
  pub merged_apart : AreApart merged
  pub count : leaves_after c start past + length merged ≡ leaves_after c start (at_moment opened.begun past) + length split

-- so it is of each call beside which no other is open, in a sound journal of which what becomes of leaves is known mark by mark
abbrev pub SolitaryCallsCountLeaves : Type 0
SolitaryCallsCountLeaves =
    (c : Config) (at_start : Power) (log : Log) (w : ℕ) (opened : Open) → IsSound c at_start log → AreLeavesKept c at_start log → open_call w log.past ≡ Some opened → IsSolitary w log.past →
    CountsItsLeaves c log.start log.past opened
