-- What is known, while no other call is open, of a delete that leaves its leaf too small to stand alone: it tells so, looks once more at its leaf, and merges it.
use Rattle.std.specs.Prelude.{◌≡◌, ◌≢◌, ◌⊎◌, ◌≤◌, ◌<◌, ◌+◌, ◌&&◌, ℕ, suc, nat_lt, Bool, true, false, Option, Some, None}
use Rattle.bz_call.specs.Map.{key_of}
use Rattle.bz_call.specs.declared.replies.Spent.TheVariants.{Nodes, Swaps}
use Rattle.bz_content.specs.Content.{view_in}
use Rattle.bz_stage.specs.FromLeaves.Neighbours.{MayBeMerged}
use Rattle.bz_layout.specs.declared.config.Config.{Config}
use Rattle.bz_layout.specs.declared.swaps.TheConstants.{DELETE_SWAPS, MERGE_SWAPS}
use Rattle.bz_layout.specs.declared.thresholds.TheConstants.{MERGE_SLOTS}
use Rattle.bz_solo.specs.FromAlone.Counts.{HasOthers}
use Rattle.bz_solo.specs.FromJoined.Neighbours.{KnowsItsLeaf}
use Rattle.bz_solo.specs.FromTally.Leaves.{leaves_in}
use Rattle.bz_solo.specs.declared.rest.Rest.TheVariants as rest
use Rattle.bz_mark.specs.Log.{Log}
use Rattle.bz_mark.specs.Moments.{at_moment}
use Rattle.bz_any_task.specs.Duties.{end_of, leaves_few_of, made_of, needs_of, swaps_of, wants_of}
use Rattle.bz_any_task.specs.Kinds as kinds
use Rattle.bz_any_task.specs.Kinds.{Kind, kind_of}
use Rattle.bz_sound.specs.Calls.{Open}
use Rattle.bz_sound.specs.Solitary.{IsSolitary}
use Rattle.bz_mark.specs.Counts.{count_taken}
use Rattle.bz_sound.specs.Power.Spent.{count_used}
use Rattle.bz_mark.specs.Times.{since_on}
use Rattle.bz_task.specs.Scene.{Past}
use Rattle.bz_task.specs.declared.path.Path.{Path}
use Rattle.bz_task.specs.declared.todo.Outcome.{Outcome}
use Rattle.bz_task.specs.declared.todo.Outcome.TheVariants.{Done, Full}
use Rattle.bz_world.specs.Inside.Exact.{Reach, seeks}
use Rattle.bz_world.specs.Inside.Paid.{Stock}
use Rattle.bz_world.specs.Merges.{LacksForMerge}
use Rattle.bz_world.specs.WorldView.{is_delete}
use Rattle.bz_world.specs.declared.serving.OpenCall.{OpenCall}

-- directly after an effect: how many descriptors the journal shows taken, and how many slots used
abbrev pub taken_then : Config → Log → ℕ → ℕ
taken_then c log at = count_taken c (since_on (at_moment (suc at) log.past))

abbrev pub used_then : Config → Log → ℕ → ℕ
used_then c log at = count_used c log.start (at_moment (suc at) log.past)

-- how many leaves the tree has at a moment
abbrev pub leaves_at : Past → ℕ → ℕ
leaves_at p m = leaves_in p.config (p.at m).image

-- nobody's swap took effect since this moment
pub record StoodSince (m : ℕ) (p : Past) : Type 0 where
  pub by_now : m ≤ p.now
  pub still : (p.at p.now).effects ≡ (p.at m).effects

-- no more was taken than the journal shows directly after the effect, since which nobody's swap took effect
pub record IsStanding (c : Config) (log : Log) (at : ℕ) (p : Past) (r : Reach) (stock : Stock) : Type 0 where
  pub stood : StoodSince (suc at) p
  pub taken : r.taken ≤ taken_then c log at
  pub left : c.nodes ≤ stock.left + used_then c log at

-- the way to its leaf leads there from another node
abbrev pub is_below : Option Path → Bool
is_below None = false
is_below (Some path) = nat_lt 1 path.depth

-- its task is a delete which tells that little is left in a leaf below another node
abbrev pub tells_few : OpenCall → Bool
tells_few x = is_below x.path && leaves_few_of x.task

-- its own swap took effect, of which its task is to be told, or was
pub record IsTellingFew (r : Reach) (x : OpenCall) : Type 0 where
  pub kind : kind_of x.task ≡ kinds.Delete
  pub wants : wants_of x.task ≡ 0
  pub few : tells_few x ≡ true
  pub waits : end_of x.task ≡ None → (r.untold ≡ 1) × (swaps_of x.task ≤ 1)
  pub ends : (o : Outcome) → end_of x.task ≡ Some o → o ≡ Done

-- it looks for its leaf once more, or reads it whole
abbrev pub looks_on : Kind → Bool
looks_on kinds.Seek = true
looks_on kinds.ReadWhole = true
looks_on other = false

pub record IsLookingOn (p : Past) (x : OpenCall) : Type 0 where
  pub looks : looks_on (kind_of x.task) ≡ true
  pub first : kind_of x.task ≡ kinds.Seek → x.rest ≡ rest.Leaf
  pub alone : HasOthers 0 0 p

-- the leaf is not merged yet
pub record IsToMerge (c : Config) (log : Log) (at : ℕ) (p : Past) (r : Reach) (stock : Stock) (x : OpenCall) : Type 0 where
  pub standing : IsStanding c log at p r stock
  pub task : IsTellingFew r x ⊎ IsLookingOn p x

-- a merge ends so for want of slots or descriptors
abbrev pub EndsShort : Config → Log → ℕ → Reach → Outcome → Type 0
EndsShort c log at r (Full Nodes) = c.nodes < used_then c log at + MERGE_SLOTS
EndsShort c log at r (Full Swaps) = r.taken + 1 ≤ taken_then c log at + MERGE_SWAPS
EndsShort c log at r outcome = ⊥

-- its merge goes on, whose last swap is still to come: it has a neighbour that fits, and takes no more than a merge does
pub record IsMergingLeaf (c : Config) (log : Log) (at : ℕ) (p : Past) (r : Reach) (stock : Stock) (x : OpenCall) : Type 0 where
  pub kind : kind_of x.task ≡ kinds.Merge
  pub moment : ℕ
  pub after : suc at ≤ moment
  pub stood : StoodSince moment p
  pub leaves : leaves_at p moment ≡ leaves_at p (suc at)
  pub alone : end_of x.task ≡ None → HasOthers 0 (made_of x.task + r.untold) p
  pub knows : KnowsItsLeaf x.task (key_of x.call) p
  pub seen : ℕ
  pub seen_since : p.since ≤ seen
  pub seen_by_now : seen ≤ p.now
  pub may : MayBeMerged p.config (p.at seen).image (key_of x.call)
  pub wants : wants_of x.task ≡ MERGE_SLOTS
  pub left : 0 < needs_of x.task → c.nodes ≤ stock.left + used_then c log at
  pub taken : r.taken + swaps_of x.task ≤ taken_then c log at + MERGE_SWAPS + r.underway
  pub before : swaps_of x.task ≤ 1 → r.untold ≡ 0
  pub ends : (o : Outcome) → end_of x.task ≡ Some o → EndsShort c log at r o

-- its last swap took effect
pub record HasMergedLeaf (at : ℕ) (p : Past) (r : Reach) (x : OpenCall) : Type 0 where
  pub kind : kind_of x.task ≡ kinds.Merge
  pub moment : ℕ
  pub after : suc at ≤ moment
  pub stood : StoodSince moment p
  pub leaves : leaves_at p moment + 1 ≡ leaves_at p (suc at)
  pub waits : end_of x.task ≡ None → (r.untold ≡ 1) × (swaps_of x.task ≤ 1)

-- the merge of its leaf is over, as another thing is tried: up to this moment it was made, or directly after the effect its slots or descriptors
-- were not left
abbrev pub WasOver : Config → Log → ℕ → ℕ → Past → Type 0
WasOver c log at moment p = (leaves_at p moment + 1 ≡ leaves_at p (suc at)) ⊎ LacksForMerge c log.start (at_moment (suc at) log.past)

pub record IsOver (c : Config) (log : Log) (at : ℕ) (p : Past) (x : OpenCall) : Type 0 where
  pub later : x.rest ≢ rest.Leaf
  pub moment : ℕ
  pub after : suc at ≤ moment
  pub stood : StoodSince moment p
  pub over : WasOver c log at moment p

abbrev pub IsMerging : Config → Log → ℕ → Past → Reach → Stock → OpenCall → Type 0
IsMerging c log at p r stock x = IsToMerge c log at p r stock x ⊎ (IsMergingLeaf c log at p r stock x ⊎ (HasMergedLeaf at p r x ⊎ IsOver c log at p x))

-- a delete that has had its effect
pub record HasToMerge (c : Config) (log : Log) (opened : Open) (at : ℕ) (p : Past) (r : Reach) (stock : Stock) (x : OpenCall) : Type 0 where
  pub after_begin : opened.begun ≤ at
  pub by_now : suc at ≤ p.now
  pub merging : MayBeMerged c (p.at (suc at)).image (key_of x.call) → IsMerging c log at p r stock x

-- a delete that has not: where one link leads to its leaf the tree was a leaf when its look-up began
pub record IsDeletingSolitarily (p : Past) (r : Reach) (x : OpenCall) : Type 0 where
  pub alone : HasOthers 0 (made_of x.task + r.untold) p
  pub wants : wants_of x.task ≡ 0
  pub swaps : swaps_of x.task ≤ DELETE_SWAPS
  pub way : x.path ≢ None
  pub low : (path : Path) → x.path ≡ Some path → path.depth ≤ 1 → (view_in p.config (p.at p.since).image).height ≡ 1

-- what is known of its task: whose look-up nobody's swap has disturbed, up to its effect; and what comes then
pub record IsDuly (c : Config) (log : Log) (opened : Open) (p : Past) (r : Reach) (stock : Stock) (x : OpenCall) : Type 0 where
  pub looking : x.effect ≡ None → seeks (kind_of x.task) ≡ true → HasOthers 0 0 p
  pub deleting : x.effect ≡ None → kind_of x.task ≡ kinds.Delete → end_of x.task ≡ None → IsDeletingSolitarily p r x
  pub merging : (at : ℕ) → x.effect ≡ Some at → is_delete x.call ≡ true → HasToMerge c log opened at p r stock x

abbrev pub MergesDuly : Config → Log → ℕ → Open → Past → Reach → Stock → OpenCall → Type 0
MergesDuly c log w opened p r stock x = IsSolitary w log.past → IsDuly c log opened p r stock x
