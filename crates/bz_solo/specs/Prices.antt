-- What may still come of a call after its present task, by the kind of that task: in a round in which another worker's swap took effect, in
-- the rest of that round; in a clean one, in all rounds. It stands on the prices of what the round may still do.
use Rattle.std.specs.Prelude.{ℕ, ◌+◌, ◌-◌, ◌*◌, ◌&&◌, max, not, nat_lt, if◌then◌else◌, Bool, true}
use Rattle.bz_call.specs.Map.{key_of}
use Rattle.bz_content.specs.Content.{image_of}
use Rattle.bz_joined.specs.FromStage.Neighbours.{leaf_page}
use Rattle.bz_costs.specs.Resources.{Resource}
use Rattle.bz_costs.specs.Failing.{cost_of_lost_inner}
use Rattle.bz_costs.specs.Most.{most_of_seek, most_of_find, most_of_leaf, most_of_copy, most_of_merge, most_of_joining, most_of_lowering, most_of_below}
use Rattle.bz_costs.specs.Splits.{cost_after_below, cost_after_inner}
use Rattle.bz_costs.specs.Stretches.{cost_of_root_lowered, cost_of_nodes_merged, cost_after_delete, cost_of_view, cost_of_change, cost_once_viewed, cost_from, cost_at, cost_viewed_at, top_stage}
use Rattle.bz_layout.specs.declared.config.Config.{Config}
use Rattle.bz_layout.specs.declared.thresholds.TheConstants.{MAX_LEVELS}
use Rattle.bz_costs.specs.FromRunning.Kinds as kinds
use Rattle.bz_costs.specs.FromRunning.Kinds.{Kind, level_of}
use Rattle.bz_slotted.specs.Page.{Page}
use Rattle.bz_joined.specs.FromStage.Rooms.{is_crowded}
use Rattle.bz_joined.specs.FromStage.Stages.{stage_in}
use Rattle.bz_solo.specs.Errands.{Errand, words_asked, is_read}
use Rattle.bz_solo.specs.declared.rest.Rest.{Rest}
use Rattle.bz_solo.specs.declared.rest.Rest.TheVariants as rest

-- what comes: once a leaf without room was read whole; once a leaf was read whole, whatever room it has; after a freeze; after a copy, or the split
-- of a leaf that is the root; after the begin of the split of a leaf below a parent, and of the split of an inner node of some level; and after
-- the begin of a merge
pub record Prices : Type 0 where
  pub viewed : ℕ
  pub read : ℕ
  pub froze : ℕ
  pub renewed : ℕ
  pub below : ℕ
  pub inner : ℕ → ℕ
  pub merged : ℕ

-- where another's swap took effect, the round may still do whatever there is to do, and ends then
abbrev pub disturbed_prices : Resource → Prices
disturbed_prices r = record {
  viewed = cost_once_viewed r 0;
  read = cost_once_viewed r 0;
  froze = 0;
  renewed = 0;
  below = cost_once_viewed r 0 - most_of_below r;
  inner = λ level. cost_of_lost_inner r * (MAX_LEVELS - 1 - level);
  merged = 0;
}

-- a frozen leaf that a call is to copy alone is copied, where that is what it needs
abbrev pub viewed_price : Resource → Bool → Page → ℕ → ℕ
viewed_price r alone leaf stage = if alone && (leaf.frozen && not (is_crowded leaf)) then most_of_copy r + cost_from r 0 else cost_viewed_at r leaf.frozen stage

-- in a clean round, of a key with this leaf and at this stage
abbrev pub clean_prices : Resource → Bool → Page → ℕ → Prices
clean_prices r alone leaf stage = record {
  viewed = viewed_price r alone leaf stage;
  read = if nat_lt 0 stage then viewed_price r alone leaf stage else cost_from r 0;
  froze = cost_at r true (stage - 1);
  renewed = cost_from r 0;
  below = cost_after_below r stage;
  inner = λ level. if nat_lt level top_stage then cost_after_inner r level stage else 0;
  merged = cost_of_view r + (most_of_copy r + cost_from r 0);
}

-- those in the image of a moment
abbrev pub prices_in : Resource → Config → (ℕ → ℕ) → Errand → Prices
prices_in r c image e = clean_prices r e.alone (leaf_page c (image_of image) (key_of e.call)) (stage_in c image (key_of e.call) (words_asked e.call))

-- once the key was looked up: a change, or the leaf is read whole
abbrev pub found_price : Resource → Prices → ℕ
found_price r q = max (cost_of_change r) (most_of_leaf r + q.viewed)

-- once the way to the leaf was found
abbrev pub way_price : Resource → Prices → Errand → ℕ
way_price r q e = if e.froze then most_of_leaf r + q.read else (most_of_find r + found_price r q)

-- after a task of a call that changes nothing
abbrev pub coming_to_read : Resource → Kind → ℕ
coming_to_read r kinds.Seek = max (most_of_find r) (most_of_leaf r)
coming_to_read r kinds.Find = 0
coming_to_read r kinds.ReadWhole = 0
coming_to_read r kinds.Insert = 0
coming_to_read r kinds.Update = 0
coming_to_read r kinds.Delete = 0
coming_to_read r kinds.Freeze = 0
coming_to_read r kinds.Copy = 0
coming_to_read r kinds.SplitRootLeaf = 0
coming_to_read r (kinds.SplitLeaf a) = 0
coming_to_read r (kinds.SplitNode a) = 0
coming_to_read r (kinds.SplitRootNode a) = 0
coming_to_read r kinds.Merge = 0
coming_to_read r kinds.MergeNodes = 0
coming_to_read r kinds.LowerRoot = 0

-- of one that has a change to make
abbrev pub coming_to_write : Resource → Prices → Errand → Kind → ℕ
coming_to_write r q e kinds.Seek = way_price r q e
coming_to_write r q e kinds.Find = found_price r q
coming_to_write r q e kinds.ReadWhole = q.read
coming_to_write r q e kinds.Insert = 0
coming_to_write r q e kinds.Update = 0
coming_to_write r q e kinds.Delete = cost_after_delete r
coming_to_write r q e kinds.Freeze = q.froze
coming_to_write r q e kinds.Copy = q.renewed
coming_to_write r q e kinds.SplitRootLeaf = q.renewed
coming_to_write r q e (kinds.SplitLeaf a) = q.below
coming_to_write r q e (kinds.SplitNode a) = q.inner (level_of a)
coming_to_write r q e (kinds.SplitRootNode a) = q.inner (level_of a)
coming_to_write r q e kinds.Merge = q.merged
coming_to_write r q e kinds.MergeNodes = 0
coming_to_write r q e kinds.LowerRoot = 0

-- after the way to the leaf of a call that has had its effect, by what is still to be tried
abbrev pub coming_by_rest : Resource → Rest → ℕ
coming_by_rest r rest.Leaf = most_of_leaf r + (most_of_merge r + cost_of_nodes_merged r)
coming_by_rest r rest.Inner = most_of_joining r + cost_of_root_lowered r
coming_by_rest r rest.Root = most_of_lowering r

-- and after a task of such a call: a delete may look its leaf up once more, and have it merged; then the inner node under the root may be
-- merged, and then the root lowered
abbrev pub coming_after : Resource → Rest → Kind → ℕ
coming_after r left kinds.Seek = coming_by_rest r left
coming_after r left kinds.Find = 0
coming_after r left kinds.ReadWhole = most_of_merge r + cost_of_nodes_merged r
coming_after r left kinds.Insert = 0
coming_after r left kinds.Update = 0
coming_after r left kinds.Delete = cost_after_delete r
coming_after r left kinds.Freeze = 0
coming_after r left kinds.Copy = 0
coming_after r left kinds.SplitRootLeaf = 0
coming_after r left (kinds.SplitLeaf a) = 0
coming_after r left (kinds.SplitNode a) = 0
coming_after r left (kinds.SplitRootNode a) = 0
coming_after r left kinds.Merge = cost_of_nodes_merged r
coming_after r left kinds.MergeNodes = cost_of_root_lowered r
coming_after r left kinds.LowerRoot = 0

abbrev pub coming : Resource → Prices → Errand → Kind → ℕ
coming r q e kind = if e.effected then coming_after r e.rest kind else if is_read e.call then coming_to_read r kind else coming_to_write r q e kind

-- a round from its begin on
abbrev pub round_price : Resource → Prices → Errand → ℕ
round_price r q e = most_of_seek r + coming r q e kinds.Seek
