-- What a call costs a worker that steps alone, from one round on, while no other worker's swap takes effect: by the stage of its key. A
-- round ends the call, or freezes the leaf, or makes one node anew; then the stage is lower, and the next round begins.
use Rattle.std.specs.Prelude.{ℕ, zero, suc, ◌+◌, ◌-◌, ◌*◌, min, max, Bool, true, false}
use Rattle.bz_layout.specs.declared.thresholds.TheConstants.{MAX_LEVELS}
use Rattle.bz_costs.specs.Resources.{Resource}
use Rattle.bz_costs.specs.Failing.{cost_of_lost_below, cost_of_lost_inner}
use Rattle.bz_costs.specs.Most.{most_of_seek, most_of_find, most_of_leaf, most_of_insert, most_of_update, most_of_delete, most_of_freeze, most_of_copy, most_of_merge, most_of_joining, most_of_lowering, most_of_below, most_of_inner, most_of_inner_root}

-- the way to the leaf, and the look-up of the key there
abbrev pub cost_of_look_up : Resource → ℕ
cost_of_look_up r = most_of_seek r + most_of_find r

-- a round that finds the leaf without room, up to the task that restructures: the leaf is read whole then. The change has ended at once, and
-- cost nothing
abbrev pub cost_of_view : Resource → ℕ
cost_of_view r = cost_of_look_up r + most_of_leaf r

-- what may come after the change of a delete that leaves little in its leaf: the root is lowered, after a descent; before that the inner node
-- under it is merged, after one of its own; and before that the leaf is looked up once more, read, and merged
abbrev pub cost_of_root_lowered : Resource → ℕ
cost_of_root_lowered r = most_of_seek r + most_of_lowering r

abbrev pub cost_of_nodes_merged : Resource → ℕ
cost_of_nodes_merged r = most_of_seek r + (most_of_joining r + cost_of_root_lowered r)

abbrev pub cost_after_delete : Resource → ℕ
cost_after_delete r = most_of_seek r + (most_of_leaf r + (most_of_merge r + cost_of_nodes_merged r))

-- a change that ends the call
abbrev pub cost_of_change : Resource → ℕ
cost_of_change r = max (max (most_of_insert r) (most_of_update r)) (most_of_delete r + cost_after_delete r)

-- the split of the first node above that finds room, at this level: those of the leaf and of the nodes between have found none
abbrev pub cost_of_split_at : Resource → ℕ → ℕ
cost_of_split_at r level = cost_of_lost_below r + cost_of_lost_inner r * (level - 1) + max (most_of_inner r) (most_of_inner_root r)

-- a task that restructures, and those before it in its round that found no room: of a leaf that is frozen, by its stage. At stage 1 it is split
-- or copied, or merged; where no neighbour has room for it, it is looked up once more, and copied. Of a leaf whose stage was above 0 only before
-- another worker's swap, whatever may be to be done
abbrev pub cost_of_renewal : Resource → ℕ → ℕ
cost_of_renewal r zero = max (most_of_below r) (max (most_of_merge r) (cost_of_split_at r (MAX_LEVELS - 1)))
cost_of_renewal r (suc zero) = max (most_of_below r) (most_of_merge r + cost_of_view r + most_of_copy r)
cost_of_renewal r (suc (suc full)) = cost_of_split_at r (suc full)

-- what is still to come once a frozen leaf of this stage was read whole
abbrev pub cost_once_viewed : Resource → ℕ → ℕ
cost_once_viewed r zero = cost_of_renewal r zero
cost_once_viewed r (suc stage) = cost_of_renewal r (suc stage) + (cost_of_look_up r + max (cost_of_change r) (most_of_leaf r + cost_once_viewed r stage))

-- and once the key was looked up
abbrev pub cost_once_found : Resource → ℕ → ℕ
cost_once_found r stage = max (cost_of_change r) (most_of_leaf r + cost_once_viewed r stage)

-- and from the begin of a round on
abbrev pub cost_from : Resource → ℕ → ℕ
cost_from r stage = cost_of_look_up r + cost_once_found r stage

-- the greatest stage of a frozen leaf that counts. An inner node is split only where the level above it may have a node, and afterwards the
-- stage is at most its own level: so where as many nodes are full as there may be levels of them, the stage falls by two at least, and costs
-- no more than the next lower one
abbrev pub top_stage : ℕ
top_stage = MAX_LEVELS - 1

-- the same three where it is known besides whether the leaf is frozen. One that is not is frozen first, if its stage is above 0
abbrev pub cost_viewed_at : Resource → Bool → ℕ → ℕ
cost_viewed_at r true stage = cost_once_viewed r (min stage top_stage)
cost_viewed_at r false zero = cost_once_viewed r 0
cost_viewed_at r false (suc stage) = most_of_freeze r + cost_from r (min stage top_stage)

abbrev pub cost_found_at : Resource → Bool → ℕ → ℕ
cost_found_at r frozen stage = max (cost_of_change r) (most_of_leaf r + cost_viewed_at r frozen stage)

abbrev pub cost_at : Resource → Bool → ℕ → ℕ
cost_at r frozen stage = cost_of_look_up r + cost_found_at r frozen stage

-- the most that a stretch costs in which nobody disturbs the call, whatever the stage of its key
abbrev pub solo_stretch : Resource → ℕ
solo_stretch r = cost_of_view r + most_of_freeze r + cost_from r top_stage
