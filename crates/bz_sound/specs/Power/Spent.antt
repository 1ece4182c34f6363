-- What must have run out where a call answers Full: slots and descriptors are used again when the power comes on, so
-- that what was used and taken is counted since then. The newest mark stands first.
use Rattle.std.specs.Prelude.{◌≤◌, ◌+◌, ◌||◌, ℕ, Bool, List, count_by}
use Rattle.std.specs.List.{range_with_len}
use Rattle.bz_layout.specs.declared.config.Config.{Config}
use Rattle.bz_call.specs.declared.replies.Spent.{Spent}
use Rattle.bz_call.specs.declared.replies.Spent.TheVariants.{Nodes, Swaps, Height}
use Rattle.bz_mark.specs.declared.marks.Mark.{Mark}
use Rattle.bz_sound.specs.Calls.{Open}
use Rattle.bz_mark.specs.Counts.{count_taken}
use Rattle.bz_sound.specs.Memory.Spent.{NodesAreSpent, IsTooHigh, is_reached_in, is_stored_into, count_others}
use Rattle.bz_mark.specs.Times.{since_on}
use Rattle.bz_sound.specs.Power.Times.{image_at_on}

-- a slot is used: reached in the durable words at the last On, or stored into since
abbrev pub is_used : Config → List ℕ → List Mark → ℕ → Bool
is_used c start past slot = is_reached_in c (image_at_on start past) slot || is_stored_into c slot (since_on past)

-- how many slots are used
abbrev pub count_used : Config → List ℕ → List Mark → ℕ
count_used c start past = count_by (λ slot. is_used c start past slot) (range_with_len 0 c.nodes)

-- The cause of a Full that ends the open call of a worker now. A moment of the call lies since the last On. Other workers
-- may have taken a descriptor into which they have not stored yet.
abbrev pub IsSpent : Config → List ℕ → List Mark → ℕ → Open → Spent → Type 0
IsSpent c start past w opened Nodes = NodesAreSpent c start past (count_used c start past) w opened
IsSpent c start past w opened Swaps = c.swaps ≤ count_taken c (since_on past) + count_others c w past
IsSpent c start past w opened Height = IsTooHigh c start past opened
