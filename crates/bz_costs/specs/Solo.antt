-- What a call costs a worker in all that steps alone from some moment on.
use Rattle.std.specs.Prelude.{ℕ, ◌+◌, ◌-◌, ◌*◌}
use Rattle.bz_layout.specs.declared.config.Config.{Config}
use Rattle.bz_layout.specs.declared.thresholds.TheConstants.{MARKS_PER_CALL, SLOTS_PER_CALL, SWAPS_PER_CALL}
use Rattle.bz_swap_machine.specs.Allowed.{for_worker}
use Rattle.bz_costs.specs.Resources.{Resource, Marks, Descriptors, Slots}
use Rattle.bz_costs.specs.Stretches.{cost_from, solo_stretch}

-- what a mark takes that is no step of the swap memory
abbrev pub one_mark : Resource → ℕ
one_mark Marks = 1
one_mark other = 0

-- what those marks of the call take that are no steps of the swap memory: that of its effect, that of its end, and one to spare
abbrev pub own_marks : Resource → ℕ
own_marks Marks = 3
own_marks other = 0

-- the mark of its begin, and the places of the journal that a step asks for
abbrev pub begin_marks : ℕ
begin_marks = 4

-- what is promised for each call that begins while no other is open, and whose worker steps alone
abbrev pub promised : Resource → ℕ
promised Marks = MARKS_PER_CALL - begin_marks
promised Descriptors = SWAPS_PER_CALL
promised Slots = SLOTS_PER_CALL

-- the rest of the round in which the counting begins, or in which another worker's swap took effect
abbrev pub rest_of_round : Resource → ℕ
rest_of_round r = cost_from r 0

-- in marks: a stretch for each other worker, whose swap may take effect, with the mark of that effect; the round in which the counting begins, and a
-- stretch after it; what the swap memory allows once for each worker, with that which recovers; and the call's own marks
abbrev pub solo_most : Config → ℕ
solo_most c = (solo_stretch Marks + 1) * (c.workers - 1) + (rest_of_round Marks + solo_stretch Marks) + for_worker * (c.workers + 1) + own_marks Marks
