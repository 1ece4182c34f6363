-- What a task may still take of a worker that steps alone: of marks, the steps of the swap memory that are allowed for its acts.
use Rattle.std.specs.Prelude.{ℕ, ◌+◌, ◌-◌, ◌*◌, Some, length}
use Rattle.bz_layout.specs.Slots.{FreeSlots}
use Rattle.bz_swap_machine.specs.Allowed.{for_word, for_flush, for_swap}
use Rattle.bz_task.specs.Requests.{swaps_in}
use Rattle.bz_task.specs.declared.todo.Todo.{Todo}
use Rattle.bz_task.specs.declared.todo.Todo.TheVariants.{Read, Load, Store, Flush, Swap, Finish}
use Rattle.bz_any_task.specs.Duties.{asks_of, left_of, needs_of, swaps_of}
use Rattle.bz_any_task.specs.declared.running.AnyTask.{AnyTask}
use Rattle.bz_costs.specs.Resources.{Resource, Marks, Descriptors, Slots}

-- so many steps more a swap is allowed than the one that a task counts for it
abbrev pub for_more : ℕ
for_more = for_swap - for_word

-- so much is taken by so many steps that are left, with so many swaps among them, and so many slots
abbrev pub weight : Resource → ℕ → ℕ → ℕ → ℕ
weight Marks left swaps slots = left + for_more * swaps
weight Descriptors left swaps slots = swaps
weight Slots left swaps slots = slots

-- what the start of this allows; an end starts nothing
abbrev pub start_allows : Todo → ℕ
start_allows (Read a) = for_word
start_allows (Load a) = for_word
start_allows (Store a v) = for_word
start_allows (Flush line) = for_flush
start_allows (Swap entries) = for_swap
start_allows Finish = 0

-- and what it takes: a swap takes a descriptor
abbrev pub start_takes : Resource → Todo → ℕ
start_takes Marks todo = start_allows todo
start_takes Descriptors todo = swaps_in (Some todo)
start_takes Slots todo = 0

-- before its start, so many slots are gone
abbrev pub slots_gone : Resource → FreeSlots → FreeSlots → ℕ
slots_gone Slots free left = length free.free - length left.free
slots_gone other free left = 0

-- what a task may still take: for each step that is left, each swap that it may still ask for, and each slot. The swap that it asks for now has
-- taken what it may when it was started, and is not counted any more
abbrev pub weigh : Resource → AnyTask → ℕ
weigh r t = weight r (left_of t) (swaps_of t - swaps_in (asks_of t)) (needs_of t)
