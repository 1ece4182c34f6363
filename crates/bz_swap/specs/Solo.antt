-- How many steps a worker may make that steps alone: over any list of its starts, while no other worker steps, its steps are at
-- most the sum of what each start allows, and of what each worker allows once that does something when the counting begins,
-- itself among them.
use Rattle.std.specs.Prelude.{if◌then◌else◌, ◌==◌, ℕ, min, length}
use Rattle.bz_swap_machine.specs.Allowed.{for_act, for_word, for_flush, for_swap, for_worker, sum_below}
use Rattle.bz_swap.specs.SwapMemory.{SwapMemory, Doing, Idle, Swapping, Flushing, doing_of}

-- what the start of this allows
abbrev pub allowed_for : Doing → ℕ
allowed_for (Swapping s) = for_swap
allowed_for doing = for_act

-- the finer count, by its kind, which is never more: one step for a read, a load or a store, and two for a flush
abbrev pub allowed_by_kind : Doing → ℕ
allowed_by_kind (Swapping s) = for_swap
allowed_by_kind (Flushing line) = for_flush
allowed_by_kind doing = for_word

-- what a worker allows that does this
abbrev pub allowed_while : Doing → ℕ
allowed_while Idle = 0
allowed_while doing = for_worker

-- what all workers allow
abbrev pub allowed_to_all : SwapMemory → ℕ
allowed_to_all m = sum_below (λ v. allowed_while (doing_of m v)) (length m.workers)

-- where all workers allow so many steps, a worker that comes after another one may make them; the one that started or stepped
-- last, what is left to it, and no more than all allow
abbrev pub steps_left : ℕ → ℕ → ℕ → ℕ → ℕ
steps_left runner left all w = if runner == w then min left all else all

unfoldable pub left_to : SwapMemory → ℕ → ℕ
left_to m w = steps_left m.runner m.left (allowed_to_all m) w
