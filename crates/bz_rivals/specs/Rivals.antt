-- The rivals of a worker: the other workers that have a swap under way which has had no effect. While the worker steps alone, only
-- these swaps can still take effect beside its own.
use Rattle.std.specs.Prelude.{◌==◌, ◌&&◌, ℕ, Bool, false, not, length, Option, None, Some}
use Rattle.bz_swap_machine.specs.Allowed.{sum_below, counted}
use Rattle.bz_swap.specs.SwapMemory.{SwapMemory, Doing, Swapping, has_effect, doing_of}

-- this is a swap, and it has had no effect. One that has missed is such a swap too, until it is answered
abbrev pub is_pending : SwapMemory → Doing → Bool
is_pending m (Swapping s) = not (has_effect m s)
is_pending m doing = false

-- v is another worker than w, and has such a swap under way
abbrev pub is_rival : SwapMemory → ℕ → ℕ → Bool
is_rival m w v = not (v == w) && is_pending m (doing_of m v)

-- how many rivals worker w has
abbrev pub rivals : SwapMemory → ℕ → ℕ
rivals m w = sum_below (λ v. counted (is_rival m w v) 1) (length m.workers)

-- what a worker does is this swap
abbrev pub is_own : Doing → ℕ → Bool
is_own (Swapping t) s = t == s
is_own doing s = false

-- how many foreign effects an act or an eviction has that tells this: one where a swap is told that is not the worker's own
abbrev pub foreign : SwapMemory → ℕ → Option ℕ → ℕ
foreign m w None = 0
foreign m w (Some s) = counted (not (is_own (doing_of m w) s)) 1
