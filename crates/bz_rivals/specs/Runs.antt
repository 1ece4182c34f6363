-- The foreign effects of a run of one worker alone.
use Rattle.std.specs.Prelude.{◌≡◌, ℕ, ◌+◌, List, [], ◌∷◌}
use Rattle.bz_swap_machine.specs.declared.done.Done.TheVariants.{Busy}
use Rattle.bz_swap.specs.SoloRuns.{Turn, Start, Begin, Step, Evict, IsSoloRun}
use Rattle.bz_swap.specs.SwapMemory.{SwapMemory}
use Rattle.bz_rivals.specs.Rivals.{foreign}

-- a step of the worker may have one, by the help that it gives, and so may an eviction
abbrev pub foreign_of : SwapMemory → ℕ → Turn → ℕ
foreign_of m w (Start doing) = 0
foreign_of m w (Begin entries) = 0
foreign_of m w (Step made done told) = foreign m w told
foreign_of m w (Evict a told) = foreign m w told

abbrev pub foreign_in : (w : ℕ) (old new : SwapMemory) (turns : List Turn) → IsSoloRun w old turns new → ℕ
foreign_in w old new [] run = 0
foreign_in w old new (turn ∷ turns) (next, (first, rest)) = foreign_of old w turn + foreign_in w next new turns rest

-- steps that answer nothing, and evictions: the worker goes on with what it does
abbrev pub GoesOn : Turn → Type 0
GoesOn (Start doing) = ⊥
GoesOn (Begin entries) = ⊥
GoesOn (Step made done told) = done ≡ Busy
GoesOn (Evict a told) = Unit {0}

abbrev pub AllGoOn : List Turn → Type 0
AllGoOn [] = Unit {0}
AllGoOn (turn ∷ turns) = GoesOn turn × AllGoOn turns
