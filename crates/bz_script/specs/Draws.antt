-- The generator of a run by turns.
use Rattle.std.specs.Prelude.{ℕ, ◌+◌, ◌*◌, ◌^◌, ◌%◌, ◌/◌}

-- the state behind another
abbrev pub next_state : ℕ → ℕ
next_state state = (6364136223846793005 * state + 1442695040888963407) % 2 ^ 64

-- the draw that a state gives: its high half
abbrev pub draw_of : ℕ → ℕ
draw_of state = state / 2 ^ 32
