-- How many swaps took effect since a look-up began: the worker's own, and those of others.
use Rattle.std.specs.Prelude.{◌≡◌, ℕ, ◌+◌}
use Rattle.bz_task.specs.Scene.{Past, Scene, Waiting, IsScene}
use Rattle.bz_any_task.specs.Duties.{made_of, facts_of}
use Rattle.bz_any_task.specs.declared.running.AnyTask.{AnyTask}

-- so many of others, beside so many of its own
abbrev pub HasOthers : ℕ → ℕ → Past → Type 0
HasOthers others made p = (p.at p.now).effects ≡ (p.at p.since).effects + made + others

-- a task knows that its own swaps, of which it was told, are among the effects since its look-up began; the rest are others'
abbrev pub OwnSwapsAreCounted : Type 0
OwnSwapsAreCounted = (t : AnyTask) (s : Scene) → IsScene s → facts_of t Waiting s → (others : ℕ) × HasOthers others (made_of t) s.past
