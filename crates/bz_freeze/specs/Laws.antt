-- What the swap of a freeze leads to.
use Rattle.std.specs.Prelude.{ℕ, ◌∷◌, [], false}
use Rattle.bz_task.specs.Instant.{Instant}
use Rattle.bz_task.specs.Scene.{Scene, IsScene, here}
use Rattle.bz_task.specs.Swaps.{Stand, SwapsTo, IsGoodSwap}
use Rattle.bz_freeze.specs.Facts.{WasLeaf, entry_of, freeze_change}

-- where the status is the one that was read, the swap is lawful for everybody and changes no content
abbrev pub FreezesAreGood : Type 0
FreezesAreGood =
    (s : Scene) (y : Instant) (k st : ℕ) → IsScene s → WasLeaf k st s.past → Stand (entry_of s.past.config k st ∷ []) (here s) → SwapsTo s.past.config (entry_of s.past.config k st ∷ []) (here s) y →
    IsGoodSwap false freeze_change (entry_of s.past.config k st ∷ []) s y
