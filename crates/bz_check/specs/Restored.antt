-- Cached words that a power cut makes the durable ones again.
use Rattle.std.specs.Prelude.{◌≡◌, ◌⊎◌, ℕ, List, [], ◌∷◌, slice_index, slice_set}

-- an address is one of these
abbrev pub IsAt : ℕ → List ℕ → Type 0
IsAt b [] = ⊥
IsAt b (a ∷ all) = (b ≡ a) ⊎ IsAt b all

-- the first words, with those at these addresses taken from the second ones
abbrev pub restored : List ℕ → List ℕ → List ℕ → List ℕ
restored [] cached durable = cached
restored (a ∷ all) cached durable = restored all (slice_set cached a (slice_index durable a)) durable
