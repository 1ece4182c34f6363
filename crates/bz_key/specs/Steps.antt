-- One step of reading a word.
use Rattle.std.specs.Prelude.{◌≡◌, ◌≤◌, ◌<◌, ℕ, List, ◌∷◌, length, drop}
use Rattle.bz_key.specs.Spelling.{decoded}

-- the word is read as this byte first, which takes so much of the word
pub record Takes (word : List ℕ) (byte taken : ℕ) : Type 0 where
  pub some : 0 < taken
  pub within : taken ≤ length word
  pub reads : decoded word ≡ byte ∷ decoded (drop taken word)
