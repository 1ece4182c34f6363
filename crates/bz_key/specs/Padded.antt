-- Bytes kept at the front of an array, with zeros behind them.
use Rattle.std.specs.Prelude.{◌≡◌, ◌≤◌, ◌-◌, ℕ, List, ◌++◌, length, take, drop, replicate}
use Rattle.std.proofs.Common.{arith}
use Rattle.std.proofs.lemmas.Grind.{common_steps}
use Rattle.std.proofs.lemmas.List.{take-append-drop}
use Rattle.bz_key.specs.Bytes.{AreBytes}
use Rattle.bz_key.specs.declared.limits.TheConstants.{LONGEST}

-- the array that keeps these bytes
abbrev pub padded : List ℕ → List ℕ
padded bytes = bytes ++ replicate (LONGEST - length bytes) 0

-- the array is whole, its first places hold bytes, and behind these are zeros
pub record IsPadded (array : List ℕ) (count : ℕ) : Type 0 where
  pub places : length array ≡ LONGEST
  pub fits : count ≤ LONGEST
  pub zeros : drop count array ≡ replicate (LONGEST - count) 0
  pub each : AreBytes (take count array)

pub length_again : (array : List ℕ) (count : ℕ) → IsPadded array count → length (take count array) ≡ count
length_again array count h = grind (arith, common_steps)

pub padded_again : (array : List ℕ) (count : ℕ) → IsPadded array count → padded (take count array) ≡ array
padded_again array count h = rw (length_again array count h, ← h.zeros) (take-append-drop count array)
