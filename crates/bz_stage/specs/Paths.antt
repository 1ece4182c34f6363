-- The nodes on the way down to a key, by their levels, and how many of them are alike, one above the other.
use Rattle.std.specs.Prelude.{◌≡◌, ℕ, zero, suc, ◌-◌, if◌then◌else◌, Bool, true, List}
use Rattle.bz_tree.specs.Descent.{descend}
use Rattle.bz_tree.specs.Form.{Form}
use Rattle.bz_tree.specs.Order.{is_at_least, is_below}
use Rattle.bz_tree.specs.View.{View}

-- the slot of this level on the way down to a key; at level 0 it is the key's leaf
abbrev pub on_path : View → List ℕ → ℕ → ℕ
on_path v key level = descend v key (v.height - level) v.top

-- slot k is reached, at this level, and the key is in its range
pub record StandsOver (f : Form) (key : List ℕ) (level k : ℕ) : Type 0 where
  pub inside : f.inside k ≡ true
  pub at_level : f.level k ≡ level
  pub low : is_at_least key (f.low k) ≡ true
  pub high : is_below key (f.high k) ≡ true

-- how many levels pass a test one after the other, from this one upwards, of so many
unfoldable pub run_from : (ℕ → Bool) → ℕ → ℕ → ℕ
run_from passes level zero = 0
run_from passes level (suc n) = if passes level then suc (run_from passes (suc level) n) else 0
