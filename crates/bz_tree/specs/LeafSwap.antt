-- A swap on one leaf: an insert's two swaps, an update's, a delete, a freeze.
use Rattle.std.specs.Prelude.{◌≡◌, ◌≢◌, ℕ, true, None}
use Rattle.bz_tree.specs.View.{View}
use Rattle.bz_tree.specs.Form.{Form}
use Rattle.bz_tree.specs.Slots.{SameSlot, SameTop}

-- leaf k still breaks no rule, and every other reached slot says what it said
pub record LeafSwap (v w : View) (f : Form) (k : ℕ) : Type 0 where
  pub same_top : SameTop v w
  pub inside : f.inside k ≡ true
  pub leaf : f.level k ≡ 0
  pub whole : w.fault k 0 (f.low k) (f.high k) ≡ None
  pub others : (j : ℕ) → f.inside j ≡ true → j ≢ k → SameSlot v w j
