-- A change by which every reached slot says what it said: of words that nobody reads, or of how words stand.
use Rattle.std.specs.Prelude.{◌≡◌, ℕ, ◌<◌, true, List, None}
use Rattle.bz_tree.specs.View.{View}
use Rattle.bz_tree.specs.Form.{Form}
use Rattle.bz_tree.specs.Slots.{SameSlot, SameTop}

-- leaf k says of each key what it said, and still breaks no rule
pub record SameLeaf (v w : View) (f : Form) (k : ℕ) : Type 0 where
  pub whole : w.fault k 0 (f.low k) (f.high k) ≡ None
  pub found : (key : List ℕ) → w.found k key ≡ v.found k key

pub record QuietSlots (v w : View) (f : Form) : Type 0 where
  pub same_top : SameTop v w
  pub inner : (j : ℕ) → f.inside j ≡ true → 0 < f.level j → SameSlot v w j
  pub leaves : (j : ℕ) → f.inside j ≡ true → f.level j ≡ 0 → SameLeaf v w f j
