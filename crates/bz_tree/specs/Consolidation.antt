-- The swap of a consolidation: a leaf's records are copied into a fresh leaf, and the link turned to it. In the
-- BzTree paper this is the structure modification of a node without a split. The link may be the root pointer.
use Rattle.std.specs.Prelude.{◌≡◌, ◌≢◌, ℕ, true, false, None}
use Rattle.bz_tree.specs.View.{View}
use Rattle.bz_tree.specs.Form.{Form}
use Rattle.bz_tree.specs.Slots.{SameSlot, SameTop, Relinked}

-- the link to leaf `old` goes to slot `new`, which was not reached and breaks no rule in that place
pub record Consolidation (v w : View) (f : Form) (old new : ℕ) : Type 0 where
  pub same_top : SameTop v w
  pub inside : f.inside old ≡ true
  pub leaf : f.level old ≡ 0
  pub fresh : f.inside new ≡ false
  pub whole : w.fault new 0 (f.low old) (f.high old) ≡ None
  pub link : Relinked v w f (f.up old) (f.index old) new
  pub others : (j : ℕ) → f.inside j ≡ true → j ≢ old → j ≢ f.up old → SameSlot v w j
