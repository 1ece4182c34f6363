-- The swap of a split of the root: the tree grows by one level.
use Rattle.std.specs.Prelude.{◌≡◌, ◌≢◌, ℕ, ◌+◌, ◌<◌, true, false, List, Some, None}
use Rattle.bz_tree.specs.View.{View}
use Rattle.bz_tree.specs.Form.{Form}
use Rattle.bz_tree.specs.Slots.{SameSlot, Relinked, Halves, children, AreTwo}

-- the root a, a leaf or an inner slot, is split: the root pointer goes to q, whose two children are l and r.
-- l, r and q were not reached and break no rule in their places. Of an inner slot l has the first m children.
pub record RootSplit (v w : View) (f : Form) (a q l r m : ℕ) (sep : List ℕ) : Type 0 where
  pub top : w.top ≡ v.top
  pub height : w.height ≡ v.height + 1
  pub super : w.fault v.top w.height None None ≡ None
  pub inside : f.inside a ≡ true
  pub not_top : a ≢ v.top
  pub root : f.up a ≡ v.top
  pub fresh_q : f.inside q ≡ false
  pub fresh_l : f.inside l ≡ false
  pub fresh_r : f.inside r ≡ false
  pub link : Relinked v w f v.top 0 q
  pub two : AreTwo (children w q) l r sep
  pub halves : 0 < f.level a → Halves (children v a) (children w l) (children w r) m sep
  pub whole_q : w.fault q v.height None None ≡ None
  pub whole_l : w.fault l (f.level a) None (Some sep) ≡ None
  pub whole_r : w.fault r (f.level a) (Some sep) None ≡ None
  pub others : (j : ℕ) → f.inside j ≡ true → j ≢ a → j ≢ v.top → SameSlot v w j
