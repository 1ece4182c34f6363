-- The swap by which a root with one child gives way to it: the tree falls by one level.
use Rattle.std.specs.Prelude.{◌≡◌, ◌≢◌, ℕ, ◌+◌, ◌<◌, true, None}
use Rattle.bz_tree.specs.View.{View}
use Rattle.bz_tree.specs.Form.{Form}
use Rattle.bz_tree.specs.Slots.{SameSlot, Relinked}

-- the root p, an inner slot with the one child c, is left: the root pointer goes to c
pub record RootLowering (v w : View) (f : Form) (p c : ℕ) : Type 0 where
  pub top : w.top ≡ v.top
  pub height : w.height + 1 ≡ v.height
  pub super : w.fault v.top w.height None None ≡ None
  pub inside : f.inside p ≡ true
  pub not_top : p ≢ v.top
  pub root : f.up p ≡ v.top
  pub inner : 0 < f.level p
  pub one : v.count p ≡ 1
  pub child : v.child p 0 ≡ c
  pub link : Relinked v w f v.top 0 c
  pub others : (j : ℕ) → f.inside j ≡ true → j ≢ p → j ≢ v.top → SameSlot v w j
