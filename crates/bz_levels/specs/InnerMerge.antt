-- The swap of a merge of two inner slots: two neighbours become one fresh slot with the children of both, their parent is made anew
-- without one child, and the one link that changes is that to the parent. It is a split read backwards.
use Rattle.std.specs.Prelude.{◌≡◌, ◌≢◌, ℕ, ◌+◌, ◌<◌, true, false, List, None}
use Rattle.bz_tree.specs.View.{View}
use Rattle.bz_tree.specs.Form.{Form}
use Rattle.bz_tree.specs.Slots.{SameSlot, SameTop, Relinked, Wider, Halves, children}

-- the inner slots a and b, neighbours below one parent, are merged: the link to the parent goes to q, which has the slot c in place of
-- both, with the children of a and then those of b. q and c were not reached and break no rule in their places.
pub record InnerMerge (v w : View) (f : Form) (a b q c : ℕ) (sep : List ℕ) : Type 0 where
  pub same_top : SameTop v w
  pub inside : f.inside a ≡ true
  pub inside_b : f.inside b ≡ true
  pub not_top : a ≢ v.top
  pub not_top_b : b ≢ v.top
  pub same_up : f.up b ≡ f.up a
  pub next : f.index b ≡ f.index a + 1
  pub deep : f.up a ≢ v.top
  pub inner : 0 < f.level a
  pub fresh_q : f.inside q ≡ false
  pub fresh_c : f.inside c ≡ false
  pub link : Relinked v w f (f.up (f.up a)) (f.index (f.up a)) q
  pub child : w.child q (f.index a) ≡ c
  pub narrower : Wider (children w q) (children v (f.up a)) (f.index a) a b sep
  pub joined : Halves (children w c) (children v a) (children v b) (v.count a) sep
  pub whole_q : w.fault q (f.level (f.up a)) (f.low (f.up a)) (f.high (f.up a)) ≡ None
  pub whole_c : w.fault c (f.level a) (f.low a) (f.high b) ≡ None
  pub others : (j : ℕ) → f.inside j ≡ true → j ≢ a → j ≢ b → j ≢ f.up a → j ≢ f.up (f.up a) → SameSlot v w j
