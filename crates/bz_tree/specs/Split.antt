-- The swap of a split below an inner node, as in the BzTree paper: a leaf or an inner node is parted into two
-- fresh ones, its parent is made anew with both, and the one link that changes is that to the parent.
use Rattle.std.specs.Prelude.{◌≡◌, ◌≢◌, ℕ, ◌<◌, true, false, List, Some, None}
use Rattle.bz_tree.specs.Order.{is_before}
use Rattle.bz_tree.specs.View.{View}
use Rattle.bz_tree.specs.Form.{Form}
use Rattle.bz_tree.specs.Slots.{SameSlot, SameTop, Relinked, Wider, Halves, children}

-- slot a, a leaf or an inner slot, is split: the link to its parent goes to q, which has l and r in place of a.
-- l, r and q were not reached and break no rule in their places. Of an inner slot l has the first m children.
pub record Split (v w : View) (f : Form) (a q l r m : ℕ) (sep : List ℕ) : Type 0 where
  pub same_top : SameTop v w
  pub inside : f.inside a ≡ true
  pub not_top : a ≢ v.top
  pub deep : f.up a ≢ v.top
  pub fresh_q : f.inside q ≡ false
  pub fresh_l : f.inside l ≡ false
  pub fresh_r : f.inside r ≡ false
  pub link : Relinked v w f (f.up (f.up a)) (f.index (f.up a)) q
  pub wider : Wider (children v (f.up a)) (children w q) (f.index a) l r sep
  pub halves : 0 < f.level a → Halves (children v a) (children w l) (children w r) m sep
  pub whole_q : w.fault q (f.level (f.up a)) (f.low (f.up a)) (f.high (f.up a)) ≡ None
  pub whole_l : w.fault l (f.level a) (f.low a) (Some sep) ≡ None
  pub whole_r : w.fault r (f.level a) (Some sep) (f.high a) ≡ None
  pub others : (j : ℕ) → f.inside j ≡ true → j ≢ a → j ≢ f.up a → j ≢ f.up (f.up a) → SameSlot v w j

-- the three fresh slots are three
pub record AreThree (q l r : ℕ) : Type 0 where
  pub q_l : q ≢ l
  pub q_r : q ≢ r
  pub l_r : l ≢ r

-- the halves of a leaf say what the leaf said: l of the keys before sep, r of the others
abbrev pub SaysInHalves : View → View → Form → ℕ → ℕ → ℕ → List ℕ → Type 0
SaysInHalves v w f a l r sep =
    ((key : List ℕ) → f.level a ≡ 0 → is_before key sep ≡ true → w.found l key ≡ v.found a key)
    × ((key : List ℕ) → f.level a ≡ 0 → is_before key sep ≡ false → w.found r key ≡ v.found a key)
