-- The swap of a merge, as in the BzTree paper: two neighbouring leaves become one fresh leaf, their parent is
-- made anew without one child, and the one link that changes is that to the parent.
use Rattle.std.specs.Prelude.{◌≡◌, ◌≢◌, ℕ, ◌+◌, true, false, List, None}
use Rattle.bz_tree.specs.View.{View}
use Rattle.bz_tree.specs.Form.{Form, Holds}
use Rattle.bz_tree.specs.Slots.{SameSlot, SameTop, Relinked, Wider, children}

-- the leaves a and b, neighbours below one parent, are merged: the link to the parent goes to q, which has the
-- leaf c in place of both. q and c were not reached and break no rule in their places.
pub record Merge (v w : View) (f : Form) (a b q c : ℕ) (sep : List ℕ) : Type 0 where
  pub same_top : SameTop v w
  pub inside : f.inside a ≡ true
  pub inside_b : f.inside b ≡ true
  pub not_top : a ≢ v.top
  pub not_top_b : b ≢ v.top
  pub same_up : f.up b ≡ f.up a
  pub next : f.index b ≡ f.index a + 1
  pub leaf : f.level a ≡ 0
  pub deep : f.up a ≢ v.top
  pub fresh_q : f.inside q ≡ false
  pub fresh_c : f.inside c ≡ false
  pub link : Relinked v w f (f.up (f.up a)) (f.index (f.up a)) q
  pub child : w.child q (f.index a) ≡ c
  pub narrower : Wider (children w q) (children v (f.up a)) (f.index a) a b sep
  pub whole_q : w.fault q (f.level (f.up a)) (f.low (f.up a)) (f.high (f.up a)) ≡ None
  pub whole_c : w.fault c 0 (f.low a) (f.high b) ≡ None
  pub others : (j : ℕ) → f.inside j ≡ true → j ≢ a → j ≢ b → j ≢ f.up a → j ≢ f.up (f.up a) → SameSlot v w j

-- the merged leaf says what the two leaves said, of the keys that each of them holds
abbrev pub SaysOfBoth : View → View → Form → ℕ → ℕ → ℕ → Type 0
SaysOfBoth v w f a b c =
    ((key : List ℕ) → Holds f key a → w.found c key ≡ v.found a key) × ((key : List ℕ) → Holds f key b → w.found c key ≡ v.found b key)
