-- What the form after a split is, told by facts.
use Rattle.std.proofs.Common.{◌≡◌, ◌≢◌, ℕ, ◌+◌, ◌<◌, ◌≤◌, ◌⊎◌, true, List}
use Rattle.std.specs.Prelude.{Some, None}
use Rattle.bz_tree.proofs.Places.{Placed}
use Rattle.bz_tree.specs.Outcomes.{Moved, Stays}
use Rattle.bz_tree.specs.Form.{Form}
use Rattle.bz_tree.specs.View.{View}

pub record HalvesForm (v : View) (f h : Form) (a l r m : ℕ) : Type 0 where
  pub moved : (j : ℕ) → f.inside j ≡ true → j ≢ v.top → f.up j ≡ a → Moved f h j
  pub left : (j : ℕ) → f.inside j ≡ true → j ≢ v.top → f.up j ≡ a → f.index j < m → (h.up j ≡ l) × (h.index j ≡ f.index j)
  pub right : (j : ℕ) → f.inside j ≡ true → j ≢ v.top → f.up j ≡ a → m ≤ f.index j → (h.up j ≡ r) × (h.index j + m ≡ f.index j)

-- the other children of p stand in q, one place further behind child i
pub record WiderForm (v : View) (f h : Form) (p q a : ℕ) : Type 0 where
  pub moved : (j : ℕ) → f.inside j ≡ true → j ≢ v.top → j ≢ a → f.up j ≡ p → Moved f h j
  pub up : (j : ℕ) → f.inside j ≡ true → j ≢ v.top → j ≢ a → f.up j ≡ p → h.up j ≡ q
  pub before : (j : ℕ) → f.inside j ≡ true → j ≢ v.top → j ≢ a → f.up j ≡ p → f.index j < f.index a → h.index j ≡ f.index j
  pub after : (j : ℕ) → f.inside j ≡ true → j ≢ v.top → j ≢ a → f.up j ≡ p → f.index a < f.index j → h.index j ≡ f.index j + 1

pub record SplitForm (v : View) (f h : Form) (a q l r m : ℕ) (sep : List ℕ) : Type 0 where
  pub q_at : Placed h q (f.level (f.up a)) (f.low (f.up a)) (f.high (f.up a)) (f.up (f.up a)) (f.index (f.up a))
  pub l_at : Placed h l (f.level a) (f.low a) (Some sep) q (f.index a)
  pub r_at : Placed h r (f.level a) (Some sep) (f.high a) q (f.index a + 1)
  pub kept : (j : ℕ) → f.inside j ≡ true → j ≢ a → j ≢ f.up a → f.up j ≢ a → f.up j ≢ f.up a → Stays f h j
  pub beside : WiderForm v f h (f.up a) q a
  pub halves : HalvesForm v f h a l r m
  pub only : (j : ℕ) → h.inside j ≡ true → (j ≡ q) ⊎ ((j ≡ l) ⊎ ((j ≡ r) ⊎ ((f.inside j ≡ true) × (j ≢ a) × (j ≢ f.up a))))

pub record RootForm (v w : View) (f h : Form) (a q l r m : ℕ) (sep : List ℕ) : Type 0 where
  pub top_at : Placed h v.top w.height None None v.top (f.index v.top)
  pub q_at : Placed h q v.height None None v.top 0
  pub l_at : Placed h l (f.level a) None (Some sep) q 0
  pub r_at : Placed h r (f.level a) (Some sep) None q 1
  pub kept : (j : ℕ) → f.inside j ≡ true → j ≢ a → j ≢ v.top → f.up j ≢ a → Stays f h j
  pub halves : HalvesForm v f h a l r m
  pub only : (j : ℕ) → h.inside j ≡ true → (j ≡ q) ⊎ ((j ≡ l) ⊎ ((j ≡ r) ⊎ ((f.inside j ≡ true) × (j ≢ a))))
