-- What holds after a swap.
use Rattle.std.specs.Prelude.{◌≡◌, ◌≢◌, ℕ, ◌||◌, ◌&&◌, not, true, false, List}
use Rattle.bz_tree.specs.View.{View}
use Rattle.bz_tree.specs.Form.{Form}
use Rattle.bz_tree.specs.Descent.{leaf_of, content}
use Rattle.bz_tree.specs.Walk.{walk, is_among, IsTree, form}

-- slot j, reached in form f, is reached in form h at the same level and between the same bounds
pub record Moved (f h : Form) (j : ℕ) : Type 0 where
  pub inside : h.inside j ≡ true
  pub level : h.level j ≡ f.level j
  pub low : h.low j ≡ f.low j
  pub high : h.high j ≡ f.high j

-- and with the same parent, at the same place there
pub record Stays (f h : Form) (j : ℕ) : Type 0 where
  pub moved : Moved f h j
  pub up : h.up j ≡ f.up j
  pub index : h.index j ≡ f.index j

-- two forms reach the same slots, and each of them stands in one as in the other
pub record Agree (v : View) (f h : Form) : Type 0 where
  pub inside : (j : ℕ) → h.inside j ≡ f.inside j
  pub moved : (j : ℕ) → f.inside j ≡ true → Moved f h j
  pub stays : (j : ℕ) → f.inside j ≡ true → j ≢ v.top → Stays f h j

-- the tree is the same, slot by slot: so are its form, its fences and the leaf of each key
pub record SameTree (v w : View) : Type 0 where
  pub tree : IsTree w
  pub walk : walk w ≡ walk v
  pub leaf : (key : List ℕ) → leaf_of w key ≡ leaf_of v key

-- the tree may be another, and says of each key what it said
pub record SameContent (v w : View) : Type 0 where
  pub tree : IsTree w
  pub content : (key : List ℕ) → content w key ≡ content v key

-- which slots are reached afterwards: those of before without the ones that are gone, and the new ones. The
-- slots that stay have their levels and their bounds, but for the superblock.
pub record Exchanges (v w : View) (gone new : List ℕ) : Type 0 where
  pub reached : (j : ℕ) → (form w).inside j ≡ is_among new j || ((form v).inside j && not (is_among gone j))
  pub stays : (j : ℕ) → (form v).inside j ≡ true → is_among gone j ≡ false → j ≢ v.top → Moved (form v) (form w) j

-- a swap that turns a link: the content is the same, and these slots went for those
pub record Regrows (v w : View) (gone new : List ℕ) : Type 0 where
  pub content : SameContent v w
  pub slots : Exchanges v w gone new
