-- Where each reached slot of a tree stands. A form is a guess of that: it fits an image where every slot that
-- it calls reached agrees with its parent and with its children. So a tree is told slot by slot, with no
-- recursion, and a swap's law is that the form, changed at a few slots, fits the image after.
use Rattle.std.specs.Prelude.{◌≡◌, ◌≢◌, ℕ, ◌+◌, ◌<◌, Bool, true, List, Option, None}
use Rattle.bz_tree.specs.Order.{is_before, is_at_least, is_above, is_below, is_within}
use Rattle.bz_tree.specs.View.{View, low_at, high_at}

pub record Form : Type 0 where
  -- whether the slot is reached
  pub inside : ℕ → Bool
  -- its level, 0 for a leaf
  pub level : ℕ → ℕ
  -- the bounds of the keys that belong below it
  pub low : ℕ → Option (List ℕ)
  pub high : ℕ → Option (List ℕ)
  -- its parent, and which child of it the slot is
  pub up : ℕ → ℕ
  pub index : ℕ → ℕ

-- slot c stands as child i of slot k
pub record Stands (v : View) (f : Form) (k i c : ℕ) : Type 0 where
  pub inside : f.inside c ≡ true
  pub level : f.level c + 1 ≡ f.level k
  pub low : f.low c ≡ low_at v k (f.low k) i
  pub high : f.high c ≡ high_at v k (f.high k) i
  pub up : f.up c ≡ k
  pub index : f.index c ≡ i

-- slot k is a child of its parent, at the place that the form gives it
pub record Hangs (v : View) (f : Form) (k : ℕ) : Type 0 where
  pub inside : f.inside (f.up k) ≡ true
  pub inner : 0 < f.level (f.up k)
  pub within : f.index k < v.count (f.up k)
  pub child : v.child (f.up k) (f.index k) ≡ k
  pub lower : f.level k < v.height

-- the form is that of the image: the superblock stands at the top, and of every reached slot no rule is
-- broken, its children stand below it, and it hangs from its parent
pub record Fits (v : View) (f : Form) : Type 0 where
  pub top : f.inside v.top ≡ true
  pub top_up : f.up v.top ≡ v.top
  pub top_low : f.low v.top ≡ None
  pub top_high : f.high v.top ≡ None
  pub top_one : v.count v.top ≡ 1
  pub height : f.level v.top ≡ v.height
  pub tall : 0 < v.height
  pub super : v.fault v.top v.height None None ≡ None
  pub whole : (k : ℕ) → f.inside k ≡ true → k ≢ v.top → v.fault k (f.level k) (f.low k) (f.high k) ≡ None
  pub down : (k i : ℕ) → f.inside k ≡ true → 0 < f.level k → i < v.count k → Stands v f k i (v.child k i)
  pub hangs : (k : ℕ) → f.inside k ≡ true → k ≢ v.top → Hangs v f k

-- an inner slot has a child, and the lower bounds of its other children rise strictly between its own bounds
pub record Rises (v : View) (k : ℕ) (low high : Option (List ℕ)) : Type 0 where
  pub some : 0 < v.count k
  pub rise : (i j : ℕ) → 0 < i → i < j → j < v.count k → is_before (v.key k i) (v.key k j) ≡ true
  pub first : (i : ℕ) → 0 < i → i < v.count k → is_above (v.key k i) low ≡ true
  pub last : (i : ℕ) → 0 < i → i < v.count k → is_below (v.key k i) high ≡ true

-- what the rules of an image must see to: the bounds of an inner slot that breaks none rise, and a leaf that
-- breaks none has a payload only for keys in its range
pub record IsHonest (v : View) : Type 0 where
  pub rises : (k l : ℕ) (low high : Option (List ℕ)) → k ≢ v.top → 0 < l → v.fault k l low high ≡ None → Rises v k low high
  pub holds : (k : ℕ) (low high : Option (List ℕ)) (key : List ℕ) → k ≢ v.top → v.fault k 0 low high ≡ None → v.found k key ≢ None → is_within key low high ≡ true

-- slot k is a reached leaf in whose range the key is
pub record Holds (f : Form) (key : List ℕ) (k : ℕ) : Type 0 where
  pub inside : f.inside k ≡ true
  pub leaf : f.level k ≡ 0
  pub low : is_at_least key (f.low k) ≡ true
  pub high : is_below key (f.high k) ≡ true
