-- What a swap does to single slots: it leaves them as they are, or changes one child of them, or makes them
-- anew with one child more.
use Rattle.std.specs.Prelude.{◌≡◌, ℕ, ◌+◌, ◌<◌, ◌≤◌, ◌==◌, if◌then◌else◌, List, Option, None}
use Rattle.bz_tree.specs.View.{View}
use Rattle.bz_tree.specs.Form.{Form}

-- slot k says in both images the same, and breaks no rule in the second where it broke none in the first
pub record SameSlot (v w : View) (k : ℕ) : Type 0 where
  pub count : w.count k ≡ v.count k
  pub child : (i : ℕ) → w.child k i ≡ v.child k i
  pub key : (i : ℕ) → w.key k i ≡ v.key k i
  pub found : (key : List ℕ) → w.found k key ≡ v.found k key
  pub fault : (l : ℕ) (low high : Option (List ℕ)) → v.fault k l low high ≡ None → w.fault k l low high ≡ None

-- the two images have their superblock at one slot, and their trees one height
pub record SameTop (v w : View) : Type 0 where
  pub top : w.top ≡ v.top
  pub height : w.height ≡ v.height

-- child i of slot p is c now, and nothing else of p changed. It is the one link that a swap turns.
pub record Relinked (v w : View) (f : Form) (p i c : ℕ) : Type 0 where
  pub count : w.count p ≡ v.count p
  pub key : (j : ℕ) → w.key p j ≡ v.key p j
  pub child : (j : ℕ) → w.child p j ≡ if j == i then c else v.child p j
  pub whole : w.fault p (f.level p) (f.low p) (f.high p) ≡ None

-- the children of an inner node, and the lower bounds of all but the first
pub record Children : Type 0 where
  pub count : ℕ
  pub child : ℕ → ℕ
  pub key : ℕ → List ℕ

-- those of a slot
abbrev pub children : View → ℕ → Children
children v k = record { count = v.count k; child = v.child k; key = v.key k }

-- q has the children of p, but for child i, in whose place are l and r, parted by sep
pub record Wider (p q : Children) (i l r : ℕ) (sep : List ℕ) : Type 0 where
  pub count : q.count ≡ p.count + 1
  pub child_before : (j : ℕ) → j < i → q.child j ≡ p.child j
  pub child_l : q.child i ≡ l
  pub child_r : q.child (i + 1) ≡ r
  pub child_after : (j : ℕ) → i < j → q.child (j + 1) ≡ p.child j
  pub key_before : (j : ℕ) → j ≤ i → q.key j ≡ p.key j
  pub parted : q.key (i + 1) ≡ sep
  pub key_after : (j : ℕ) → i < j → q.key (j + 1) ≡ p.key j

-- l and r have between them the children of a: l the first m, r the others, from sep on
pub record Halves (a l r : Children) (m : ℕ) (sep : List ℕ) : Type 0 where
  pub some : 0 < m
  pub more : m < a.count
  pub count_l : l.count ≡ m
  pub count_r : r.count + m ≡ a.count
  pub child_l : (j : ℕ) → j < m → l.child j ≡ a.child j
  pub key_l : (j : ℕ) → j < m → l.key j ≡ a.key j
  pub child_r : (j : ℕ) → r.child j ≡ a.child (j + m)
  pub key_r : (j : ℕ) → 0 < j → r.key j ≡ a.key (j + m)
  pub parted : a.key m ≡ sep

-- the two children of a new root, l and r, parted by sep
pub record AreTwo (q : Children) (l r : ℕ) (sep : List ℕ) : Type 0 where
  pub count : q.count ≡ 2
  pub child_l : q.child 0 ≡ l
  pub child_r : q.child 1 ≡ r
  pub parted : q.key 1 ≡ sep
