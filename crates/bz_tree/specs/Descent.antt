-- The way down to the leaf of a key, and what the tree says of the key. It is the lookup of the BzTree paper:
-- in each inner node take the child with the last separator key that is not above the key.
use Rattle.std.specs.Prelude.{ℕ, zero, suc, ◌-◌, if◌then◌else◌, List, Option}
use Rattle.bz_tree.specs.Order.{is_before}
use Rattle.bz_tree.specs.View.{View}

-- the last child, of those up to n, whose lower bound is not above the key
unfoldable pub pick : View → ℕ → List ℕ → ℕ → ℕ
pick v k key zero = zero
pick v k key (suc n) = if is_before key (v.key k (suc n)) then pick v k key n else suc n

-- the child of slot k that the key belongs to
abbrev pub choice : View → ℕ → List ℕ → ℕ
choice v k key = pick v k key (v.count k - 1)

-- the slot that is so many levels below slot k on the way to the key
unfoldable pub descend : View → List ℕ → ℕ → ℕ → ℕ
descend v key zero k = k
descend v key (suc l) k = descend v key l (v.child k (choice v k key))

-- the leaf of a key
abbrev pub leaf_of : View → List ℕ → ℕ
leaf_of v key = descend v key v.height v.top

-- what the tree says of a key: what its leaf says
abbrev pub content : View → List ℕ → Option (List ℕ)
content v key = v.found (leaf_of v key) key
