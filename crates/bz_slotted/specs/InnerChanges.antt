-- What a swap changes in an inner node, and what the acts of a swap change in how a node's words stand.
use Rattle.std.specs.Prelude.{◌≡◌, ◌≢◌, ℕ, ◌+◌, ◌^◌, ◌<◌, ◌≤◌, false, List, Option, None}
use Rattle.bz_layout.specs.declared.sizes.TheConstants.{STATUS_AT, META_AT}
use Rattle.bz_slotted.specs.Page.{page}
use Rattle.bz_slotted.specs.Readers.{count_of, child_of, key_of}
use Rattle.bz_slotted.specs.Records.{pointer_at}
use Rattle.bz_slotted.specs.Rules.{node_fault}

-- the pointer of child i becomes that of slot c, and of the status at most the stamp changes; how the
-- pointers' words stand is no matter
pub record PointerSwap (nodes : ℕ) (r s n m : ℕ → ℕ) (i c : ℕ) : Type 0 where
  pub others : (k : ℕ) → k ≢ STATUS_AT → k ≢ pointer_at (page n) i → m k ≡ n k
  pub raw : (k : ℕ) → META_AT + (page n).count ≤ k → ((j : ℕ) → j < (page n).count → k ≢ pointer_at (page n) j) → s k ≡ r k
  pub status : m STATUS_AT < 2 ^ 61
  pub thawed : (page m).frozen ≡ false
  pub count : (page m).count ≡ (page n).count
  pub block : (page m).block ≡ (page n).block
  pub dead : (page m).dead ≡ (page n).dead
  pub inside : i < (page n).count
  pub new : m (pointer_at (page n) i) ≡ c + 1
  pub slot : c < nodes

-- no rule is broken, and child i alone is another
pub record ChangesChild (nodes : ℕ) (s n m : ℕ → ℕ) (l : ℕ) (lo hi : Option (List ℕ)) (i c : ℕ) : Type 0 where
  pub none : node_fault nodes s m l lo hi ≡ None
  pub count : count_of m ≡ count_of n
  pub child : child_of m i ≡ c
  pub others : (j : ℕ) → j ≢ i → child_of m j ≡ child_of n j
  pub keys : (j : ℕ) → key_of m j ≡ key_of n j

abbrev pub PointerSwapChangesChild : Type 0
PointerSwapChangesChild =
    (nodes : ℕ) (r s n m : ℕ → ℕ) (l : ℕ) (lo hi : Option (List ℕ)) (i c : ℕ) → 0 < l → node_fault nodes r n l lo hi ≡ None → PointerSwap nodes r s n m i c → ChangesChild nodes s n m l lo hi i c

-- a word of the block that is not a pointer of an inner node stands as it stood
abbrev pub StandsAlike : (r s n : ℕ → ℕ) → ℕ → Type 0
StandsAlike r s n l = (k : ℕ) → META_AT + (page n).count ≤ k → (0 < l → (j : ℕ) → j < (page n).count → k ≢ pointer_at (page n) j) → s k ≡ r k

-- how a node's words stand is a matter of its keys and payloads alone
abbrev pub StandingIsQuiet : Type 0
StandingIsQuiet = (nodes : ℕ) (r s n : ℕ → ℕ) (l : ℕ) (lo hi : Option (List ℕ)) → node_fault nodes r n l lo hi ≡ None → StandsAlike r s n l → node_fault nodes s n l lo hi ≡ None
