-- What the records of a leaf and of an inner node put into their node, and which lists of them make one.
use Rattle.std.specs.Prelude.{◌≡◌, ℕ, ◌+◌, ◌≤◌, ◌<◌, ◌^◌, ◌∷◌, [], ◌++◌, List, length, map, drop, slice_index_or, All, Option, Some, None, IsSome}
use Rattle.std.specs.Ordering.{nat_cmp}
use Rattle.std.specs.Cmp.Lexicographic.{slice_cmp}
use Rattle.std.specs.declared.cmp.Ordering.TheVariants.{Less}
use Rattle.bz_key.specs.Bytes.{IsKey, IsPayload}
use Rattle.bz_key.specs.Packing.{packed}
use Rattle.bz_node.specs.declared.child.Child.{Child}
use Rattle.bz_node.specs.Layout.{Entry, bound_of, node_words}

-- a record of a leaf: the words of its key, then those of its payload
abbrev pub pair_entry : (List ℕ × List ℕ) → Entry
pair_entry r = record { key = length r.0; total = length r.0 + length r.1; words = packed r.0 ++ packed r.1 }

-- a record of an inner node: the words of its lower bound, then the pointer, which is the slot plus 1 and
-- counts as seven bytes
abbrev pub child_entry : Child → Entry
child_entry c =
    record { key = length (bound_of c.low); total = length (bound_of c.low) + 7; words = packed (bound_of c.low) ++ (c.slot + 1) ∷ [] }

-- a record of a leaf has a key and a payload
pub record IsPair (r : List ℕ × List ℕ) : Type 0 where
  pub key : IsKey r.0
  pub payload : IsPayload r.1

-- a bound is absent or a key
abbrev pub IsBound : Option (List ℕ) → Type 0
IsBound None = Unit {0}
IsBound (Some key) = IsKey key

-- a child has a bound and a slot of 16 bits
pub record IsChild (c : Child) : Type 0 where
  pub low : IsBound c.low
  pub slot : c.slot < 2 ^ 16

-- the words of a leaf
abbrev pub leaf_words : List (List ℕ × List ℕ) → Option (List ℕ) → Option (List ℕ) → List ℕ
leaf_words records low high = node_words 0 low high (map pair_entry records)

-- the words of an inner node
abbrev pub inner_words : List Child → Option (List ℕ) → Option (List ℕ) → ℕ → List ℕ
inner_words children low high level = node_words level low high (map child_entry children)

-- one key is before another
abbrev pub IsBefore : List ℕ → List ℕ → Type 0
IsBefore a b = slice_cmp nat_cmp a b ≡ Less

-- a key is not before the low fence, if there is one
abbrev pub IsAtLeast : Option (List ℕ) → List ℕ → Type 0
IsAtLeast None key = Unit {0}
IsAtLeast (Some low) key = ¬ IsBefore key low

-- a key is after the low fence, if there is one
abbrev pub IsAbove : Option (List ℕ) → List ℕ → Type 0
IsAbove None key = Unit {0}
IsAbove (Some low) key = IsBefore low key

-- a key is before the high fence, if there is one
abbrev pub IsBelow : Option (List ℕ) → List ℕ → Type 0
IsBelow None key = Unit {0}
IsBelow (Some high) key = IsBefore key high

-- each key is before every later one
abbrev pub AreRising : List (List ℕ) → Type 0
AreRising keys = (i j : ℕ) → i < j → j < length keys → IsBefore (slice_index_or keys i []) (slice_index_or keys j [])

-- the keys of records
abbrev pub keys_of : List (List ℕ × List ℕ) → List (List ℕ)
keys_of records = map (λ (r : List ℕ × List ℕ). r.0) records

-- the lower bounds of all children but the first
abbrev pub separators_of : List Child → List (List ℕ)
separators_of children = map (λ (c : Child). bound_of c.low) (drop 1 children)

-- records that make a leaf: their keys rise, and lie within the fences
pub record IsLeafList (records : List (List ℕ × List ℕ)) (low high : Option (List ℕ)) : Type 0 where
  pub rising : AreRising (keys_of records)
  pub from : All (IsAtLeast low) (keys_of records)
  pub below : All (IsBelow high) (keys_of records)

-- children that make an inner node: there is one, the first alone has no lower bound, and the bounds of the
-- others rise and lie between the fences
pub record IsChildList (children : List Child) (low high : Option (List ℕ)) : Type 0 where
  pub some : 0 < length children
  pub first : (i : ℕ) (d : Child) → i < length children → i < 1 → (slice_index_or children i d).low ≡ None
  pub others : (i : ℕ) (d : Child) → i < length children → 1 ≤ i → IsSome (slice_index_or children i d).low
  pub rising : AreRising (separators_of children)
  pub above : All (IsAbove low) (separators_of children)
  pub below : All (IsBelow high) (separators_of children)
