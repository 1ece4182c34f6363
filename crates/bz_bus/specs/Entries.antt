-- Lists of entries, the newest first, and whose the entries are.
use Rattle.std.specs.Prelude.{◌≡◌, ℕ, ◌<◌, ◌==◌, ◌⊎◌, List, ◌++◌, All, Bool, true, length, cond, ltb, slice_index_or}
use Rattle.std.specs.List.{filter}
use Rattle.bz_bus.specs.declared.TheConstants.{PASSES}

-- the list grew, by entries at its front
abbrev pub Extends : {E : Type 0} → List E → List E → Type 0
Extends {E} past now = (added : List E) × (now ≡ added ++ past)

-- the longer of two lists
abbrev pub longer : {E : Type 0} → List E → List E → List E
longer xs ys = cond (ltb (length xs) (length ys)) ys xs

-- no pass has the number n
abbrev pub IsFreeIn : List Bool → ℕ → Type 0
IsFreeIn free n = slice_index_or free n true ≡ true

module _ {E : Type 0} (owner : E → ℕ) where
  -- the entries of one owner
  abbrev pub entries_of : ℕ → List E → List E
  entries_of n xs = filter (λ e. owner e == n) xs

  -- what a turn of the pass n may find, where the pass has seen `seen`: a list that extends it, with no further entry of n,
  -- and, where it is the first pass, of a number that is free
  pub record MayFind (n : ℕ) (free : List Bool) (seen found : List E) : Type 0 where
    pub extends : Extends seen found
    pub own : entries_of n found ≡ entries_of n seen
    pub others : n ≡ 0 → (k : ℕ) → k < PASSES → IsFreeIn free k → entries_of k found ≡ entries_of k seen

  -- what a turn of the pass n may leave of the list found: one that extends it, by entries of n or of nobody
  pub record MayLeave (n : ℕ) (found left : List E) : Type 0 where
    pub added : List E
    pub is : left ≡ added ++ found
    pub owned : All (λ e. (owner e ≡ n) ⊎ (owner e ≡ PASSES)) added

  -- what the first pass has seen once the pass n is joined, of which it had seen `mine` and the other `theirs`, while these numbers were free
  pub record IsJoinOf (mine theirs : List E) (n : ℕ) (free : List Bool) (now : List E) : Type 0 where
    pub is : now ≡ longer mine theirs
    pub extends_mine : Extends mine now
    pub extends_theirs : Extends theirs now
    pub first : entries_of 0 now ≡ entries_of 0 mine
    pub others : (k : ℕ) → k < PASSES → IsFreeIn free k → entries_of k now ≡ entries_of k mine
    pub joined : entries_of n now ≡ entries_of n theirs
