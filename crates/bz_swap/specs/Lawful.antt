-- Words that an image may hold outside the descriptors: a pointer or tag stands only at a target of its descriptor, which
-- can be read.
use Rattle.std.specs.Prelude.{◌≡◌, ◌≢◌, ℕ, ◌^◌, ◌<◌, ◌≤◌, List, slice_index}
use Rattle.bz_word.specs.Kinds.{IsWord}
use Rattle.bz_word.specs.declared.kind.WordKind.{WordKind}
use Rattle.bz_word.specs.declared.kind.WordKind.TheVariants.{Value, Dirty, Swap, Tag}
use Rattle.bz_swap_machine.specs.declared.status.SwapStatus.TheVariants.{Free}
use Rattle.bz_swap_machine.specs.Machine.{Entries}
use Rattle.bz_swap_cells.specs.Store.{kind_at, status_at}
use Rattle.bz_swap.specs.Resolve.{entries_at}

-- a descriptor that a pointer or tag may name: it is not free, and has one to four entries whose values fit
pub record IsReadable (swaps : ℕ) (image : List ℕ) (s : ℕ) : Type 0 where
  pub number : s < swaps
  pub status : status_at swaps image s ≢ Free
  pub some : 0 < (entries_at swaps image s).count
  pub count : (entries_at swaps image s).count ≤ 4
  pub expected : (i : ℕ) → i < (entries_at swaps image s).count → (entries_at swaps image s).expected i < 2 ^ 61
  pub value : (i : ℕ) → i < (entries_at swaps image s).count → (entries_at swaps image s).value i < 2 ^ 61

-- the entry of the descriptor has this address as its target
pub record HasEntry (x : Entries) (i a : ℕ) : Type 0 where
  pub entry : i < x.count
  pub target : x.target i ≡ a

-- what a word of this kind needs of the descriptors
abbrev pub IsLawfulKind : ℕ → List ℕ → ℕ → WordKind → Type 0
IsLawfulKind swaps image a (Value v) = Unit {0}
IsLawfulKind swaps image a (Dirty v) = Unit {0}
IsLawfulKind swaps image a (Swap s) = IsReadable swaps image s × HasEntry (entries_at swaps image s) ((entries_at swaps image s).index a) a
IsLawfulKind swaps image a (Tag s i w q) = IsReadable swaps image s × HasEntry (entries_at swaps image s) i a

-- the word at an address outside the descriptors is lawful
pub record IsLawful (swaps : ℕ) (image : List ℕ) (a : ℕ) : Type 0 where
  pub word : IsWord (slice_index image a)
  pub kind : IsLawfulKind swaps image a (kind_at swaps image a)
