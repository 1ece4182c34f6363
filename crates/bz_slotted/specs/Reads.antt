-- What the program that looks for a fault knows of the words it reads next.
use Rattle.std.specs.Prelude.{◌≡◌, ℕ, ◌+◌, ◌<◌, ◌≤◌, true, IsSome}
use Rattle.bz_key.specs.Packing.{unpacked_key}
use Rattle.bz_key.specs.declared.limits.TheConstants.{KEY_BYTES}
use Rattle.bz_layout.specs.declared.sizes.TheConstants.{NODE_WORDS}
use Rattle.bz_word.specs.declared.meta.Meta.{Meta}
use Rattle.bz_slotted.specs.Page.{visible, held, extent_of, Page}
use Rattle.bz_slotted.specs.Records.{key_words, weight, pointer_at}

-- a record lies within the node, and its key, if it has one, can be read
pub record HasKey (p : Page) (m : Meta) : Type 0 where
  pub ends : (extent_of m).offset + weight m ≤ NODE_WORDS
  pub short : (extent_of m).key ≤ KEY_BYTES
  pub packs : 0 < (extent_of m).key → IsSome (unpacked_key (extent_of m).key (key_words p.word (extent_of m)))

-- the keys of all visible records can be read
abbrev pub KeysAreRead : Page → Type 0
KeysAreRead p = (j : ℕ) → j < p.count → visible (p.meta j) ≡ true → HasKey p (p.meta j)

-- the pointers of all records lie within the node
abbrev pub PointersAreRead : Page → Type 0
PointersAreRead p = (i : ℕ) → i < p.count → pointer_at p i < NODE_WORDS

-- the first records, so many, hold no word before this place
abbrev pub BeginsAbove : Page → ℕ → ℕ → Type 0
BeginsAbove p n place = (k : ℕ) → k < n → held (p.meta k) ≡ true → place ≤ (extent_of (p.meta k)).offset
