-- The kinds of words as the program reads them, and which words it can resolve.
use Rattle.std.specs.Prelude.{◌≡◌, ℕ, ◌%◌, ◌^◌, ◌≤◌, ◌==◌, ◌&&◌, not, nat_le, if◌then◌else◌, Bool, true, Option, Some, None}
use Rattle.bz_content.specs.Lawful.{is_word, is_value, LAST_STATUS}
use Rattle.bz_content.specs.Resolving.{count_in, target_in, expected_in, value_in}
use Rattle.bz_layout.specs.Addresses.{swap_word_of}
use Rattle.bz_layout.specs.declared.sizes.TheConstants.{MAX_ENTRIES, SWAP_STATUS_AT}
use Rattle.bz_word.specs.Kinds.{kind}
use Rattle.bz_word.specs.declared.kind.WordKind.{WordKind}
use Rattle.bz_word.specs.declared.kind.WordKind.TheVariants.{Value, Dirty, Swap, Tag}

-- the kind of a word, if it is of one
unfoldable pub kind_read : ℕ → Option WordKind
kind_read x = if is_word x then Some (kind x) else None

-- a descriptor has no more entries than there may be
abbrev pub HasFewEntries : (ℕ → ℕ) → ℕ → Type 0
HasFewEntries raw s = count_in raw s ≤ MAX_ENTRIES

-- a word of this kind names no descriptor with too many entries
abbrev pub IsReadableKind : (ℕ → ℕ) → WordKind → Type 0
IsReadableKind raw (Value v) = Unit {0}
IsReadableKind raw (Dirty v) = Unit {0}
IsReadableKind raw (Swap s) = HasFewEntries raw s
IsReadableKind raw (Tag s e w q) = Unit {0}

-- the word at an address is of a kind, and can be resolved
pub record CanBeResolved (raw : ℕ → ℕ) (a : ℕ) : Type 0 where
  pub is_word : is_word (raw a) ≡ true
  pub readable : IsReadableKind raw (kind (raw a))

-- the word at an address among the descriptors may stand there
abbrev pub descriptor_word_test : (ℕ → ℕ) → ℕ → Bool
descriptor_word_test raw a = if swap_word_of a == SWAP_STATUS_AT then nat_le (raw a % 2 ^ 63) LAST_STATUS else is_value (raw a)

-- an entry leads from a value to a value
abbrev pub values_test : (ℕ → ℕ) → ℕ → ℕ → Bool
values_test raw s i = is_value (expected_in raw s i) && is_value (value_in raw s i)

-- an entry has another target than the address
abbrev pub other_target_test : (ℕ → ℕ) → ℕ → ℕ → ℕ → Bool
other_target_test raw a s i = not (target_in raw s i == a)
