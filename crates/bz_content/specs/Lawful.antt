-- Which words of an image are lawful: they are of a kind, those of superblock and descriptors hold what these
-- may hold, and a pointer or tag names an entry of a swap that has its address for a target.
use Rattle.std.specs.Prelude.{ℕ, zero, suc, ◌+◌, ◌%◌, ◌^◌, ◌==◌, ◌&&◌, ◌||◌, not, nat_lt, nat_le, if◌then◌else◌, Bool, true, Option, Some, None}
use Rattle.bz_layout.specs.Addresses.{node_address, swap_word_of}
use Rattle.bz_layout.specs.declared.config.Config.{Config}
use Rattle.bz_layout.specs.declared.sizes.TheConstants.{SUPERBLOCK_WORDS, ROOT_AT, ROOT_STATUS_AT, SWAP_STATUS_AT, MAX_ENTRIES}
use Rattle.bz_word.specs.Fields.{field}
use Rattle.bz_word.specs.Kinds.{kind}
use Rattle.bz_word.specs.declared.kind.WordKind.{WordKind}
use Rattle.bz_word.specs.declared.kind.WordKind.TheVariants.{Value, Dirty, Swap, Tag}
use Rattle.bz_slotted.specs.Tests.{every, implies}
use Rattle.bz_content.specs.Resolving.{status_in, count_in, target_in, expected_in, value_in}

-- the word is of a kind: at most one control bit is set, a pointer has nothing above its number, and a tag's
-- worker is 1 to 64
abbrev pub is_word : ℕ → Bool
is_word x =
    nat_lt x (2 ^ 64)
    && (nat_le (field 61 1 x + field 62 1 x + field 63 1 x) 1
    && (implies (field 62 1 x == 1) (field 16 45 x == 0)
    && implies (field 61 1 x == 1) (nat_le 1 (field 18 7 x) && nat_le (field 18 7 x) 64)))

-- the word is a plain value
abbrev pub is_value : ℕ → Bool
is_value x = nat_lt x (2 ^ 61)

-- the greatest status of a descriptor: failed
abbrev pub LAST_STATUS : ℕ
LAST_STATUS = 3

-- a descriptor that a pointer or tag may name: it has begun a swap, of one to four entries, from values to values
abbrev pub is_begun : Config → (ℕ → ℕ) → ℕ → Bool
is_begun c raw s =
    nat_lt s c.swaps
    && (not (status_in raw s == 0)
    && (nat_lt 0 (count_in raw s)
    && (nat_le (count_in raw s) MAX_ENTRIES
    && every (count_in raw s) (λ i. is_value (expected_in raw s i) && is_value (value_in raw s i)))))

-- a pointer's descriptor has an entry with the address; so has a tag's, and it is the tag's entry
abbrev pub is_named : Config → (ℕ → ℕ) → ℕ → WordKind → Bool
is_named c raw a (Value v) = true
is_named c raw a (Dirty v) = true
is_named c raw a (Swap s) = is_begun c raw s && not (every (count_in raw s) (λ i. not (target_in raw s i == a)))
is_named c raw a (Tag s e w q) = is_begun c raw s && (nat_lt e (count_in raw s) && target_in raw s e == a)

-- the address is one of a descriptor
abbrev pub is_in_descriptor : Config → ℕ → Bool
is_in_descriptor c a = nat_le SUPERBLOCK_WORDS a && nat_lt a (node_address c 0)

-- the address is one of the superblock, but of neither the root pointer nor the status that guards it
abbrev pub is_fixed : ℕ → Bool
is_fixed a = nat_lt a SUPERBLOCK_WORDS && not ((a == ROOT_AT) || (a == ROOT_STATUS_AT))

-- the word at an address is lawful there
unfoldable pub is_lawful : Config → (ℕ → ℕ) → ℕ → Bool
is_lawful c raw a =
    is_word (raw a)
    && (if is_in_descriptor c a
    then (if swap_word_of a == SWAP_STATUS_AT then nat_le (raw a % 2 ^ 63) LAST_STATUS else is_value (raw a))
    else (if is_fixed a then is_value (raw a) else is_named c raw a (kind (raw a))))

-- the first unlawful word from an address on, of so many
unfoldable pub first_unlawful : Config → (ℕ → ℕ) → ℕ → ℕ → Option ℕ
first_unlawful c raw a zero = None
first_unlawful c raw a (suc n) = if is_lawful c raw a then first_unlawful c raw (a + 1) n else Some a
