-- What a word of an image resolves to, by the durable words of the descriptors: the value that recovery leaves.
-- This is the read of the multi-word compare-and-swap that the BzTree paper stands on: a pointer stands for the
-- new value where its swap has succeeded, and for the expected one otherwise.
use Rattle.std.specs.Prelude.{ℕ, zero, suc, ◌+◌, ◌*◌, ◌%◌, ◌^◌, ◌==◌, if◌then◌else◌}
use Rattle.bz_layout.specs.Addresses.{swap_address}
use Rattle.bz_layout.specs.declared.sizes.TheConstants.{SWAP_STATUS_AT, SWAP_COUNT_AT, ENTRIES_AT, ENTRY_WORDS}
use Rattle.bz_word.specs.Kinds.{kind}
use Rattle.bz_word.specs.declared.kind.WordKind.{WordKind}
use Rattle.bz_word.specs.declared.kind.WordKind.TheVariants.{Value, Dirty, Swap, Tag}

-- a descriptor's status, without the dirty bit
abbrev pub status_in : (ℕ → ℕ) → ℕ → ℕ
status_in raw s = raw (swap_address s + SWAP_STATUS_AT) % 2 ^ 63

-- the status of a swap that has succeeded
abbrev pub SUCCEEDED : ℕ
SUCCEEDED = 2

-- how many entries a descriptor has
abbrev pub count_in : (ℕ → ℕ) → ℕ → ℕ
count_in raw s = raw (swap_address s + SWAP_COUNT_AT)

-- the three words of an entry: target, expected value, new value
abbrev pub entry_word : (ℕ → ℕ) → ℕ → ℕ → ℕ → ℕ
entry_word raw s i word = raw (swap_address s + (ENTRIES_AT + ENTRY_WORDS * i) + word)

abbrev pub target_in : (ℕ → ℕ) → ℕ → ℕ → ℕ
target_in raw s i = entry_word raw s i 0

abbrev pub expected_in : (ℕ → ℕ) → ℕ → ℕ → ℕ
expected_in raw s i = entry_word raw s i 1

abbrev pub value_in : (ℕ → ℕ) → ℕ → ℕ → ℕ
value_in raw s i = entry_word raw s i 2

-- the first entry from i on, of so many, whose target is the address
unfoldable pub entry_for : (ℕ → ℕ) → ℕ → ℕ → ℕ → ℕ → ℕ
entry_for raw s a i zero = i
entry_for raw s a i (suc n) = if target_in raw s i == a then i else entry_for raw s a (i + 1) n

-- what a pointer to descriptor s stands for at an address
abbrev pub pointed : (ℕ → ℕ) → ℕ → ℕ → ℕ
pointed raw a s =
    if status_in raw s == SUCCEEDED
    then value_in raw s (entry_for raw s a 0 (count_in raw s))
    else expected_in raw s (entry_for raw s a 0 (count_in raw s))

-- what a word of this kind stands for at an address
abbrev pub stands_for : (ℕ → ℕ) → ℕ → WordKind → ℕ
stands_for raw a (Value v) = v
stands_for raw a (Dirty v) = v
stands_for raw a (Swap s) = pointed raw a s
stands_for raw a (Tag s e w q) = expected_in raw s e

-- what the word at an address resolves to
unfoldable pub resolve : (ℕ → ℕ) → ℕ → ℕ
resolve raw a = stands_for raw a (kind (raw a))
