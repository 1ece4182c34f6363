-- What is read of a node's words by those who know nothing of words: equal words, equal answers.
use Rattle.std.specs.Prelude.{ℕ, ◌-◌, nat_lt, if◌then◌else◌, List, [], Option}
use Rattle.bz_slotted.specs.Page.{page}
use Rattle.bz_slotted.specs.Records.{key_at, found, live_words, pointer_at}

-- a node's level and how many records it has
unfoldable pub level_of : (ℕ → ℕ) → ℕ
level_of n = (page n).level

unfoldable pub count_of : (ℕ → ℕ) → ℕ
count_of n = (page n).count

-- child i of an inner node, its pointer less 1, and the lower bound of child i; past the last one 0 and no bytes
unfoldable pub child_of : (ℕ → ℕ) → ℕ → ℕ
child_of n i = if nat_lt i (page n).count then n (pointer_at (page n) i) - 1 else 0

unfoldable pub key_of : (ℕ → ℕ) → ℕ → List ℕ
key_of n i = if nat_lt i (page n).count then key_at (page n) i else []

-- what a leaf says of a key, and how many live words it has
unfoldable pub found_of : (ℕ → ℕ) → List ℕ → Option (List ℕ)
found_of n key = found (page n) key

unfoldable pub live_of : (ℕ → ℕ) → ℕ
live_of n = live_words (page n)
