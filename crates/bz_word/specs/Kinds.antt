-- The kinds of word: which numbers stand for them, and which numbers stand for one.
use Rattle.std.specs.Prelude.{◌≡◌, if◌then◌else◌, ◌==◌, ◌-◌, ℕ, ◌+◌, ◌^◌, ◌<◌, ◌≤◌}
use Rattle.bz_word.specs.Fields.{field, at}
use Rattle.bz_word.specs.declared.kind.WordKind.{WordKind}
use Rattle.bz_word.specs.declared.kind.WordKind.TheVariants.{Value, Dirty, Swap, Tag}

-- the word that stands for this kind: bit 63 is the dirty bit, bit 62 the pointer bit, bit 61 the tag bit
abbrev pub word : WordKind → ℕ
word (Value v) = v
word (Dirty v) = at 63 1 + v
word (Swap s) = at 62 1 + s
word (Tag s e w q) = at 61 1 + at 25 q + at 18 w + at 16 e + s

-- the fields of a kind are in range
abbrev pub IsKind : WordKind → Type 0
IsKind (Value v) = v < 2 ^ 61
IsKind (Dirty v) = v < 2 ^ 61
IsKind (Swap s) = s < 2 ^ 16
IsKind (Tag s e w q) = (s < 2 ^ 16) × (e < 4) × (1 ≤ w) × (w ≤ 64) × (q < 2 ^ 36)

-- the word stands for a kind: at most one control bit is set, a pointer has nothing above its swap's
-- number, and a tag's worker is 1 to 64
pub record IsWord (x : ℕ) : Type 0 where
  pub size : x < 2 ^ 64
  pub control : field 61 1 x + field 62 1 x + field 63 1 x ≤ 1
  pub pointer : field 62 1 x ≡ 1 → field 16 45 x ≡ 0
  pub worker : field 61 1 x ≡ 1 → (1 ≤ field 18 7 x) × (field 18 7 x ≤ 64)

-- the kind of a word; of a number that stands for none, some kind
unfoldable pub kind : ℕ → WordKind
kind x =
    if field 61 3 x == 0 then Value x
    else if field 61 3 x == 4 then Dirty (x - 2 ^ 63)
    else if field 61 3 x == 2 then Swap (x - 2 ^ 62)
    else Tag (field 0 16 x) (field 16 2 x) (field 18 7 x) (field 25 36 x)
