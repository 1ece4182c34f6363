-- Spellings are plain text.
use Rattle.std.proofs.Common.{◌≡◌, ◌<◌, ℕ, List, [], ◌∷◌, ◌++◌, true, refl, arith, IsUtf8, length, take}
use Rattle.std.specs.List.{AllByRecursion}
use Rattle.std.proofs.lemmas.Bool.Decides.{nat_tests}
use Rattle.std.proofs.lemmas.Grind.{common_steps}
use Rattle.std.proofs.lemmas.List.Elements.{recursion_from_All}
use Rattle.json.proofs.Printed.Utf8.{are_ascii, IsUtf8-are_ascii}
use Rattle.bz_key.specs.Bytes.{AreBytes}
use Rattle.bz_key.specs.Spelling.{IsSpellingByte, spelled}
use Rattle.bz_key.proofs.Proved.{spelling_is_plain}

ascii_byte : (c : ℕ) → IsSpellingByte c → c < 128
ascii_byte c h = grind (arith, nat_tests)

all_ascii : (xs : List ℕ) → AllByRecursion IsSpellingByte xs → are_ascii xs ≡ true
all_ascii [] h = refl
all_ascii (x ∷ xs) h =
    let small : x < 128 = ascii_byte x h.0 in
    let rest : are_ascii xs ≡ true = all_ascii xs h.1 in
    rw rest (grind (arith, nat_tests))

pub spelled_utf8 : (bytes : List ℕ) → AreBytes bytes → IsUtf8 (spelled bytes)
spelled_utf8 bytes each = IsUtf8-are_ascii _ (all_ascii _ (recursion_from_All _ _ (spelling_is_plain bytes each)))

front : (xs ys : List ℕ) (count : ℕ) → count ≡ length xs → take count (xs ++ ys) ≡ xs
front xs ys count is = grind (arith, common_steps)

-- where a spelling stands at the front of a buffer
pub front_utf8 : (out bytes rest : List ℕ) (count : ℕ) → count ≡ length (spelled bytes) → out ≡ spelled bytes ++ rest → AreBytes bytes → IsUtf8 (take count out)
front_utf8 out bytes rest count len is each = rw (is, front (spelled bytes) rest count len) (spelled_utf8 bytes each)
