-- Values of whole numbers and plain texts: what is written of one is plain text without a line feed, and is read back.
use Rattle.std.proofs.Common.{◌≡◌, ◌<◌, ◌≤◌, ◌-◌, ◌^◌, ◌&&◌, ◌||◌, ◌==◌, ℕ, Bool, true, false, List, [], ◌∷◌, ◌++◌, Option, Some, option_map, option_and_then, refl, sym, ap, ◌∙◌, arith, append-nil, IsUtf8}
use Rattle.std.specs.Fmt.{decimal}
use Rattle.std.specs.Char.{digit_value}
use Rattle.std.specs.List.{AllByRecursion}
use Rattle.std.specs.Str.Parse.{AllDigits}
use Rattle.std.proofs.lemmas.Bool.{and_parts}
use Rattle.std.proofs.lemmas.Bool.Decides.{nat_tests}
use Rattle.std.proofs.lemmas.Fmt.{decimal_is_IsNumeral}
use Rattle.json.specs.Json as json
use Rattle.json.specs.Lex.{tokens}
use Rattle.json.specs.Tree.{depth, items_depth, members_depth, HasNumbers, ItemsHaveNumbers, MembersHaveNumbers, json_tokens}
use Rattle.json.specs.Print.{escape_byte, escape, quoted}
use Rattle.json.proofs.Printed.Decimals.{IsNumber-decimal}
use Rattle.json.proofs.Printed.Strings.{escape_byte_plain}
use Rattle.json.proofs.Printed.Tokens.{tokens-print}
use Rattle.json.proofs.Printed.Trees.{value-json_tokens, ArePrintable-json_tokens}
use Rattle.json.proofs.Printed.Utf8.{are_ascii, IsUtf8-are_ascii}
use Rattle.serde_json.specs.Data.{unsigned, negative, float, Data, null, boolean, number, string, array, object, Items, no_items, item, Members, no_members, member, put}
use Rattle.serde_json.specs.Read.{of_json, of_items, of_members, read}
use Rattle.serde_json.specs.Written.{outline, items_outline, members_outline, comma_if, compact_text, items_text, members_text}
use Rattle.serde_json.proofs.Numbers.{number_of-decimal}
use Rattle.json.specs.Token.{Token}
use Rattle.serde_json.proofs.Texts.{print-outline}
use Rattle.bz_key.specs.Spelling.{is_plain}

-- bytes of spellings
abbrev pub are_plain : List ℕ → Bool
are_plain [] = true
are_plain (c ∷ cs) = (is_plain c || (c == 37)) && are_plain cs

-- the members that a reader makes of these, one after another
abbrev pub put_all : Members → Members → Members
put_all no_members found = found
put_all (member k d ms) found = put_all ms (put k d found)

-- whole numbers below 2 ^ 64 and plain texts, nested no deeper than this; the keys of an object ascend
abbrev mutual
  pub IsGood : ℕ → Data → Type 0
  IsGood n null = Unit {0}
  IsGood n (boolean b) = ⊥
  IsGood n (number (unsigned v)) = v < 2 ^ 64
  IsGood n (number (negative z)) = ⊥
  IsGood n (number (float x)) = ⊥
  IsGood n (string s) = are_plain s ≡ true
  IsGood n (array ds) = (0 < n) × AreGoodItems (n - 1) ds
  IsGood n (object ms) = (0 < n) × AreGoodMembers (n - 1) ms × (put_all ms no_members ≡ ms)

  pub AreGoodItems : ℕ → Items → Type 0
  AreGoodItems n no_items = Unit {0}
  AreGoodItems n (item d ds) = IsGood n d × AreGoodItems n ds

  pub AreGoodMembers : ℕ → Members → Type 0
  AreGoodMembers n no_members = Unit {0}
  AreGoodMembers n (member k d ms) = (are_plain k ≡ true) × IsGood n d × AreGoodMembers n ms

mutual
  numbers : (d : Data) (n : ℕ) → IsGood n d → HasNumbers (outline d)
  numbers null n h = tt
  numbers (boolean b) n h = absurd h
  numbers (number (unsigned v)) n h = IsNumber-decimal v h
  numbers (number (negative z)) n h = absurd h
  numbers (number (float x)) n h = absurd h
  numbers (string s) n h = tt
  numbers (array ds) n h = items_numbers ds (n - 1) h.1
  numbers (object ms) n h = members_numbers ms (n - 1) h.1

  items_numbers : (ds : Items) (n : ℕ) → AreGoodItems n ds → ItemsHaveNumbers (items_outline ds)
  items_numbers no_items n h = tt
  items_numbers (item d ds) n h = (numbers d n h.0, items_numbers ds n h.1)

  members_numbers : (ms : Members) (n : ℕ) → AreGoodMembers n ms → MembersHaveNumbers (members_outline ms)
  members_numbers no_members n h = tt
  members_numbers (member k d ms) n h = (numbers d n h.1, members_numbers ms n h.2)

mutual
  shallow : (d : Data) (n : ℕ) → IsGood n d → depth (outline d) ≤ n
  shallow null n h = omega arith
  shallow (boolean b) n h = absurd h
  shallow (number v) n h = omega arith
  shallow (string s) n h = omega arith
  shallow (array ds) n h = omega (arith, items_shallow ds (n - 1) h.1, h.0)
  shallow (object ms) n h = omega (arith, members_shallow ms (n - 1) h.1, h.0)

  items_shallow : (ds : Items) (n : ℕ) → AreGoodItems n ds → items_depth (items_outline ds) ≤ n
  items_shallow no_items n h = omega arith
  items_shallow (item d ds) n h = omega (arith, shallow d n h.0, items_shallow ds n h.1)

  members_shallow : (ms : Members) (n : ℕ) → AreGoodMembers n ms → members_depth (members_outline ms) ≤ n
  members_shallow no_members n h = omega arith
  members_shallow (member k d ms) n h = omega (arith, shallow d n h.1, members_shallow ms n h.2)

mutual
  json_back : (d : Data) (n : ℕ) → IsGood n d → of_json (outline d) ≡ Some d
  json_back null n h = refl
  json_back (boolean b) n h = refl
  json_back (number (unsigned v)) n h = ap (option_map number) (number_of-decimal v h)
  json_back (number (negative z)) n h = absurd h
  json_back (number (float x)) n h = absurd h
  json_back (string s) n h = refl
  json_back (array ds) n h = ap (option_map array) (items_back ds (n - 1) h.1)
  json_back (object ms) n h = ap (option_map object) (members_back ms no_members (n - 1) h.1 ∙ ap (λ (m : Members). Some m) h.2)

  items_back : (ds : Items) (n : ℕ) → AreGoodItems n ds → of_items (items_outline ds) ≡ Some ds
  items_back no_items n h = refl
  items_back (item d ds) n h = rw (json_back d n h.0, items_back ds n h.1)

  members_back : (ms found : Members) (n : ℕ) → AreGoodMembers n ms → of_members (members_outline ms) found ≡ Some (put_all ms found)
  members_back no_members found n h = refl
  members_back (member k d ms) found n h = rw (json_back d n h.1) (members_back ms (put k d found) n h.2)

-- what is written of such a value is read back
pub read_again : (d : Data) (n : ℕ) → n ≤ 127 → IsGood n d → read (compact_text d) ≡ Some d
read_again d n few h =
    let same : tokens (compact_text d) ≡ json_tokens (outline d) = ap tokens (sym (print-outline d)) ∙ tokens-print (json_tokens (outline d)) (ArePrintable-json_tokens (outline d) (numbers d n h)) in
    ap (λ (o : Option (json.Json × List Token)). option_and_then of_json (option_and_then (λ p. json.if_last p.0 p.1) o)) (ap (json.value 127) (same ∙ sym (append-nil _)) ∙ value-json_tokens (outline d) 127 [] (omega (arith, shallow d n h))) ∙ json_back d n h

-- ---- its bytes

-- from the space to the tilde
pub record IsLineByte (b : ℕ) : Type 0 where
  pub low : 32 ≤ b
  pub high : b < 127

abbrev pub AreLineBytes : List ℕ → Type 0
AreLineBytes bytes = AllByRecursion IsLineByte bytes

pub all_append : (xs ys : List ℕ) → AreLineBytes xs → AreLineBytes ys → AreLineBytes (xs ++ ys)
all_append [] ys h k = k
all_append (x ∷ xs) ys h k = (h.0, all_append xs ys h.1 k)

byte : (b : ℕ) → 32 ≤ b → b < 127 → IsLineByte b
byte b l h = record { low = l; high = h }

plain_byte : (c : ℕ) → (is_plain c || (c == 37)) ≡ true → IsLineByte c
plain_byte c h = record { low = grind (arith, nat_tests); high = grind (arith, nat_tests) }

plain_escape : (c : ℕ) → (is_plain c || (c == 37)) ≡ true → escape_byte c ≡ c ∷ []
plain_escape c h = escape_byte_plain c (grind (arith, nat_tests)) (grind (arith, nat_tests)) (grind (arith, nat_tests))

escaped : (s : List ℕ) → are_plain s ≡ true → AreLineBytes (escape s)
escaped [] h = tt
escaped (c ∷ cs) h =
    let p = and_parts (is_plain c || (c == 37)) (are_plain cs) h in
    rw (plain_escape c p.0) (plain_byte c p.0, escaped cs p.1)

quoted_bytes : (s : List ℕ) → are_plain s ≡ true → AreLineBytes (quoted s)
quoted_bytes s h = (byte 34 (omega arith) (omega arith), all_append (escape s) (34 ∷ []) (escaped s h) (byte 34 (omega arith) (omega arith), tt))

digit_byte : (c : ℕ) → digit_value c < 10 → IsLineByte c
digit_byte c h = record { low = grind (arith, nat_tests); high = grind (arith, nat_tests) }

digit_bytes : (cs : List ℕ) → AllDigits 10 cs → AreLineBytes cs
digit_bytes [] h = tt
digit_bytes (c ∷ cs) h = (digit_byte c h.0, digit_bytes cs h.1)

decimal_bytes : (n : ℕ) → n < 2 ^ 64 → AreLineBytes (decimal n)
decimal_bytes n h = digit_bytes (decimal n) (decimal_is_IsNumeral n h).0.1

comma_bytes : (later : Bool) → AreLineBytes (comma_if later)
comma_bytes true = (byte 44 (omega arith) (omega arith), tt)
comma_bytes false = tt

mutual
  text_bytes : (d : Data) (n : ℕ) → IsGood n d → AreLineBytes (compact_text d)
  text_bytes null n h = (byte 110 (omega arith) (omega arith), (byte 117 (omega arith) (omega arith), (byte 108 (omega arith) (omega arith), (byte 108 (omega arith) (omega arith), tt))))
  text_bytes (boolean b) n h = absurd h
  text_bytes (number (unsigned v)) n h = decimal_bytes v h
  text_bytes (number (negative z)) n h = absurd h
  text_bytes (number (float x)) n h = absurd h
  text_bytes (string s) n h = quoted_bytes s h
  text_bytes (array ds) n h = (byte 91 (omega arith) (omega arith), items_bytes ds false (n - 1) h.1)
  text_bytes (object ms) n h = (byte 123 (omega arith) (omega arith), members_bytes ms false (n - 1) h.1)

  items_bytes : (ds : Items) (later : Bool) (n : ℕ) → AreGoodItems n ds → AreLineBytes (items_text later ds)
  items_bytes no_items later n h = (byte 93 (omega arith) (omega arith), tt)
  items_bytes (item d ds) later n h =
      all_append (comma_if later) (compact_text d ++ items_text true ds) (comma_bytes later) (all_append (compact_text d) (items_text true ds) (text_bytes d n h.0) (items_bytes ds true n h.1))

  members_bytes : (ms : Members) (later : Bool) (n : ℕ) → AreGoodMembers n ms → AreLineBytes (members_text later ms)
  members_bytes no_members later n h = (byte 125 (omega arith) (omega arith), tt)
  members_bytes (member k d ms) later n h =
      all_append (comma_if later) (quoted k ++ 58 ∷ (compact_text d ++ members_text true ms)) (comma_bytes later)
      (all_append (quoted k) (58 ∷ (compact_text d ++ members_text true ms)) (quoted_bytes k h.0)
      (byte 58 (omega arith) (omega arith), all_append (compact_text d) (members_text true ms) (text_bytes d n h.1) (members_bytes ms true n h.2)))

pub good_bytes : (d : Data) (n : ℕ) → IsGood n d → AreLineBytes (compact_text d)
good_bytes d n h = text_bytes d n h

ascii : (bytes : List ℕ) → AreLineBytes bytes → are_ascii bytes ≡ true
ascii [] h = refl
ascii (b ∷ bytes) h =
    let small : b < 127 = h.0.high in
    let rest : are_ascii bytes ≡ true = ascii bytes h.1 in
    rw rest (grind (arith, nat_tests))

-- such bytes are UTF-8
pub bytes_utf8 : (bytes : List ℕ) → AreLineBytes bytes → IsUtf8 bytes
bytes_utf8 bytes h = IsUtf8-are_ascii bytes (ascii bytes h)

-- a line ends at its first line feed
pub cut_once : (xs ys t u : List ℕ) → AreLineBytes xs → AreLineBytes ys → xs ++ 10 ∷ t ≡ ys ++ 10 ∷ u → (xs ≡ ys) × (t ≡ u)
cut_once [] [] t u h k e = (refl, cc)
cut_once [] (y ∷ ys) t u h k e = let same : 10 ≡ y = cc in absurd (omega (arith, k.0.low))
cut_once (x ∷ xs) [] t u h k e = let same : x ≡ 10 = cc in absurd (omega (arith, h.0.low))
cut_once (x ∷ xs) (y ∷ ys) t u h k e =
    let rest : xs ++ 10 ∷ t ≡ ys ++ 10 ∷ u = cc in
    let first : x ≡ y = cc in
    let both = cut_once xs ys t u h.1 k.1 rest in
    (ap (λ (zs : List ℕ). x ∷ zs) both.0 ∙ ap (λ (z : ℕ). z ∷ ys) first, both.1)
